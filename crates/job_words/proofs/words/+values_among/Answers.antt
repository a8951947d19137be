use Rattle.std.proofs.Common.{ℕ, List, Bor, sym, ap, ◌∙◌}
use Rattle.job_words.specs.Words.{values_for, items_of}
use Rattle.job_words.specs.Cutting.{item_view, few_of}
use Rattle.job_words.proofs.FewLemmas.{one_more, given_more}
use Rattle.job_words.proofs.words.+values_among.Goals as goal

pub returns-in-Some-value_for : goal.returns-in-Some-value_for
returns-in-Some-value_for n c =
    let items = items_of c.in-Some.rest.now in
    let option = c.args.option.now in
    rw (c.in-Some.ensures.some, c.with_one.ensures)
    (one_more (λ (value : Bor (List ℕ)). value.now) c.in-Some-value_for.value c.values_among-behind.result (values_for option items) c.values_among-behind.ensures
    ∙ ap few_of (sym (given_more option c.in-Some-value_for.value.now (item_view c.in-Some.item) items (sym c.in-Some-value_for.ensures))))
