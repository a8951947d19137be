use Rattle.std.proofs.Common.{rules, ◌<◌, ◌∙◌, sym, length}
use Rattle.dia_expr.proofs.WordLemmas.{words_none, words_split, run_some}
use Rattle.dia_expr.proofs.texts.split_word.Goals as goal

pub returns-then-is_empty-clause-none : goal.returns-then-is_empty-clause-none
returns-then-is_empty-clause-none c = sym c.skip_blanks-rest.ensures.words ∙ words_none _ (search rules)

pub returns-clause-word : goal.returns-clause-word
returns-clause-word c =
    let r = c.run_len-n.ensures in
    let some : 0 < length c.skip_blanks-rest.result.now = search rules in
    rw (c.split_at.ensures.front, c.split_at.ensures.back)
    (sym c.skip_blanks-rest.ensures.words ∙ words_split _ _ (run_some _ _ some c.skip_blanks-rest.ensures.begins r.end) r.len r.run r.end)
