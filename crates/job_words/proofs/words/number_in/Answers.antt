use Rattle.std.proofs.Common.{ℕ, List, Bor, sym, ◌∙◌, ap, Some}
use Rattle.job_words.specs.Settings.{row_of}
use Rattle.job_words.specs.Words.{values_for, items_of}
use Rattle.job_words.proofs.FewLemmas.{number_of_one, number_of_none, number_of_more}
use Rattle.job_words.proofs.words.number_in.Goals as goal

pub returns-in-None-clause-number : goal.returns-in-None-clause-number
returns-in-None-clause-number c =
    ap Some c.row-row.ensures.default
    ∙ sym (number_of_none (λ (value : Bor (List ℕ)). value.now) (row_of c.args.setting) (values_for (row_of c.args.setting).name (items_of c.args.words.now)) (rw c.row-row.ensures.name at c.in-None.ensures))

pub returns-in-More-clause-number : goal.returns-in-More-clause-number
returns-in-More-clause-number c =
    sym (number_of_more (λ (value : Bor (List ℕ)). value.now) (row_of c.args.setting) (values_for (row_of c.args.setting).name (items_of c.args.words.now)) (rw c.row-row.ensures.name at c.in-More.ensures))

pub returns-in_ok-number_spelled-in-One-clause-number : goal.returns-in_ok-number_spelled-in-One-clause-number
returns-in_ok-number_spelled-in-One-clause-number c =
    rw (number_of_one (λ (value : Bor (List ℕ)). value.now) (row_of c.args.setting) c.in-One.value (values_for (row_of c.args.setting).name (items_of c.args.words.now)) (rw c.row-row.ensures.name at c.in-One.ensures))
    (rw (← c.number_spelled.ensures, c.in_ok-number_spelled-in-One.was) (rw (← c.row-row.ensures.least, ← c.row-row.ensures.most) c.within.ensures.number))

pub returns-in_err-number_spelled-in-One-clause-number : goal.returns-in_err-number_spelled-in-One-clause-number
returns-in_err-number_spelled-in-One-clause-number c =
    rw (number_of_one (λ (value : Bor (List ℕ)). value.now) (row_of c.args.setting) c.in-One.value (values_for (row_of c.args.setting).name (items_of c.args.words.now)) (rw c.row-row.ensures.name at c.in-One.ensures))
    (rw (← c.number_spelled.ensures, c.in_err-number_spelled-in-One.was) c.from_residual.ensures)
