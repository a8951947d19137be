use Rattle.std.proofs.Common.{ℕ, List, IfErr, ap, subst, ◌∙◌}
use Rattle.row_defs.specs.Expressions.{list_fault}
use Rattle.dia_expr.specs.Reads.{words_in, IsFault}
use Rattle.dia_expr.proofs.read.read_exprs.Goals as goal

pub returns-clause-err : goal.returns-clause-err
returns-clause-err c =
    let P : List (List ℕ) → Type 0 = λ ws. IfErr c.read_words.result (λ why. IsFault why (list_fault ws)) in
    subst P (ap words_in c.as_slice.ensures.value ∙ c.in_ok-words.ensures) c.read_words.ensures.err
