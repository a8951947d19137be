use Rattle.std.proofs.Common.{rules, ◌≡◌, ◌<◌, ℕ, List, map, length, ◌∙◌, arith}
use Rattle.std.proofs.lemmas.List.{length-map}
use Rattle.std.specs.Borrow.{Bor}
use Rattle.dia_expr.specs.Exprs.{expr_in}
use Rattle.dia_expr.specs.Reads.{words_in}
use Rattle.dia_expr.proofs.FaultLemmas.{exprs_of-done, list_stop-first}
use Rattle.dia_expr.proofs.read.+read_onto.Goals as goal
use Rattle.dia_edge.proofs.Results.{err_is}

pub returns-then-is_empty-clause-read : goal.returns-then-is_empty-clause-read
returns-then-is_empty-clause-read t c =
    let none : length c.args.words.now ≡ 0 = search rules in
    exprs_of-done (words_in c.args.words.now) (map expr_in c.args.exprs.now.items) (length-map c.args.words.now _ ∙ none)

pub returns-in_err-expr-clause-stop : goal.returns-in_err-expr-clause-stop
returns-in_err-expr-clause-stop t c =
    let some : 0 < length c.args.words.now = search rules in
    err_is _ c.from_residual.result c.in_err-expr.field-0.0 c.from_residual.ensures.1
    (list_stop-first (words_in c.args.words.now) c.in_err-expr.field-0.0
    (omega (arith, some, length-map c.args.words.now (λ (word : Bor (List ℕ)). word.now))) c.in_err-expr.ensures.stop)
