use Rattle.std.proofs.Common.{rules, ◌≡◌, ◌<◌, ◌∷◌, [], Some, length, List, ℕ, sym, ap, ◌∙◌, arith}
use Rattle.std.proofs.lemmas.List.{length-map}
use Rattle.std.specs.Borrow.{Bor}
use Rattle.dia_expr.specs.Exprs.{expr_in}
use Rattle.dia_expr.specs.Reads.{words_in}
use Rattle.dia_expr.proofs.FaultLemmas.{one_fault-left, one_fault-numbers, exprs_of-one, number_fault-some, number_fault-none}
use Rattle.dia_expr.proofs.read.read_one.Goals as goal

pub returns-then-not-is_empty-clause-err : goal.returns-then-not-is_empty-clause-err
returns-then-not-is_empty-clause-err c =
    let some : 0 < length c.in_ok-expr.rest.now = search rules in
    one_fault-left (words_in c.args.words.now) (words_in c.in_ok-expr.rest.now) (expr_in c.in_ok-expr.expr.value) c.in_ok-expr.ensures.read
    (omega (arith, some, length-map c.in_ok-expr.rest.now (λ (word : Bor (List ℕ)). word.now)))

pub returns-then-has_bad_number-clause-err : goal.returns-then-has_bad_number-clause-err
returns-then-has_bad_number-clause-err c =
    let none : length c.in_ok-expr.rest.now ≡ 0 = search rules in
    one_fault-numbers (words_in c.args.words.now) (words_in c.in_ok-expr.rest.now) (expr_in c.in_ok-expr.expr.value) c.in_ok-expr.ensures.read
    (length-map c.in_ok-expr.rest.now _ ∙ none)
    ∙ number_fault-some (words_in c.args.words.now) (sym c.has_bad_number.ensures ∙ c.if-has_bad_number.true)

pub returns-clause-expr : goal.returns-clause-expr
returns-clause-expr c =
    let none : length c.in_ok-expr.rest.now ≡ 0 = search rules in
    exprs_of-one (words_in c.args.words.now) (words_in c.in_ok-expr.rest.now) (expr_in c.in_ok-expr.expr.value) c.in_ok-expr.ensures.read
    (length-map c.in_ok-expr.rest.now _ ∙ none)
    ∙ ap (λ e. Some (expr_in e ∷ [])) (sym c.into_inner.ensures)

pub returns-clause-ok : goal.returns-clause-ok
returns-clause-ok c =
    let none : length c.in_ok-expr.rest.now ≡ 0 = search rules in
    one_fault-numbers (words_in c.args.words.now) (words_in c.in_ok-expr.rest.now) (expr_in c.in_ok-expr.expr.value) c.in_ok-expr.ensures.read
    (length-map c.in_ok-expr.rest.now _ ∙ none)
    ∙ number_fault-none (words_in c.args.words.now) (sym c.has_bad_number.ensures ∙ c.if-has_bad_number.false)
