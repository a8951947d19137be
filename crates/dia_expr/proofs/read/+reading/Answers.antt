use Rattle.std.proofs.Common.{◌≡◌, ◌∷◌, ℕ, List, None, Some, ap, sym, subst, ◌∙◌}
use Rattle.std.proofs.lemmas.List.{length-map}
use Rattle.std.specs.Option.{option_map}
use Rattle.row_defs.specs.Expressions.{whole, beginning_of, and_operands}
use Rattle.dia_expr.specs.declared.read.ExprErr.TheVariants.{UnknownWord}
use Rattle.dia_expr.specs.Exprs.{expr_in}
use Rattle.dia_expr.specs.Beginnings.{form_in, beginning_in}
use Rattle.dia_expr.specs.Reads.{words_in, IsRead, IsStopAt}
use Rattle.dia_expr.proofs.ReadLemmas.{stop_empty, stop_unknown, stop_form, stop_behind, read_whole, read_form}
use Rattle.dia_expr.specs.declared.spelling.Form.{Form}
use Rattle.dia_expr.proofs.read.+reading.Goals as goal
use Rattle.dia_edge.proofs.Results.{IfOk-map, IfErr-map, err_is}

pub read_first-returns-in_default-clause-stop : goal.read_first-returns-in_default-clause-stop
read_first-returns-in_default-clause-stop t c =
    stop_empty (words_in c.args.words.now) (length-map c.args.words.now _ ∙ c.in_default.ensures.cases)

pub read_first-returns-in-None-clause-stop : goal.read_first-returns-in-None-clause-stop
read_first-returns-in-None-clause-stop t c =
    let P : List (List ℕ) → Type 0 = λ ws. IsStopAt 1 UnknownWord ws in
    let e : words_in c.args.words.now ≡ c.in-Some.word.now.now ∷ words_in c.in-Some.rest.now = ap words_in c.in-Some.ensures.cases.0 in
    let none : beginning_of c.in-Some.word.now.now ≡ None = sym c.in_ok-beginning_of.ensures ∙ ap (option_map beginning_in) c.in-None.is in
    subst P (sym e) (stop_unknown c.in-Some.word.now.now (words_in c.in-Some.rest.now) none)

pub read_first-returns-in_ok-boxed-in-Some-Whole-clause-read :
    goal.read_first-returns-in_ok-boxed-in-Some-Whole-clause-read
read_first-returns-in_ok-boxed-in-Some-Whole-clause-read t c =
    let P : List (List ℕ) → Type 0 = λ ws. IsRead ws (expr_in c.in_ok-boxed-in-Some-Whole.field-0.value) (words_in c.in-Some.rest.now) in
    let e : words_in c.args.words.now ≡ c.in-Some.word.now.now ∷ words_in c.in-Some.rest.now = ap words_in c.in-Some.ensures.cases.0 in
    let is : beginning_of c.in-Some.word.now.now ≡ Some (whole (expr_in c.in_ok-boxed-in-Some-Whole.field-0.value)) =
    sym c.in_ok-beginning_of.ensures ∙ ap (option_map beginning_in) c.in-Some-Whole.is
    ∙ ap (λ b. Some (beginning_in b)) c.in-Some-Whole.field-0-is
    ∙ ap (λ x. Some (whole (expr_in x))) (sym c.in_ok-boxed-in-Some-Whole.ensures) in
    subst P (sym e) (read_whole c.in-Some.word.now.now (words_in c.in-Some.rest.now) (expr_in c.in_ok-boxed-in-Some-Whole.field-0.value) is)

pub read_first-returns-in-Some-Form-clause-read : goal.read_first-returns-in-Some-Form-clause-read
read_first-returns-in-Some-Form-clause-read t c =
    let e : words_in c.args.words.now ≡ c.in-Some.word.now.now ∷ words_in c.in-Some.rest.now = ap words_in c.in-Some.ensures.cases.0 in
    let is : beginning_of c.in-Some.word.now.now ≡ Some (form_in c.in-Some-Form.form) =
    sym c.in_ok-beginning_of.ensures ∙ ap (option_map beginning_in) c.in-Some-Form.is
    ∙ ap (λ b. Some (beginning_in b)) c.in-Some-Form.field-0-is in
    IfOk-map c.read_form.result _ _
    (λ first r.
    let P : List (List ℕ) → Type 0 = λ ws. IsRead ws (expr_in first.0.value) (words_in first.1.now) in
    subst P (sym e) (read_form c.in-Some.word.now.now (words_in c.in-Some.rest.now) (words_in first.1.now) (form_in c.in-Some-Form.form) (expr_in first.0.value) is r))
    c.read_form.ensures.read

pub read_first-returns-in-Some-Form-clause-stop : goal.read_first-returns-in-Some-Form-clause-stop
read_first-returns-in-Some-Form-clause-stop t c =
    let e : words_in c.args.words.now ≡ c.in-Some.word.now.now ∷ words_in c.in-Some.rest.now = ap words_in c.in-Some.ensures.cases.0 in
    let is : beginning_of c.in-Some.word.now.now ≡ Some (form_in c.in-Some-Form.form) =
    sym c.in_ok-beginning_of.ensures ∙ ap (option_map beginning_in) c.in-Some-Form.is
    ∙ ap (λ b. Some (beginning_in b)) c.in-Some-Form.field-0-is in
    IfErr-map c.read_form.result _ _
    (λ why s.
    let P : List (List ℕ) → Type 0 = λ ws. IsStopAt 1 why ws in
    subst P (sym e) (stop_form why c.in-Some.word.now.now (words_in c.in-Some.rest.now) (form_in c.in-Some-Form.form) is s))
    c.read_form.ensures.stop

pub read_form-returns-in_err-x-in-If-clause-stop :
    goal.read_form-returns-in_err-x-in-If-clause-stop
read_form-returns-in_err-x-in-If-clause-stop t c =
    let P : Form → Type 0 = λ form. IsStopAt (and_operands (form_in form) 0) c.in_err-x-in-If.field-0.0 (words_in c.args.words.now) in
    err_is _ c.from_residual-in_err-x-in-If.result c.in_err-x-in-If.field-0.0 c.from_residual-in_err-x-in-If.ensures.1
    (subst P (sym c.in-If.is) (stop_behind 2 c.in_err-x-in-If.field-0.0 (words_in c.args.words.now) (words_in c.in_ok-c-in-If.rest.now)
    (expr_in c.in_ok-c-in-If.c.value) c.in_ok-c-in-If.ensures.read c.in_err-x-in-If.ensures.stop))

pub read_pair-returns-in_err-b-clause-stop : goal.read_pair-returns-in_err-b-clause-stop
read_pair-returns-in_err-b-clause-stop t c =
    err_is _ c.from_residual-in_err-b.result c.in_err-b.field-0.0 c.from_residual-in_err-b.ensures.1
    (stop_behind 1 c.in_err-b.field-0.0 (words_in c.args.words.now) (words_in c.in_ok-a.rest.now)
    (expr_in c.in_ok-a.a.value) c.in_ok-a.ensures.read c.in_err-b.ensures.stop)
