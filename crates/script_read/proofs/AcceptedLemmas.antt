-- What follows where no cause applies to a line.
use Rattle.std.proofs.Common.{◌≡◌, ℕ, ◌<◌, ◌≤◌, Bool, true, false, not, cond, leb, List, [], ◌∷◌, length, drop, Option, None, Some, is_none, IsSome, unwrap_or, slice_get, refl, sym, arith, length-drop}
use Rattle.std.specs.List.{list_all, list_any}
use Rattle.std.proofs.lemmas.Bool.{or_parts, and_parts, true≢false, leb-true, not-false}
use Rattle.std.proofs.lemmas.Option.{slice_get-get_or}
use Rattle.row_defs.specs.declared.kind.Kind.{Kind}
use Rattle.row_defs.specs.declared.kind.Kind.TheVariants.{Int, Text}
use Rattle.row_defs.specs.declared.cause.Cause.TheVariants.{BadForm, UnknownWord, BadNumber}
use Rattle.row_defs.specs.Texts.{number_spelled, number_or_0}
use Rattle.row_defs.specs.Values.{Expr, expr_kind}
use Rattle.row_defs.specs.Expressions as spelling
use Rattle.row_defs.specs.Expressions.{Beginning, beginning_of, whole, with_one, with_two, with_three, onto, exprs_of, begins_none, list_fault, number_fault}
use Rattle.script_defs.specs.declared.shape.Shape.{Shape}
use Rattle.script_defs.specs.declared.shape.NumberPlace.{NumberPlace}
use Rattle.script_defs.specs.declared.shape.ColumnPlace.{ColumnPlace}
use Rattle.script_defs.specs.Stating.{first_expr}
use Rattle.script_defs.specs.Reading.{Known, Sentence, Test, first_cause, tests_of, exprs_without, value_in, exprs_fault, is_printable, is_bad_form, is_unknown_word, is_bad_number, has_bad_name, has_bad_bytes, has_bad_words, fits_count, is_outside, is_number_outside, is_kind, is_other_kind, is_one_int}
use Rattle.script_read.specs.Accepting.{IsAccepted}
use Rattle.dia_expr.proofs.KindLemmas.{text_from, int_from}

abbrev none_apply : List Test → Type 0
none_apply [] = Unit {0}
none_apply (test ∷ tests) = (test.applies ≡ false) × none_apply tests

no_test : (tests : List Test) → first_cause tests ≡ None → none_apply tests
no_test [] is = tt
no_test (test ∷ tests) is =
    elim test.applies as (λ t. cond t (Some test.cause) (first_cause tests) ≡ None → (t ≡ false) × none_apply tests) [
      | true ↦ λ e. let wrong : ⊥ = cc in absurd wrong
      | false ↦ λ e. (refl, no_test tests e)
    ] is

pub accepted : (known : Known) (bytes : List ℕ) (s : Sentence) (shape : Shape) → first_cause (tests_of known bytes s shape) ≡ None
    → IsAccepted known shape s.args × (list_all is_printable bytes ≡ true)
accepted known bytes s shape is =
    let names = no_test (tests_of known bytes s shape) is in
    let words = names.1.1.1 in
    let columns = words.1.1 in
    let form = or_parts (has_bad_bytes bytes s) (has_bad_words shape s.args) names.0 in
    let whole_line = or_parts (not (list_all is_printable bytes)) (has_bad_name s.defines s.word) form.0 in
    let behind = or_parts (not (fits_count shape s.args)) (is_bad_form (exprs_fault shape.exprs s.args)) form.1 in (
      record {
        count = not-false (fits_count shape s.args) behind.0;
        spelled = behind.1;
        operands = names.1.0;
        words = words.0;
        numbers = words.1.0;
        columns = columns.0;
        kinds = columns.1.0;
      },
      not-false (list_all is_printable bytes) whole_line.0,
    )

-- expressions ----------------------------------------------------------------------------------------------------

some_onto : (b : Option Beginning) (o : Option (List Expr)) (exprs : List Expr) → onto b o ≡ Some exprs → 0 < length exprs
some_onto b o [] is = absurd (none_onto b o is)
  where
    none_onto : (b : Option Beginning) (o : Option (List Expr)) → onto b o ≡ Some [] → ⊥
    none_onto None o is = cc
    none_onto (Some (whole e)) None is = cc
    none_onto (Some (whole e)) (Some exprs) is = cc
    none_onto (Some (with_one f)) None is = cc
    none_onto (Some (with_one f)) (Some []) is = cc
    none_onto (Some (with_one f)) (Some (x ∷ exprs)) is = cc
    none_onto (Some (with_two f)) None is = cc
    none_onto (Some (with_two f)) (Some []) is = cc
    none_onto (Some (with_two f)) (Some (x ∷ [])) is = cc
    none_onto (Some (with_two f)) (Some (x ∷ y ∷ exprs)) is = cc
    none_onto (Some (with_three f)) None is = cc
    none_onto (Some (with_three f)) (Some []) is = cc
    none_onto (Some (with_three f)) (Some (x ∷ [])) is = cc
    none_onto (Some (with_three f)) (Some (x ∷ y ∷ [])) is = cc
    none_onto (Some (with_three f)) (Some (x ∷ y ∷ z ∷ exprs)) is = cc
some_onto b o (e ∷ exprs) is = omega arith

some_read : (o : Option (List Expr)) → ((exprs : List Expr) → o ≡ Some exprs → 0 < length exprs) → is_none o ≡ false → 0 < length (unwrap_or o [])
some_read None some is = absurd (true≢false is)
some_read (Some exprs) some is = some exprs refl

some_of : (words : List (List ℕ)) → 0 < length words → is_none (exprs_of words) ≡ false → 0 < length (unwrap_or (exprs_of words) [])
unfolding exprs_of
some_of [] some is = absurd (omega arith)
some_of (w ∷ words) some is = some_read (onto (beginning_of w) (exprs_of words)) (λ exprs e. some_onto (beginning_of w) (exprs_of words) exprs e) is

by_numbers : (words : List (List ℕ)) (t : Bool) → 0 < length words → is_none (exprs_of words) ≡ false
    → is_bad_number (cond t (Some BadNumber) None) ≡ false → 0 < length (exprs_without (cond t (Some BadNumber) None) words)
by_numbers words true some read numbers = absurd (true≢false numbers)
by_numbers words false some read numbers = some_of words some read

by_form : (words : List (List ℕ)) (t : Bool) → 0 < length words → is_none (exprs_of words) ≡ t
    → is_bad_form (cond t (Some BadForm) (number_fault words)) ≡ false → is_bad_number (cond t (Some BadForm) (number_fault words)) ≡ false
    → 0 < length (exprs_without (cond t (Some BadForm) (number_fault words)) words)
by_form words true some read form numbers = absurd (true≢false form)
by_form words false some read form numbers = by_numbers words (list_any spelling.is_bad_number words) some read numbers

by_list : (words : List (List ℕ)) (t : Bool) → 0 < length words
    → is_bad_form (cond t (Some UnknownWord) (cond (is_none (exprs_of words)) (Some BadForm) (number_fault words))) ≡ false
    → is_unknown_word (cond t (Some UnknownWord) (cond (is_none (exprs_of words)) (Some BadForm) (number_fault words))) ≡ false
    → is_bad_number (cond t (Some UnknownWord) (cond (is_none (exprs_of words)) (Some BadForm) (number_fault words))) ≡ false
    → 0 < length (exprs_without (cond t (Some UnknownWord) (cond (is_none (exprs_of words)) (Some BadForm) (number_fault words))) words)
by_list words true some form known numbers = absurd (true≢false known)
by_list words false some form known numbers = by_form words (is_none (exprs_of words)) some refl form numbers

length-drop_one : (args : List (List ℕ)) → 2 ≤ length args → 0 < length (drop 1 args)
length-drop_one args two = let rest = length-drop 1 args in omega arith

-- a list of expressions has one, where there are words
pub some_exprs : (args : List (List ℕ)) → 2 ≤ length args → is_bad_form (list_fault (drop 1 args)) ≡ false
    → is_unknown_word (list_fault (drop 1 args)) ≡ false → is_bad_number (list_fault (drop 1 args)) ≡ false
    → 0 < length (exprs_without (list_fault (drop 1 args)) (drop 1 args))
some_exprs args two form words numbers =
    by_list (drop 1 args) (list_any begins_none (drop 1 args)) (length-drop_one args two) form words numbers

this_kind : (kind : Kind) (of : Option Kind) → is_kind kind of ≡ true → of ≡ Some kind
this_kind Int of is = int_from of is
this_kind Text of is = text_from of is

pub one_int : (kinds : List Kind) (exprs : List Expr) → is_one_int kinds exprs ≡ true → expr_kind kinds (first_expr exprs) ≡ Some Int
one_int kinds [] is = absurd (true≢false (sym is))
one_int kinds (e ∷ []) is = int_from (expr_kind kinds e) is
one_int kinds (e ∷ x ∷ exprs) is = absurd (true≢false (sym is))

-- numbers and columns ---------------------------------------------------------------------------------------------

pub there_at : (args : List (List ℕ)) (n : ℕ) → n < length args → IsSome (slice_get args n)
there_at args n within = rw (slice_get-get_or args n [] within) refl

pub column_kind_is : (place : ColumnPlace) (kinds : List Kind) (w : Option (List ℕ)) → IsSome w → is_other_kind (Some place) kinds w ≡ false
    → slice_get kinds (value_in w) ≡ Some place.kind
column_kind_is place kinds None some is = absurd (true≢false (sym some))
column_kind_is place kinds (Some w) some is =
    this_kind place.kind (slice_get kinds (number_or_0 w)) (not-false (is_kind place.kind (slice_get kinds (number_or_0 w))) is)

in_range : (least most : ℕ) (o : Option ℕ) → is_number_outside least most o ≡ false → (least ≤ unwrap_or o 0) × (unwrap_or o 0 ≤ most)
in_range least most None is = absurd (true≢false is)
in_range least most (Some n) is =
    let parts = and_parts (leb least n) (leb n most) (not-false _ is) in
    (leb-true least n parts.0, leb-true n most parts.1)

pub value_in_range : (place : NumberPlace) (w : Option (List ℕ)) → IsSome w → is_outside (Some place) w ≡ false
    → (place.least ≤ value_in w) × (value_in w ≤ place.most)
value_in_range place None some is = absurd (true≢false (sym some))
value_in_range place (Some w) some is = in_range place.least place.most (number_spelled w) is
