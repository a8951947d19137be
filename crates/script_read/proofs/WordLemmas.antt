-- A statement without a cause is sound, word by word.
use Rattle.std.proofs.Common.{◌≡◌, ℕ, ◌<◌, ◌≤◌, Bool, true, false, ◌||◌, leb, List, [], ◌∷◌, length, take, drop, Option, None, Some, is_none, IsSome, slice_get, unwrap_or, refl, sym, ap, ◌∙◌, subst, arith}
use Rattle.std.specs.List.{list_any, filter_map}
use Rattle.std.proofs.lemmas.Bool.{or_parts, and_parts, true≢false, leb-true, not-false}
use Rattle.row_defs.specs.declared.kind.Kind.{Kind}
use Rattle.row_defs.specs.declared.kind.Kind.TheVariants.{Int, Text}
use Rattle.row_defs.specs.Expressions.{list_fault}
use Rattle.row_defs.specs.Limits.{most_columns}
use Rattle.row_defs.specs.Values.{Expr, expr_kind}
use Rattle.row_defs.specs.LocalOps.{LocalOp, map_op, filter_op, words_op, spread_op, HaveKinds, IsSoundOp, op_kinds, most_spread}
use Rattle.script_defs.specs.declared.word.Word.{Word}
use Rattle.script_defs.specs.declared.word.Word.TheVariants.{Lines, Generate, Map, Filter, FlatMap, Cache, Print, Size, Sum}
use Rattle.script_defs.specs.declared.word.Selector.{Selector}
use Rattle.script_defs.specs.declared.word.Selector.TheVariants.{Words, Spread}
use Rattle.script_defs.specs.declared.shape.ColumnPlace.{ColumnPlace}
use Rattle.script_defs.specs.declared.shape.ExprPlace.TheVariants as places
use Rattle.script_defs.specs.declared.shape.NumberPlace.{NumberPlace}
use Rattle.script_defs.specs.declared.shape.Shape.{Shape}
use Rattle.script_defs.specs.Limits.{most_numbers}
use Rattle.script_defs.specs.Shapes.{shape_of}
use Rattle.script_defs.specs.Scripts.{Form, local_form, cache_form, form_kinds, Action, print_action, size_action, sum_action, action_operand, Statement, line, act, first_kinds}
use Rattle.script_defs.specs.Stating.{first_operand, first_expr, op_selected, statement_of}
use Rattle.script_defs.specs.Reading.{Earlier, Known, Sentence, first_cause, tests_of, said_of, earlier_named, selector_in, shape_in, operands_in, operand_kinds, kinds_among, numbers_among, number_word, column_word, exprs_in, value_in, statement_in, kinds_of_line, is_unknown_word, is_bad_number, is_outside, is_no_number, is_other_kind, is_one_int, have_no_kinds, has_bad_kind}
use Rattle.script_defs.specs.Sound.{earlier_numbered, kinds_of_earlier, kinds_of_statement, IsSoundAction, IsSoundStatement}
use Rattle.script_read.specs.Accepting.{IsAccepted, IsStatable, CanTell, CanTellStatement}
use Rattle.script_read.proofs.Counting.{length-filter_map}
use Rattle.script_read.proofs.FindingLemmas.{IsNumbered}
use Rattle.script_read.proofs.AcceptedLemmas.{accepted, some_exprs, one_int, there_at, column_kind_is, value_in_range}

-- the operand ------------------------------------------------------------------------------------------------------

-- the words name one earlier line
pub record IsOperand (known : Known) (operands : List Earlier) : Type 0 where
  pub one : Earlier
  pub name : List ℕ
  pub is : operands ≡ one ∷ []
  pub named : earlier_named known name ≡ Some one

one_named : (known : Known) (w : List ℕ) (o : Option Earlier) → earlier_named known w ≡ o → is_none o ≡ false
    → IsOperand known (filter_map (earlier_named known) (w ∷ []))
one_named known w None is some = absurd (true≢false some)
one_named known w (Some e) is some = record { one = e; name = w; is = rw is refl; named = is }

operand_there : (known : Known) (args : List (List ℕ)) → 0 < length args → list_any (λ w. is_none (earlier_named known w)) (take 1 args) ≡ false
    → IsOperand known (filter_map (earlier_named known) (take 1 args))
operand_there known [] some all = absurd (omega arith)
operand_there known (w ∷ args) some all =
    one_named known w (earlier_named known w) refl (or_parts (is_none (earlier_named known w)) false all).0

-- sound statements -------------------------------------------------------------------------------------------------

-- the statement names earlier lines and its expressions have kinds, and the rows are of the kinds that were noted
pub record IsSoundStated (known : Known) (s : Statement) (kinds : List Kind) : Type 0 where
  pub sound : IsSoundStatement known s
  pub result : kinds ≡ kinds_of_statement known s

-- so it is where its rows haven't too many columns; and the kinds of its rows can be told
pub record IsTold (known : Known) (operands : List Earlier) (s : Statement) (kinds : List Kind) : Type 0 where
  pub stated : (n : ℕ) → IsNumbered known n → length kinds ≤ most_columns → IsSoundStated known s kinds
  pub tells : CanTellStatement (kinds_among operands) s

told_local : (known : Known) (name : List ℕ) (operands : List Earlier) (op : LocalOp) → IsOperand known operands
    → (length (op_kinds (first_kinds (kinds_among operands)) op) ≤ most_columns → IsSoundOp (first_kinds (kinds_among operands)) op)
    → CanTell (kinds_among operands) (local_form (first_operand (numbers_among operands)) op)
    → IsTold known operands (line name (local_form (first_operand (numbers_among operands)) op)) (op_kinds (first_kinds (kinds_among operands)) op)
told_local known name operands op h sound tells = record {
  stated = λ n numbered few.
      let Told : List Earlier → Type 0 = λ es. IsSoundOp (first_kinds (kinds_among es)) op
      → IsSoundStated known (line name (local_form (first_operand (numbers_among es)) op)) (op_kinds (first_kinds (kinds_among es)) op) in
      let found = numbered.again h.name h.one h.named in
      let Is : Option Earlier → Type 0 = λ o. IsSome o in
      let Sound : Option Earlier → Type 0 = λ o. IsSoundOp (kinds_of_earlier o) op in
      let at_one : Told (h.one ∷ []) = λ s. record {
        sound = (subst Is (sym found) refl, subst Sound (sym found) s);
        result = ap (λ o. op_kinds (kinds_of_earlier o) op) (sym found);
      } in
      subst Told (sym h.is) at_one (sound few);
  tells = tells;
}

told_action : (known : Known) (operands : List Earlier) (action : ℕ → Action) → ((n : ℕ) → action_operand (action n) ≡ n) → IsOperand known operands
    → ((n : ℕ) → IsSoundAction (first_kinds (kinds_among operands)) (action n))
    → IsTold known operands (act (action (first_operand (numbers_among operands)))) []
told_action known operands action names h sound = record {
  stated = λ n numbered few.
      let Told : List Earlier → Type 0 = λ es. ((m : ℕ) → IsSoundAction (first_kinds (kinds_among es)) (action m))
      → IsSoundStated known (act (action (first_operand (numbers_among es)))) [] in
      let found = ap (λ m. earlier_numbered known m) (names h.one.number) ∙ numbered.again h.name h.one h.named in
      let Is : Option Earlier → Type 0 = λ o. IsSome o in
      let Sound : Option Earlier → Type 0 = λ o. IsSoundAction (kinds_of_earlier o) (action h.one.number) in
      let at_one : Told (h.one ∷ []) = λ s. record {
        sound = (subst Is (sym found) refl, subst Sound (sym found) (s h.one.number));
        result = refl;
      } in
      subst Told (sym h.is) at_one sound;
  tells = tt;
}

some_kinds : (known : Known) (operands : List Earlier) → IsOperand known operands → 0 < length (kinds_among operands)
some_kinds known operands h = let Some_kinds : List Earlier → Type 0 = λ es. 0 < length (kinds_among es) in subst Some_kinds (sym h.is) (omega arith)

told_cached : (known : Known) (name : List ℕ) (operands : List Earlier) → IsOperand known operands
    → IsTold known operands (line name (cache_form (first_operand (numbers_among operands)))) (first_kinds (kinds_among operands))
told_cached known name operands h = record {
  stated = λ n numbered few.
      let Told : List Earlier → Type 0 = λ es. IsSoundStated known (line name (cache_form (first_operand (numbers_among es)))) (first_kinds (kinds_among es)) in
      let found = numbered.again h.name h.one h.named in
      let Is : Option Earlier → Type 0 = λ o. IsSome o in
      let at_one : Told (h.one ∷ []) = record { sound = subst Is (sym found) refl; result = ap kinds_of_earlier (sym found) } in
      subst Told (sym h.is) at_one;
  tells = some_kinds known operands h;
}

-- the kinds that a word asks for -----------------------------------------------------------------------------------

have_kinds : (kinds : List Kind) (exprs : List Expr) → list_any (λ e. is_none (expr_kind kinds e)) exprs ≡ false → HaveKinds kinds exprs
have_kinds kinds [] all = tt
have_kinds kinds (e ∷ exprs) all =
    let parts = or_parts (is_none (expr_kind kinds e)) (list_any (λ x. is_none (expr_kind kinds x)) exprs) all in
    (some_kind (expr_kind kinds e) parts.0, have_kinds kinds exprs parts.1)
  where
    some_kind : (o : Option Kind) → is_none o ≡ false → IsSome o
    some_kind None some = absurd (true≢false some)
    some_kind (Some kind) some = refl

-- what was tested of the first operand's kinds
tested : (known : Known) (operands : List Earlier) (shape : Shape) (args : List (List ℕ)) → IsOperand known operands
    → has_bad_kind (operand_kinds operands) shape args ≡ false → has_bad_kind (Some (first_kinds (kinds_among operands))) shape args ≡ false
tested known operands shape args h is =
    let Tested : List Earlier → Type 0 = λ es. has_bad_kind (operand_kinds es) shape args ≡ false → has_bad_kind (Some (first_kinds (kinds_among es))) shape args ≡ false in
    let at_one : Tested (h.one ∷ []) = λ e. e in
    subst Tested (sym h.is) at_one is

-- what isn't of another kind
column_of : (kinds : List Kind) (place : ColumnPlace) (w : Option (List ℕ)) (more : Bool) → IsSome w → (is_other_kind (Some place) kinds w || more) ≡ false
    → slice_get kinds (value_in w) ≡ Some place.kind
column_of kinds place w more there is = column_kind_is place kinds w there (or_parts (is_other_kind (Some place) kinds w) more is).0

-- word by word ------------------------------------------------------------------------------------------------------

abbrev pub IsToldWord : Known → Option (List ℕ) → Word → List (List ℕ) → Type 0
IsToldWord known name word args = IsTold known (operands_in known (shape_in word args) args) (statement_in known name word args) (kinds_of_line known name word args)

told_lines : (known : Known) (name : Option (List ℕ)) (args : List (List ℕ)) → IsToldWord known name Lines args
told_lines known name args = record { stated = λ n numbered few. record { sound = tt; result = refl }; tells = tt }

told_generate : (known : Known) (name : Option (List ℕ)) (args : List (List ℕ)) → IsAccepted known (shape_in Generate args) args → IsToldWord known name Generate args
told_generate known name args h =
    let count = and_parts (leb 1 (length args)) (leb (length args) 1) h.count in
    let place : NumberPlace = record { place = 0; least = 0; most = most_numbers } in
    let one = leb-true 1 (length args) count.0 in
    let parts = or_parts (is_outside (Some place) (slice_get args 0) || false) false h.numbers in
    let outside = or_parts (is_outside (Some place) (slice_get args 0)) false parts.0 in
    let range = value_in_range place (slice_get args 0) (there_at args 0 (omega arith)) outside.0 in
    record { stated = λ n numbered few. record { sound = range.1; result = refl }; tells = tt }

told_map : (known : Known) (name : Option (List ℕ)) (args : List (List ℕ)) → IsAccepted known (shape_in Map args) args → IsToldWord known name Map args
told_map known name args h =
    let two = leb-true 2 (length args) (and_parts (leb 2 (length args)) true h.count).0 in
    let operands = operands_in known (shape_in Map args) args in
    let ks = first_kinds (kinds_among operands) in
    let exprs = exprs_in (places.List 1) args in
    let operand = operand_there known args (omega arith) h.operands in
    let words = or_parts false (is_unknown_word (list_fault (drop 1 args))) h.words in
    let numbers = or_parts false (is_bad_number (list_fault (drop 1 args))) h.numbers in
    let some = some_exprs args two h.spelled words.1 numbers.1 in
    let kinds = tested known operands (shape_in Map args) args operand h.kinds in
    let all = (or_parts false (have_no_kinds (places.List 1) ks exprs) kinds).1 in
    told_local known _ operands (map_op exprs) operand
    (λ few. (have_kinds ks exprs all, some, let same = length-filter_map (expr_kind ks) exprs all in omega arith))
    (some_kinds known operands operand, some, all)

told_filter : (known : Known) (name : Option (List ℕ)) (args : List (List ℕ)) → IsAccepted known (shape_in Filter args) args → IsToldWord known name Filter args
told_filter known name args h =
    let two = leb-true 2 (length args) (and_parts (leb 2 (length args)) true h.count).0 in
    let operands = operands_in known (shape_in Filter args) args in
    let ks = first_kinds (kinds_among operands) in
    let exprs = exprs_in (places.Test 1) args in
    let operand = operand_there known args (omega arith) h.operands in
    let kinds = tested known operands (shape_in Filter args) args operand h.kinds in
    let one = (or_parts false (have_no_kinds (places.Test 1) ks exprs) kinds).1 in
    told_local known _ operands (filter_op (first_expr exprs)) operand (λ few. one_int ks exprs (not-false (is_one_int ks exprs) one))
    (some_kinds known operands operand)

-- the line that a flatmap with this selector is
abbrev pub flat_form : Known → Option Selector → List (List ℕ) → Form
flat_form known s args =
    let shape = shape_of FlatMap s in
    local_form (first_operand (numbers_among (operands_in known shape args)))
    (op_selected s (value_in (column_word shape.column args)) (value_in (number_word shape.number args)))

abbrev pub IsToldFlatMap : Known → List ℕ → Option Selector → List (List ℕ) → Type 0
IsToldFlatMap known name s args =
    let operands = operands_in known (shape_of FlatMap s) args in
    IsTold known operands (line name (flat_form known s args)) (form_kinds (kinds_among operands) (flat_form known s args))

told_selected : (known : Known) (name : List ℕ) (s : Option Selector) (args : List (List ℕ)) → IsAccepted known (shape_of FlatMap s) args
    → IsToldFlatMap known name s args
told_selected known name None args h = absurd (true≢false (or_parts true false h.words).0)
told_selected known name (Some Words) args h =
    let three = leb-true 3 (length args) (and_parts (leb 3 (length args)) (leb (length args) 3) h.count).0 in
    let shape = shape_of FlatMap (Some Words) in
    let operands = operands_in known shape args in
    let operand = operand_there known args (omega arith) h.operands in
    let kinds = tested known operands shape args operand h.kinds in
    let place : ColumnPlace = record { place = 2; kind = Text } in
    told_local known name operands (words_op (value_in (slice_get args 2))) operand
    (λ few. column_of (first_kinds (kinds_among operands)) place (slice_get args 2) _ (there_at args 2 (omega arith)) kinds)
    (some_kinds known operands operand)
told_selected known name (Some Spread) args h =
    let four = leb-true 4 (length args) (and_parts (leb 4 (length args)) (leb (length args) 4) h.count).0 in
    let shape = shape_of FlatMap (Some Spread) in
    let operands = operands_in known shape args in
    let operand = operand_there known args (omega arith) h.operands in
    let kinds = tested known operands shape args operand h.kinds in
    let place : ColumnPlace = record { place = 2; kind = Int } in
    let number : NumberPlace = record { place = 3; least = 1; most = most_spread } in
    let outside = or_parts (is_outside (Some number) (slice_get args 3)) (is_no_number (slice_get args 2)) (or_parts _ false h.numbers).0 in
    let range = value_in_range number (slice_get args 3) (there_at args 3 (omega arith)) outside.0 in
    told_local known name operands (spread_op (value_in (slice_get args 2)) (value_in (slice_get args 3))) operand
    (λ few. (column_of (first_kinds (kinds_among operands)) place (slice_get args 2) _ (there_at args 2 (omega arith)) kinds, range.0, range.1))
    (some_kinds known operands operand)

told_cache : (known : Known) (name : Option (List ℕ)) (args : List (List ℕ)) → IsAccepted known (shape_in Cache args) args → IsToldWord known name Cache args
told_cache known name args h =
    let one = leb-true 1 (length args) (and_parts (leb 1 (length args)) (leb (length args) 1) h.count).0 in
    told_cached known _ (operands_in known (shape_in Cache args) args) (operand_there known args (omega arith) h.operands)

told_print : (known : Known) (name : Option (List ℕ)) (args : List (List ℕ)) → IsAccepted known (shape_in Print args) args → IsToldWord known name Print args
told_print known name args h =
    let one = leb-true 1 (length args) (and_parts (leb 1 (length args)) (leb (length args) 1) h.count).0 in
    told_action known (operands_in known (shape_in Print args) args) print_action (λ n. refl) (operand_there known args (omega arith) h.operands) (λ n. tt)

told_size : (known : Known) (name : Option (List ℕ)) (args : List (List ℕ)) → IsAccepted known (shape_in Size args) args → IsToldWord known name Size args
told_size known name args h =
    let one = leb-true 1 (length args) (and_parts (leb 1 (length args)) (leb (length args) 1) h.count).0 in
    told_action known (operands_in known (shape_in Size args) args) size_action (λ n. refl) (operand_there known args (omega arith) h.operands) (λ n. tt)

told_sum : (known : Known) (name : Option (List ℕ)) (args : List (List ℕ)) → IsAccepted known (shape_in Sum args) args → IsToldWord known name Sum args
told_sum known name args h =
    let two = leb-true 2 (length args) (and_parts (leb 2 (length args)) (leb (length args) 2) h.count).0 in
    let operands = operands_in known (shape_in Sum args) args in
    let operand = operand_there known args (omega arith) h.operands in
    let kinds = tested known operands (shape_in Sum args) args operand h.kinds in
    let place : ColumnPlace = record { place = 1; kind = Int } in
    told_action known operands (λ n. sum_action n (value_in (slice_get args 1))) (λ n. refl) operand
    (λ n. column_of (first_kinds (kinds_among operands)) place (slice_get args 1) _ (there_at args 1 (omega arith)) kinds)

-- a statement without a cause is sound where its rows haven't too many columns, and the kinds of its rows can be told
pub word_told : (known : Known) (name : Option (List ℕ)) (word : Word) (args : List (List ℕ)) → IsAccepted known (shape_in word args) args
    → IsToldWord known name word args
word_told known name Lines args h = told_lines known name args
word_told known name Generate args h = told_generate known name args h
word_told known name Map args h = told_map known name args h
word_told known name Filter args h = told_filter known name args h
word_told known name FlatMap args h = told_selected known (unwrap_or name []) (selector_in args) args h
word_told known name Cache args h = told_cache known name args h
word_told known name Print args h = told_print known name args h
word_told known name Size args h = told_size known name args h
word_told known name Sum args h = told_sum known name args h

-- what its statement asks for stands there ------------------------------------------------------------------------

some_operands : (known : Known) (operands : List Earlier) → IsOperand known operands → 0 < length operands
some_operands known operands h = let Are : List Earlier → Type 0 = λ es. 0 < length es in subst Are (sym h.is) (omega arith)

statable_selected : (known : Known) (s : Option Selector) (args : List (List ℕ)) → IsAccepted known (shape_of FlatMap s) args
    → IsStatable FlatMap (operands_in known (shape_of FlatMap s) args) (shape_of FlatMap s) args
statable_selected known None args h = absurd (true≢false (or_parts true false h.words).0)
statable_selected known (Some Words) args h =
    let three = leb-true 3 (length args) (and_parts (leb 3 (length args)) (leb (length args) 3) h.count).0 in
    (some_operands known (operands_in known (shape_of FlatMap (Some Words)) args) (operand_there known args (omega arith) h.operands), h.columns, omega arith)
statable_selected known (Some Spread) args h =
    let four = leb-true 4 (length args) (and_parts (leb 4 (length args)) (leb (length args) 4) h.count).0 in
    let number : NumberPlace = record { place = 3; least = 1; most = most_spread } in
    let outside = or_parts (is_outside (Some number) (slice_get args 3)) (is_no_number (slice_get args 2)) (or_parts _ false h.numbers).0 in
    let range = value_in_range number (slice_get args 3) (there_at args 3 (omega arith)) outside.0 in
    (some_operands known (operands_in known (shape_of FlatMap (Some Spread)) args) (operand_there known args (omega arith) h.operands), h.columns, omega (arith, range.1))

pub statable : (known : Known) (word : Word) (args : List (List ℕ)) → IsAccepted known (shape_in word args) args
    → IsStatable word (operands_in known (shape_in word args) args) (shape_in word args) args
statable known FlatMap args h = statable_selected known (selector_in args) args h
statable known Sum args h =
    let two = leb-true 2 (length args) (and_parts (leb 2 (length args)) (leb (length args) 2) h.count).0 in
    (some_operands known (operands_in known (shape_in Sum args) args) (operand_there known args (omega arith) h.operands), h.columns)
statable known Lines args h = tt
statable known Generate args h = tt
statable known Map args h = tt
statable known Filter args h = tt
statable known Cache args h = tt
statable known Print args h = tt
statable known Size args h = tt

-- the same of the shape and the operands that the code has -----------------------------------------------------------

pub statable_so : (known : Known) (bytes : List ℕ) (p : Sentence) (word : Word) (shape : Shape) (operands : List Earlier) → shape ≡ shape_in word p.args
    → operands ≡ operands_in known shape p.args → first_cause (tests_of known bytes p shape) ≡ None → IsStatable word operands shape p.args
statable_so known bytes p word shape operands is are none =
    let At : Shape → Type 0 = λ sh. first_cause (tests_of known bytes p sh) ≡ None → IsStatable word (operands_in known sh p.args) sh p.args in
    let Of : List Earlier → Type 0 = λ es. IsStatable word es shape p.args in
    let base : At (shape_in word p.args) = λ e. statable known word p.args (accepted known bytes p (shape_in word p.args) e).0 in
    subst Of (sym are) (subst At (sym is) base none)

pub tells_so : (known : Known) (bytes : List ℕ) (p : Sentence) (word : Word) (shape : Shape) (operands : List Earlier) (s : Statement) → shape ≡ shape_in word p.args
    → operands ≡ operands_in known shape p.args → first_cause (tests_of known bytes p shape) ≡ None → s ≡ statement_of [] word (said_of operands shape p.args)
    → CanTellStatement (kinds_among operands) s
tells_so known bytes p word shape operands s is are none same =
    let At : Shape → Type 0 = λ sh. first_cause (tests_of known bytes p sh) ≡ None
    → CanTellStatement (kinds_among (operands_in known sh p.args)) (statement_of [] word (said_of (operands_in known sh p.args) sh p.args)) in
    let Of : List Earlier → Type 0 = λ es. CanTellStatement (kinds_among es) (statement_of [] word (said_of es shape p.args)) in
    let Is : Statement → Type 0 = λ t. CanTellStatement (kinds_among operands) t in
    let base : At (shape_in word p.args) = λ e. (word_told known None word p.args (accepted known bytes p (shape_in word p.args) e).0).tells in
    subst Is (sym same) (subst Of (sym are) (subst At (sym is) base none))
