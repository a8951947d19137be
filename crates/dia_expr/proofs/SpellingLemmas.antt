-- The words of an expression are read as that expression.
use Rattle.std.proofs.Common.{◌≡◌, ◌≤◌, ◌<◌, ◌^◌, ◌+◌, ◌-◌, ◌&&◌, nat_le, nat_lt, ◌==◌, Bool, true, false, length, ℕ, List, [], ◌∷◌, ◌++◌, None, Some, if◌then◌else◌, refl, ap, ◌∙◌, arith, rules, append_assoc, append-nil, unwrap_or, codes, not, lit<}
use Rattle.std.specs.List.{list_any, list_all, flat_map, AllByRecursion}
use Rattle.std.specs.Option.{option_map, option_or}
use Rattle.std.specs.Fmt.{decimal}
use Rattle.std.proofs.lemmas.Bool.{le-leb, lt-ltb, leb-true, ne_eqb}
use Rattle.std.proofs.lemmas.Str.Parse.{IsNumeralModel, numerals_by_fold}
use Rattle.std.proofs.lemmas.Fmt.{decimal_nonempty, length-decimal-le, digits_decimal, digits_value-decimal}
use Rattle.row_defs.specs.Limits.{longest_text}
use Rattle.row_defs.specs.Texts.{is_decimal, number_after, number_of_digits, is_number, number_or_0}
use Rattle.row_defs.specs.Values.{Math, plus, minus, times, quotient, remainder, smaller, larger, bits_and, bits_or, bits_xor, Comparison, equal, less, at_most, Part, prefix, suffix, nth_word, Expr, column, number, literal, math, is_zero, compare, choose, len, num, spelled, part}
use Rattle.row_defs.specs.Expressions.{whole, with_one, with_two, with_three, form_word, leaf_word, literal_rest, column_word, beginning_of, begins_none, is_bad_number, exprs_of, list_fault, one_fault, math_name, comparison_name, part_name, expr_words, HasWords}
use Rattle.dia_expr.specs.Reads.{IsRead}
use Rattle.dia_expr.proofs.ReadLemmas.{read_whole, read_one, read_two, read_three, read_pair, read_form}
use Rattle.dia_expr.proofs.FaultLemmas.{list_fault-numbers, one_fault-numbers, number_fault-none}
use Rattle.dia_item.proofs.TestLemmas.{and_split}

-- read, and no number is bad
record IsWritten (words : List (List ℕ)) (e : Expr) (rest : List (List ℕ)) : Type 0 where
  read : IsRead words e rest
  good : list_any is_bad_number words ≡ list_any is_bad_number rest

written_whole : (w : List ℕ) (rest : List (List ℕ)) (e : Expr) → beginning_of w ≡ Some (whole e) → is_bad_number w ≡ false
    → IsWritten (w ∷ rest) e rest
written_whole w rest e is good = record { read = read_whole w rest e is; good = rw good refl }

written_one : (w : List ℕ) (words rest : List (List ℕ)) (f : Expr → Expr) (a : Expr)
    → beginning_of w ≡ Some (with_one f) → is_bad_number w ≡ false → IsWritten words a rest → IsWritten (w ∷ words) (f a) rest
written_one w words rest f a is good p = record {
  read = read_form w words rest (with_one f) (f a) is (read_one words rest f a p.read);
  good = rw good p.good;
}

written_two : (w : List ℕ) (words more rest : List (List ℕ)) (f : Expr → Expr → Expr) (a b : Expr)
    → beginning_of w ≡ Some (with_two f) → is_bad_number w ≡ false → IsWritten words a more → IsWritten more b rest → IsWritten (w ∷ words) (f a b) rest
written_two w words more rest f a b is good p q = record {
  read = read_form w words rest (with_two f) (f a b) is (read_two words rest f a b (read_pair words more rest a b p.read q.read));
  good = rw good (p.good ∙ q.good);
}

written_three : (w : List ℕ) (words more last rest : List (List ℕ)) (f : Expr → Expr → Expr → Expr) (a b c : Expr)
    → beginning_of w ≡ Some (with_three f) → is_bad_number w ≡ false
    → IsWritten words a more → IsWritten more b last → IsWritten last c rest → IsWritten (w ∷ words) (f a b c) rest
written_three w words more last rest f a b c is good p q r = record {
  read = read_form w words rest (with_three f) (f a b c) is (read_three words more rest f a b c p.read (read_pair more last rest b c q.read r.read));
  good = rw good (p.good ∙ q.good ∙ r.good);
}

-- names
math_begins : (op : Math) → beginning_of (math_name op) ≡ Some (with_two (math op))
math_begins plus = refl
math_begins minus = refl
math_begins times = refl
math_begins quotient = refl
math_begins remainder = refl
math_begins smaller = refl
math_begins larger = refl
math_begins bits_and = refl
math_begins bits_or = refl
math_begins bits_xor = refl

math_good : (op : Math) → is_bad_number (math_name op) ≡ false
math_good plus = refl
math_good minus = refl
math_good times = refl
math_good quotient = refl
math_good remainder = refl
math_good smaller = refl
math_good larger = refl
math_good bits_and = refl
math_good bits_or = refl
math_good bits_xor = refl

comparison_begins : (op : Comparison) → beginning_of (comparison_name op) ≡ Some (with_two (compare op))
comparison_begins equal = refl
comparison_begins less = refl
comparison_begins at_most = refl

comparison_good : (op : Comparison) → is_bad_number (comparison_name op) ≡ false
comparison_good equal = refl
comparison_good less = refl
comparison_good at_most = refl

part_begins : (op : Part) → beginning_of (part_name op) ≡ Some (with_two (part op))
part_begins prefix = refl
part_begins suffix = refl
part_begins nth_word = refl

part_good : (op : Part) → is_bad_number (part_name op) ≡ false
part_good prefix = refl
part_good suffix = refl
part_good nth_word = refl

-- numbers
digits : IsNumeralModel (λ ds. list_all is_decimal ds ≡ true) (number_after 0)
digits = numerals_by_fold _ (search rules) number_after (search rules)

decimal_spelled : (n : ℕ) → n < 2 ^ 64 → is_number (decimal n) ≡ true
decimal_spelled n fits =
    rw (
      le-leb 1 (length (decimal n)) (decimal_nonempty n fits),
      le-leb (length (decimal n)) 20 (length-decimal-le 20 n (lit< tt) (omega arith) fits),
      digits_decimal digits n fits,
      digits_value-decimal digits n fits,
      lt-ltb n (2 ^ 64) fits,
    ) refl

pick : {X : Type 0} (c d : Bool) (x y z : X) → c ≡ false → d ≡ true → (if c then x else (if d then y else z)) ≡ y
pick true d x y z p q = absurd cc
pick false true x y z p q = refl
pick false false x y z p q = absurd cc

pick_first : {X : Type 0} (d : Bool) (y z : X) → d ≡ true → (if d then y else z) ≡ y
pick_first true y z q = refl
pick_first false y z q = absurd cc

not_bad : (p q : Bool) → q ≡ true → (p && not q) ≡ false
not_bad true true e = refl
not_bad false true e = refl
not_bad p false e = absurd cc

-- a leaf is what the word begins
leaf_begins : (w : List ℕ) (e : Expr) → leaf_word w ≡ Some e → beginning_of w ≡ Some (whole e)
leaf_begins w e is = ap (λ leaf. option_or (option_map whole leaf) (form_word w)) is

first_decimal_digit : (b : ℕ) (bytes : List ℕ) → is_number (b ∷ bytes) ≡ true → is_decimal b ≡ true
first_decimal_digit b bytes is =
    let digits = list_all is_decimal (b ∷ bytes) in
    let few = nat_le 1 (length (b ∷ bytes)) && nat_le (length (b ∷ bytes)) 20 in
    let p = and_split (few && digits) (nat_lt (number_of_digits (b ∷ bytes)) (2 ^ 64)) is in
    let q = and_split few digits p.0 in
    (and_split (is_decimal b) (list_all is_decimal bytes) q.1).0

value_of_digits : (t : List ℕ) (n : ℕ) → is_number t ≡ true → number_of_digits t ≡ n → number_or_0 t ≡ n
value_of_digits t n is value = ap (λ o. unwrap_or o 0) (pick_first (is_number t) (Some (number_of_digits t)) None is) ∙ value

number_begins : (t : List ℕ) (n : ℕ) → is_number t ≡ true → number_of_digits t ≡ n → beginning_of t ≡ Some (whole (number n))
number_begins [] n is value = absurd cc
number_begins (b ∷ bytes) n is value =
    let digit : is_decimal b ≡ true = first_decimal_digit b bytes is in
    let low : 48 ≤ b = leb-true 48 b (and_split (nat_le 48 b) (nat_le b 57) digit).0 in
    let other : (b == 39) ≡ false = ne_eqb b 39 (λ e. omega (arith, e, low)) in
    leaf_begins (b ∷ bytes) (number n)
    (pick (b == 39) (is_decimal b) (literal_rest bytes) (Some (number (number_or_0 (b ∷ bytes)))) (column_word (b ∷ bytes)) other digit
    ∙ ap (λ m. Some (number m)) (value_of_digits (b ∷ bytes) n is value))

number_good : (t : List ℕ) → is_number t ≡ true → is_bad_number t ≡ false
number_good [] is = refl
number_good (b ∷ bytes) is = not_bad (is_decimal b) (is_number (b ∷ bytes)) is

column_begins : (i : ℕ) → i ≤ 9 → beginning_of (102 ∷ (48 + i) ∷ []) ≡ Some (whole (column i))
column_begins i low =
    let digit : is_decimal (48 + i) ≡ true = rw (le-leb 48 (48 + i) (omega arith), le-leb (48 + i) 57 (omega arith)) refl in
    let same : 48 + i - 48 ≡ i = omega arith in
    leaf_begins (102 ∷ (48 + i) ∷ []) (column i)
    (pick_first (is_decimal (48 + i)) (Some (column (48 + i - 48))) None digit ∙ ap (λ j. Some (column j)) same)

literal_begins : (t : List ℕ) → length t ≤ longest_text → beginning_of (39 ∷ t) ≡ Some (whole (literal t))
literal_begins t short =
    leaf_begins (39 ∷ t) (literal t) (pick_first (nat_le (length t) longest_text) (Some (literal t)) None (le-leb (length t) longest_text short))

written : (e : Expr) → HasWords e → (rest : List (List ℕ)) → IsWritten (expr_words e ++ rest) e rest
written (column i) h rest = written_whole (102 ∷ (48 + i) ∷ []) rest (column i) (column_begins i h) refl
written (number n) h rest =
    written_whole (decimal n) rest (number n) (number_begins (decimal n) n (decimal_spelled n h) (digits_value-decimal digits n h))
    (number_good (decimal n) (decimal_spelled n h))
written (literal t) h rest = written_whole (39 ∷ t) rest (literal t) (literal_begins t h) refl
written (math op a b) h rest = rw append_assoc
    (written_two (math_name op) (expr_words a ++ (expr_words b ++ rest)) (expr_words b ++ rest) rest (math op) a b (math_begins op) (math_good op)
    (written a h.0 (expr_words b ++ rest)) (written b h.1 rest))
written (is_zero a) h rest = written_one (codes "not") (expr_words a ++ rest) rest is_zero a refl refl (written a h rest)
written (compare op x y) h rest = rw append_assoc
    (written_two (comparison_name op) (expr_words x ++ (expr_words y ++ rest)) (expr_words y ++ rest) rest (compare op) x y (comparison_begins op) (comparison_good op)
    (written x h.0 (expr_words y ++ rest)) (written y h.1 rest))
written (choose c x y) h rest = rw (append_assoc, append_assoc)
    (written_three (codes "if") (expr_words c ++ (expr_words x ++ (expr_words y ++ rest))) (expr_words x ++ (expr_words y ++ rest)) (expr_words y ++ rest) rest choose c x y refl refl
    (written c h.0 (expr_words x ++ (expr_words y ++ rest))) (written x h.1 (expr_words y ++ rest)) (written y h.2 rest))
written (len t) h rest = written_one (codes "len") (expr_words t ++ rest) rest len t refl refl (written t h rest)
written (num t) h rest = written_one (codes "num") (expr_words t ++ rest) rest num t refl refl (written t h rest)
written (spelled a) h rest = written_one (codes "text") (expr_words a ++ rest) rest spelled a refl refl (written a h rest)
written (part op a t) h rest = rw append_assoc
    (written_two (part_name op) (expr_words a ++ (expr_words t ++ rest)) (expr_words t ++ rest) rest (part op) a t (part_begins op) (part_good op)
    (written a h.0 (expr_words t ++ rest)) (written t h.1 rest))

pub one_read_again : (e : Expr) → HasWords e → one_fault (expr_words e) ≡ None
one_read_again e h =
    let w = rw append-nil at (written e h []) in
    one_fault-numbers (expr_words e) [] e w.read refl ∙ number_fault-none (expr_words e) w.good

record AreWritten (words : List (List ℕ)) (exprs : List Expr) : Type 0 where
  read : exprs_of words ≡ Some exprs
  known : list_any begins_none words ≡ false
  good : list_any is_bad_number words ≡ false

all_written : (exprs : List Expr) → AllByRecursion HasWords exprs → AreWritten (flat_map expr_words exprs) exprs
unfolding exprs_of
all_written [] h = record { read = refl; known = refl; good = refl }
all_written (e ∷ exprs) h =
    let w = written e h.0 (flat_map expr_words exprs) in
    let r = all_written exprs h.1 in
    record {
      read = w.read.exprs ∙ ap (option_map (λ more. e ∷ more)) r.read;
      known = w.read.known ∙ r.known;
      good = w.good ∙ r.good;
    }

pub all_read_again : (exprs : List Expr) → AllByRecursion HasWords exprs
    → (exprs_of (flat_map expr_words exprs) ≡ Some exprs) × (list_fault (flat_map expr_words exprs) ≡ None)
all_read_again exprs h =
    let w = all_written exprs h in
    (w.read, list_fault-numbers (flat_map expr_words exprs) exprs w.known w.read ∙ number_fault-none (flat_map expr_words exprs) w.good)
