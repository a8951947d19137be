-- How many rows local lines make.
use Rattle.std.proofs.Common.{◌≡◌, ℕ, zero, suc, ◌+◌, ◌-◌, ◌*◌, ◌<◌, ◌≤◌, ◌^◌, ◌==◌, min, max, Bool, true, false, if◌then◌else◌, List, [], ◌∷◌, ◌++◌, length, map, take, drop, replicate, slice_set, slice_index_or, refl, sym, ap, ◌∙◌, arith, length-append, suc-mul, mul-suc, mul_comm}
use Rattle.std.proofs.lemmas.Bool.{ltb-true, ltb-false}
use Rattle.std.proofs.Math.Dec.{ltb}
use Rattle.std.proofs.Math.Nat.{mul-le-mul_right}
use Rattle.std.specs.List.{range_with_len, flat_map, AllByRecursion}
use Rattle.std.proofs.lemmas.List.{length-map}
use Rattle.std.proofs.lemmas.List.FromFn.{length-map-range_with_len}
use Rattle.std.specs.Fmt.{decimal}
use Rattle.row_defs.specs.Rows.{Cell, int, text, Row}
use Rattle.row_defs.specs.Limits.{most_columns}
use Rattle.row_defs.specs.Texts.{words_in_text}
use Rattle.row_defs.specs.Values.{Expr, column, number, literal, math, is_zero, compare, choose, len, num, spelled, part, Part, prefix, suffix, nth_word, number_in, bytes_in, value_of, part_of}
use Rattle.row_defs.specs.LocalOps.{LocalOp, map_op, filter_op, words_op, spread_op, raised, with_word, rows_through}
use Rattle.dia_expr.specs.Runs.{AreNoBlanks}
use Rattle.lop_chain.specs.Ops.{rows_from}
use Rattle.row_growth.specs.Growth.{IsWithin, AreWithin, most_words, untold, words_at, words_of_part, words_of, words_of_each, words_within, growth, are_even}
use Rattle.row_growth.proofs.WordCounts.{no_words, words_few, first_fewer, last_fewer, one_word, words_whole, decimal_whole}

-- bounds --------------------------------------------------------------------------------------------------------------

-- its text has at most so many words, where that says something
abbrev HasFew : ℕ → Cell → Type 0
HasFew n cell = n < untold → length (words_in_text (bytes_in cell)) ≤ n

abbrev HaveFew : List ℕ → Row → Type 0
HaveFew [] row = Unit {0}
HaveFew (n ∷ bounds) [] = Unit {0}
HaveFew (n ∷ bounds) (cell ∷ row) = HasFew n cell × HaveFew bounds row

number_few : (n k : ℕ) → HasFew n (int k)
number_few n k small = omega (arith, no_words)

-- of a cell that is a number
textless : (cell : Cell) → bytes_in cell ≡ [] → HasFew 0 cell
textless cell is small = rw is (omega (arith, no_words))

cell_few : (longest : ℕ) (cell : Cell) → IsWithin longest cell → HasFew (most_words longest) cell
cell_few longest (int k) h = number_few (most_words longest) k
cell_few longest (text t) h = λ small. omega (arith, words_few t, h)

row_few : (k longest : ℕ) (row : Row) → AreWithin longest row → HaveFew (replicate k (most_words longest)) row
row_few zero longest row h = tt
row_few (suc k) longest [] h = tt
row_few (suc k) longest (cell ∷ row) h = (cell_few longest cell h.0, row_few k longest row h.1)

column_few : (bounds : List ℕ) (row : Row) (c : ℕ) → HaveFew bounds row → HasFew (words_at bounds c) (slice_index_or row c (int 0))
column_few [] row c h = λ small. absurd (omega (arith, small))
column_few (n ∷ bounds) [] c h = number_few (words_at (n ∷ bounds) c) 0
column_few (n ∷ bounds) (cell ∷ row) zero h = h.0
column_few (n ∷ bounds) (cell ∷ row) (suc c) h = column_few bounds row c h.1

-- with another cell in a column's place, and its bound
set_few : (bounds : List ℕ) (row : Row) (c n : ℕ) (cell : Cell) → HaveFew bounds row → HasFew n cell → HaveFew (slice_set bounds c n) (slice_set row c cell)
set_few [] row c n cell h k = tt
set_few (m ∷ bounds) [] zero n cell h k = tt
set_few (m ∷ bounds) [] (suc c) n cell h k = tt
set_few (m ∷ bounds) (x ∷ row) zero n cell h k = (k, h.1)
set_few (m ∷ bounds) (x ∷ row) (suc c) n cell h k = (h.0, set_few bounds row c n cell h.1 k)

-- with a number there
raise_few : (bounds : List ℕ) (row : Row) (c k : ℕ) → HaveFew bounds row → HaveFew bounds (slice_set row c (int k))
raise_few [] row c k h = tt
raise_few (m ∷ bounds) [] c k h = tt
raise_few (m ∷ bounds) (x ∷ row) zero k h = (number_few m k, h.1)
raise_few (m ∷ bounds) (x ∷ row) (suc c) k h = (h.0, raise_few bounds row c k h.1)

-- values --------------------------------------------------------------------------------------------------------------

all_at : {A : Type 0} (P : A → Type 0) (xs : List A) (i : ℕ) (d : A) → AllByRecursion P xs → P d → P (slice_index_or xs i d)
all_at P [] i d h k = k
all_at P (x ∷ xs) zero d h k = h.0
all_at P (x ∷ xs) (suc i) d h k = all_at P xs i d h.1 k

part_few : (op : Part) (i n : ℕ) (bytes : List ℕ) → (n < untold → length (words_in_text bytes) ≤ n) → HasFew (words_of_part op n) (text (part_of op i bytes))
part_few prefix i n bytes h = λ small. omega (arith, first_fewer i bytes, h small)
part_few suffix i n bytes h = λ small. omega (arith, last_fewer i bytes, h small)
part_few nth_word i n bytes h = λ small. one_word _ (all_at AreNoBlanks (words_in_text bytes) i [] (words_whole bytes) tt)

either_few : (b : Bool) (m n : ℕ) (x y : Cell) → HasFew m x → HasFew n y → HasFew (max m n) (if b then y else x)
either_few true m n x y p q = λ small. omega (arith, q (omega (arith, small)))
either_few false m n x y p q = λ small. omega (arith, p (omega (arith, small)))

value_few : (e : Expr) (bounds : List ℕ) (row : Row) → HaveFew bounds row → HasFew (words_of bounds e) (value_of e row)
value_few (column c) bounds row h = column_few bounds row c h
value_few (number n) bounds row h = textless (int n) refl
value_few (literal t) bounds row h = λ small. words_few t
value_few (math op a b) bounds row h = textless (value_of (math op a b) row) refl
value_few (is_zero a) bounds row h = textless (value_of (is_zero a) row) refl
value_few (compare op x y) bounds row h = textless (value_of (compare op x y) row) refl
value_few (choose c x y) bounds row h =
    either_few (number_in (value_of c row) == 0) (words_of bounds x) (words_of bounds y) (value_of x row) (value_of y row) (value_few x bounds row h) (value_few y bounds row h)
value_few (len t) bounds row h = textless (value_of (len t) row) refl
value_few (num t) bounds row h = textless (value_of (num t) row) refl
value_few (spelled a) bounds row h = λ small. one_word (decimal (number_in (value_of a row))) (decimal_whole (number_in (value_of a row)))
value_few (part op a t) bounds row h = part_few op (number_in (value_of a row)) (words_of bounds t) (bytes_in (value_of t row)) (value_few t bounds row h)

values_few : (k : ℕ) (exprs : List Expr) (bounds : List ℕ) (row : Row) → HaveFew bounds row → HaveFew (map (words_of bounds) (take k exprs)) (map (λ e. value_of e row) exprs)
values_few zero exprs bounds row h = tt
values_few (suc k) [] bounds row h = tt
values_few (suc k) (e ∷ exprs) bounds row h = (value_few e bounds row h, values_few k exprs bounds row h)

worded_few : (bounds : List ℕ) (row : Row) (c : ℕ) (words : List (List ℕ)) → HaveFew bounds row → AllByRecursion AreNoBlanks words
    → AllByRecursion (HaveFew (slice_set bounds c 1)) (map (with_word row c) words)
worded_few bounds row c [] h k = tt
worded_few bounds row c (w ∷ words) h k = (set_few bounds row c 1 (text w) h (λ small. one_word w k.0), worded_few bounds row c words h k.1)

raised_few : (bounds : List ℕ) (row : Row) (c : ℕ) (ns : List ℕ) → HaveFew bounds row → AllByRecursion (HaveFew bounds) (map (raised row c) ns)
raised_few bounds row c [] h = tt
raised_few bounds row c (n ∷ ns) h = (raise_few bounds row c _ h, raised_few bounds row c ns h)

-- growth --------------------------------------------------------------------------------------------------------------

-- where of each of the rows few are made, few are made of all
few_of_each : (P : Row → Type 0) (f : Row → List Row) (k : ℕ) (rows : List Row) → ((row : Row) → P row → length (f row) ≤ k) → AllByRecursion P rows
    → length (flat_map f rows) ≤ length rows * k
few_of_each P f k [] each all = omega arith
few_of_each P f k (row ∷ rows) each all =
    let later = few_of_each P f k rows each all.1 in
    let first = each row all.0 in
    omega (arith, length-append (f row) (flat_map f rows), first, later, suc-mul (length rows) k)

-- and where the rows are few too; of two bounds whose product says something, each does, or the other is 0
few_of_few : (P : Row → Type 0) (f : Row → List Row) (g n : ℕ) (rows : List Row) → (g < untold → (row : Row) → P row → length (f row) ≤ g) → AllByRecursion P rows
    → (n < untold → length rows ≤ n) → g * n < untold → length (flat_map f rows) ≤ g * n
few_of_few P f g n [] each all few small = omega arith
few_of_few P f g zero (row ∷ rows) each all few small = absurd (omega (arith, few (omega arith)))
few_of_few P f zero (suc n) (row ∷ rows) each all few small = omega (arith, few_of_each P f 0 (row ∷ rows) (each (omega arith)) all)
few_of_few P f (suc g) (suc n) (row ∷ rows) each all few small =
    let a = mul-suc (suc g) n in
    let b = suc-mul g (suc n) in
    let count = few (omega (arith, small, b)) in
    omega (arith, few_of_each P f (suc g) (row ∷ rows) (each (omega (arith, small, a))) all, mul-le-mul_right (suc g) count, mul_comm (suc g) (suc n))

one_passes : (b : Bool) (f : Row → List Row) (row : Row) (k : ℕ) → length (f row) ≤ k → length (flat_map f (if b then [] else row ∷ [])) ≤ k
one_passes true f row k h = omega arith
one_passes false f row k h = omega (arith, h, length-append (f row) [])

made_few : (ops : List LocalOp) (bounds : List ℕ) (row : Row) → HaveFew bounds row → growth bounds ops < untold → length (rows_through ops row) ≤ growth bounds ops
made_few [] bounds row h small = omega arith
made_few (map_op exprs ∷ ops) bounds row h small =
    let made = map (λ e. value_of e row) exprs in
    let still = words_of_each bounds exprs in
    one_passes false (rows_through ops) made (growth still ops) (made_few ops still made (values_few most_columns exprs bounds row h) small)
made_few (filter_op e ∷ ops) bounds row h small =
    one_passes (number_in (value_of e row) == 0) (rows_through ops) row (growth bounds ops) (made_few ops bounds row h small)
made_few (words_op c ∷ ops) bounds row h small =
    let words = words_in_text (bytes_in (value_of (column c) row)) in
    let one = slice_set bounds c 1 in
    few_of_few (HaveFew one) (rows_through ops) (growth one ops) (words_at bounds c) (map (with_word row c) words) (λ low r k. made_few ops one r k low)
    (worded_few bounds row c words h (words_whole (bytes_in (value_of (column c) row))))
    (λ low. omega (arith, length-map words (with_word row c), column_few bounds row c h low)) small
made_few (spread_op c count ∷ ops) bounds row h small =
    few_of_few (HaveFew bounds) (rows_through ops) (growth bounds ops) count (map (raised row c) (range_with_len 0 count)) (λ low r k. made_few ops bounds r k low)
    (raised_few bounds row c (range_with_len 0 count) h) (λ low. omega (arith, length-map-range_with_len (raised row c) 0 count)) small

-- all rows that are made of rows whose texts have at most so many bytes
pub few_made : (ops : List LocalOp) (longest : ℕ) (rows : List Row) → AllByRecursion (AreWithin longest) rows → length rows * growth (words_within longest) ops < untold
    → length (rows_from ops rows) ≤ length rows * growth (words_within longest) ops
few_made ops longest [] all small = omega arith
few_made ops longest (row ∷ rows) all small =
    let bounds = words_within longest in
    let low : growth bounds ops < untold = omega (arith, small, suc-mul (length rows) (growth bounds ops)) in
    few_of_each (AreWithin longest) (rows_through ops) (growth bounds ops) (row ∷ rows) (λ r k. made_few ops bounds r (row_few most_columns longest r k) low) all

-- where as many are made of each row, so many are made of all
many_of_each : (f : Row → List Row) (k : ℕ) (rows : List Row) → ((row : Row) → length (f row) ≡ k) → length (flat_map f rows) ≡ length rows * k
many_of_each f k [] each = omega arith
many_of_each f k (row ∷ rows) each =
    let later = many_of_each f k rows each in
    let first = each row in
    omega (arith, length-append (f row) (flat_map f rows), first, later, suc-mul (length rows) k)

made_even : (ops : List LocalOp) (bounds : List ℕ) (row : Row) → are_even ops ≡ true → length (rows_through ops row) ≡ growth bounds ops
made_even [] bounds row even = refl
made_even (map_op exprs ∷ ops) bounds row even =
    let still = words_of_each bounds exprs in
    let one = many_of_each (rows_through ops) (growth still ops) (map (λ e. value_of e row) exprs ∷ []) (λ r. made_even ops still r even) in
    omega (arith, one)
made_even (filter_op e ∷ ops) bounds row even = absurd cc
made_even (words_op c ∷ ops) bounds row even = absurd cc
made_even (spread_op c count ∷ ops) bounds row even =
    let g = growth bounds ops in
    let rows = map (raised row c) (range_with_len 0 count) in
    let all = many_of_each (rows_through ops) g rows (λ r. made_even ops bounds r even) in
    all ∙ ap (λ (k : ℕ). k * g) (length-map-range_with_len (raised row c) 0 count) ∙ mul_comm count g

-- all rows that are made
pub many_made : (ops : List LocalOp) (bounds : List ℕ) (rows : List Row) → are_even ops ≡ true → length (rows_from ops rows) ≡ length rows * growth bounds ops
many_made ops bounds rows even = many_of_each (rows_through ops) (growth bounds ops) rows (λ r. made_even ops bounds r even)

-- products that stand still at the largest number
pub still_left : (a b : ℕ) → min (min a (2 ^ 64 - 1) * b) (2 ^ 64 - 1) ≡ min (a * b) (2 ^ 64 - 1)
still_left a zero = omega arith
still_left a (suc b) =
    let most = 2 ^ 64 - 1 in
    let p = mul-suc (min a most) b in
    let q = mul-suc a b in
    (elim (ltb most a) as (λ t. ltb most a ≡ t → min (min a most * suc b) most ≡ min (a * suc b) most) [
      | true ↦ λ e. omega (arith, p, q, ltb-true most a e)
      | false ↦ λ e.
          let same : min a most ≡ a = omega (arith, ltb-false most a e) in
          ap (λ (x : ℕ). min (x * suc b) most) same
    ]) refl

pub still : (a b x y : ℕ) → x ≡ min a (2 ^ 64 - 1) → y ≡ min b (2 ^ 64 - 1) → min (x * y) (2 ^ 64 - 1) ≡ min (a * b) (2 ^ 64 - 1)
still a b x y p q =
    let most = 2 ^ 64 - 1 in
    ap (λ (n : ℕ). min (n * y) most) p
    ∙ still_left a y
    ∙ ap (λ (n : ℕ). min n most) (mul_comm a y)
    ∙ ap (λ (n : ℕ). min (n * a) most) q
    ∙ still_left b a
    ∙ ap (λ (n : ℕ). min n most) (mul_comm b a)
