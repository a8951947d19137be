-- Numbers that are shared out.
use Rattle.std.proofs.Common.{◌≡◌, ℕ, zero, suc, ◌+◌, ◌-◌, ◌^◌, ◌<◌, ◌≤◌, map, length, drop, refl, sym, ◌∙◌, arith}
use Rattle.std.specs.List.{range_with_len, slice_range}
use Rattle.std.proofs.lemmas.List.FromFn.{length-map-range_with_len, take-map-range_with_len}
use Rattle.row_defs.specs.Rows.{number_row}
use Rattle.dia_file.specs.Encoding.{AllFit}
use Rattle.collective.specs.Shares.{share_start, share_of}
use Rattle.collective.proofs.ShareLaws.{start_ordered, start_within}
use Rattle.scatter.specs.Feeds.{number_rows}

drop_range : {X : Type 0} (f : ℕ → X) (i a n : ℕ) → drop i (map f (range_with_len a n)) ≡ map f (range_with_len (a + i) (n - i))
drop_range f zero a n =
    let start : a + 0 ≡ a = omega arith in
    let len : n - 0 ≡ n = omega arith in
    rw (start, len) refl
drop_range f (suc i) a zero = let none : 0 - suc i ≡ 0 = omega arith in rw none refl
drop_range f (suc i) a (suc n) =
    let start : a + 1 + i ≡ a + suc i = omega arith in
    let len : suc n - suc i ≡ n - i = omega arith in
    drop_range f i (a + 1) n ∙ rw (start, len) refl

pub rows_between : (n i j : ℕ) → i ≤ j → j ≤ n → slice_range (number_rows 0 n) i j ≡ number_rows i j
rows_between n i j low high =
    let all : n - 0 ≡ n = omega arith in
    let start : 0 + i ≡ i = omega arith in
    rw (all, drop_range number_row i 0 n, start) (take-map-range_with_len number_row i (n - i) (j - i) (omega arith))

pub share_is : (rows workers rank : ℕ) → rank < workers → number_rows (share_start rows workers rank) (share_start rows workers (rank + 1)) ≡ share_of (number_rows 0 rows) workers rank
share_is rows workers rank less =
    let some : 0 < workers = omega arith in
    let len : length (number_rows 0 rows) ≡ rows = length-map-range_with_len number_row 0 (rows - 0) ∙ omega arith in
    let next : rank ≤ rank + 1 = omega arith in
    let within : rank + 1 ≤ workers = omega arith in
    rw len (sym (rows_between rows (share_start rows workers rank) (share_start rows workers (rank + 1)) (start_ordered rows workers rank (rank + 1) some next) (start_within rows workers (rank + 1) some within)))

pub numbers_fit : (start count : ℕ) → start + count ≤ 2 ^ 64 → AllFit (map number_row (range_with_len start count))
numbers_fit start zero below = tt
numbers_fit start (suc count) below = ((omega (arith, below), tt), numbers_fit (start + 1) count (omega (arith, below)))
