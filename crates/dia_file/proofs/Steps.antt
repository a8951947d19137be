-- One row is read at a place.
use Rattle.std.proofs.Common.{◌≡◌, ℕ, zero, suc, ◌+◌, ◌-◌, ◌≤◌, ◌<◌, List, [], ◌∷◌, ◌++◌, length, take, drop, refl, sym, ap, subst, ◌∙◌, length-append, arith}
use Rattle.std.proofs.lemmas.List.{drop_at, drop-drop}
use Rattle.std.proofs.lemmas.List.Sums.{sum_by-append}
use Rattle.std.specs.List.{sum_by}
use Rattle.row_defs.specs.declared.kind.Kind.{Kind}
use Rattle.row_defs.specs.Rows.{Row, IsRow}
use Rattle.dia_item.specs.Sizes.{longest_row}
use Rattle.dia_file.specs.declared.sealed.Sealed.{Sealed}
use Rattle.dia_file.specs.declared.place.Place.{Place}
use Rattle.dia_file.specs.Encoding.{spelled, encoded, rows_of, ReadsRow, ReadsLong, HoldsNone}
use Rattle.dia_file.specs.Pieces.{Piece, over, rows_in, IsPiece, AreIn}
use Rattle.dia_file.specs.Frames.{pieces}
use Rattle.dia_file.specs.Places.{shown_bytes, ahead_items, begun_at, current, rows_left, count_left, Telling, GaveRow, GivesNone}
use Rattle.dia_file.proofs.RowBytes.{spelled_short, length-rows_of}
use Rattle.dia_file.proofs.PieceLemmas.{in_rows}

nothing_left : (n : ℕ) (bytes : List ℕ) → (n ≡ 0 → bytes ≡ []) → over n bytes ≡ []
nothing_left zero bytes h = h refl
nothing_left (suc n) bytes h = refl

-- the next row, and what is behind it
pub record Step (kinds : List Kind) (n : ℕ) (after : List ℕ) (ps : List Piece) (row : Row) (rows : List Row) : Type 0 where
  pub more : List Row
  pub rows_are : rows ≡ row ∷ more
  pub are : AreIn kinds [] (record { bytes = after; ends = n } ∷ ps) more []
  pub done : n ≡ 0 → after ≡ []

none_encoded : (rows : List Row) → length rows ≡ 0 → encoded rows ≡ []
none_encoded [] e = refl
none_encoded (r ∷ rows) e = absurd (omega arith)

-- the first row of a piece is read
step_on :
    (kinds : List Kind) (b y after : List ℕ) (n : ℕ) (ps : List Piece) (rows : List Row) (row r : Row) (front more : List Row)
    → IsPiece kinds b (record { bytes = y; ends = suc n }) (r ∷ front) → AreIn kinds [] ps more [] → rows ≡ (r ∷ front) ++ more
    → row ≡ r → after ≡ encoded front → Step kinds n after ps row rows
step_on kinds b y after n ps rows row r front more piece rest all same behind =
    let len : length front ≡ n = let l = piece.len in omega (arith, l) in
    let done : n ≡ 0 → after ≡ [] = λ none. behind ∙ none_encoded front (len ∙ none) in
    let P : List ℕ → Type 0 = λ bs. AreIn kinds bs ps more [] in
    record {
      more = front ++ more;
      rows_are = all ∙ ap (λ (x : Row). x ∷ (front ++ more)) (sym same);
      are = (front, more, record { len = len; are = piece.are.1; bytes = λ _. behind; covers = λ _. omega arith }, subst P (sym (nothing_left n after done)) rest, refl);
      done = done;
    }

step_short :
    (kinds : List Kind) (y after : List ℕ) (n : ℕ) (ps : List Piece) (rows front more : List Row) (row : Row)
    → IsPiece kinds [] (record { bytes = y; ends = suc n }) front → AreIn kinds [] ps more [] → rows ≡ front ++ more
    → ReadsRow kinds y row after → Step kinds n after ps row rows
step_short kinds y after n ps rows [] more row piece rest all reads = absurd (let l = piece.len in omega (arith, l))
step_short kinds y after n ps rows (r ∷ front) more row piece rest all reads =
    let bytes : y ≡ spelled r ++ encoded front = piece.bytes (omega arith) in
    let same = reads.reads r (encoded front) piece.are.0 bytes in
    step_on kinds [] y after n ps rows row r front more piece rest all same.0 same.1

take_past : (xs ys : List ℕ) (n : ℕ) → length xs ≤ n → take n (xs ++ ys) ≡ xs ++ take (n - length xs) ys
take_past [] ys n h = let e : n ≡ n - 0 = omega arith in ap (λ (k : ℕ). take k ys) e
take_past (x ∷ xs) ys zero h = absurd (omega (arith, h))
take_past (x ∷ xs) ys (suc n) h =
    let e : n - length xs ≡ suc n - suc (length xs) = omega arith in
    ap (λ (zs : List ℕ). x ∷ zs) (take_past xs ys n (omega (arith, h)) ∙ ap (λ (k : ℕ). xs ++ take k ys) e)

-- what of the bytes is read together: the row, and what is behind it
long_front : (b y s rest : List ℕ) (n : ℕ) → b ++ y ≡ s ++ rest → length b ≤ n → length s ≤ n → b ++ take (n - length b) y ≡ s ++ take (n - length s) rest
long_front b y s rest n e in_b in_s = sym (take_past b y n in_b) ∙ ap (λ (xs : List ℕ). take n xs) e ∙ take_past s rest n in_s

long_back : (b y s rest : List ℕ) (at : ℕ) → b ++ y ≡ s ++ rest → at + length b ≡ length s → drop at y ≡ rest
long_back b y s rest at e len =
    let e1 : drop at y ≡ drop at (drop (length b) (b ++ y)) = ap (λ (xs : List ℕ). drop at xs) (sym (drop_at b y (length b) refl)) in
    let e2 : length b + at ≡ length s = omega (arith, len) in
    e1 ∙ drop-drop at (length b) (b ++ y) ∙ ap (λ (k : ℕ). drop k (b ++ y)) e2 ∙ ap (λ (xs : List ℕ). drop (length s) xs) e ∙ drop_at s rest (length s) refl

step_long :
    (kinds : List Kind) (b y : List ℕ) (at n : ℕ) (ps : List Piece) (rows front more : List Row) (row : Row) → length kinds ≤ 6
    → IsPiece kinds b (record { bytes = y; ends = suc n }) front → AreIn kinds [] ps more [] → rows ≡ front ++ more
    → ReadsLong kinds (b ++ take (longest_row - length b) y) row (at + length b) → Step kinds n (drop at y) ps row rows
step_long kinds b y at n ps rows [] more row most piece rest all reads = absurd (let l = piece.len in omega (arith, l))
step_long kinds b y at n ps rows (r ∷ front) more row most piece rest all reads =
    let bytes : b ++ y ≡ spelled r ++ encoded front = piece.bytes (omega arith) in
    let short = spelled_short kinds r most piece.are.0 in
    let covers : length b ≤ length (spelled r) = piece.covers (omega arith) in
    let same = reads.reads r _ piece.are.0 (long_front b y (spelled r) (encoded front) longest_row bytes (omega (arith, covers, short)) short) in
    step_on kinds b y (drop at y) n ps rows row r front more piece rest all same.0 (long_back b y (spelled r) (encoded front) at bytes same.1)

none_short :
    (kinds : List Kind) (y : List ℕ) (n : ℕ) (front : List Row) → IsPiece kinds [] (record { bytes = y; ends = suc n }) front → HoldsNone kinds y → ⊥
none_short kinds y n [] piece none = let l = piece.len in omega (arith, l)
none_short kinds y n (r ∷ front) piece none = none r (encoded front) piece.are.0 (piece.bytes (omega arith))

none_long :
    (kinds : List Kind) (b y : List ℕ) (n : ℕ) (front : List Row) → length kinds ≤ 6 → IsPiece kinds b (record { bytes = y; ends = suc n }) front
    → ((r : Row) (rest : List ℕ) → IsRow kinds (spelled r) r → b ++ take (longest_row - length b) y ≡ spelled r ++ rest → length b ≤ length (spelled r) → ⊥) → ⊥
none_long kinds b y n [] most piece none = let l = piece.len in omega (arith, l)
none_long kinds b y n (r ∷ front) most piece none =
    let bytes : b ++ y ≡ spelled r ++ encoded front = piece.bytes (omega arith) in
    let short = spelled_short kinds r most piece.are.0 in
    let covers : length b ≤ length (spelled r) = piece.covers (omega arith) in
    none r _ piece.are.0 (long_front b y (spelled r) (encoded front) longest_row bytes (omega (arith, covers, short)) short) covers

-- at a place
pub record Given (kinds : List Kind) (a b : Place) (row : Row) : Type 0 where
  pub ring : b.ring ≡ a.ring
  pub ahead : b.ahead ≡ a.ahead
  pub shown : b.shown ≡ a.shown
  pub here : a.here ≡ suc b.here
  pub kept : b.kept ≡ 0
  pub start : 0 < a.kept → a.at ≡ 0
  pub begun : length (begun_at a) ≡ a.kept
  pub gave : GaveRow kinds a row b

empty_begun : (p : Place) → p.kept ≡ 0 → begun_at p ≡ []
empty_begun p e = ap (λ (n : ℕ). take n p.buffer.items) e

given_ahead : (kinds : List Kind) (a b : Place) (row : Row) → Given kinds a b row → ahead_items b ≡ ahead_items a
given_ahead kinds a b row g = ap (λ r. take b.ahead r.items) g.ring ∙ ap (λ (n : ℕ). take n a.ring.items) g.ahead

step_at :
    (kinds : List Kind) (a b : Place) (row : Row) (rows : List Row) → Given kinds a b row → length kinds ≤ 6 → (k : ℕ) → a.kept ≡ k
    → AreIn kinds (begun_at a) (record { bytes = drop a.at (shown_bytes a.shown); ends = suc b.here } ∷ pieces (ahead_items a)) rows []
    → Step kinds b.here (drop b.at (shown_bytes b.shown)) (pieces (ahead_items a)) row rows
step_at kinds a b row rows g most zero e h =
    let P : List ℕ → Type 0 = λ bs. IsPiece kinds bs (record { bytes = drop a.at (shown_bytes a.shown); ends = suc b.here }) h.0 in
    step_short kinds _ _ b.here _ rows h.0 h.1 row (subst P (empty_begun a e) h.2) h.3 h.4 (g.gave.short e)
step_at kinds a b row rows g most (suc k) e h =
    let some : 0 < a.kept = omega (arith, e) in
    let whole : drop a.at (shown_bytes a.shown) ≡ shown_bytes b.shown = ap (λ (n : ℕ). drop n (shown_bytes a.shown)) (g.start some) ∙ ap shown_bytes (sym g.shown) in
    let P : List ℕ → Type 0 = λ bs. IsPiece kinds (begun_at a) (record { bytes = bs; ends = suc b.here }) h.0 in
    let Q : ℕ → Type 0 = λ n. ReadsLong kinds (begun_at a ++ take (longest_row - n) (shown_bytes a.shown)) row (b.at + n) in
    let R : List ℕ → Type 0 = λ bs. ReadsLong kinds (begun_at a ++ take (longest_row - length (begun_at a)) bs) row (b.at + length (begun_at a)) in
    step_long kinds (begun_at a) (shown_bytes b.shown) b.at b.here _ rows h.0 h.1 row most (subst P whole h.2) h.3 h.4
    (subst R (ap shown_bytes (sym g.shown)) (subst Q (sym g.begun) (g.gave.long some)))

-- the rows left, once one was given
pub given_told :
    (kinds : List Kind) (a b : Place) (row : Row) (rows : List Row) → Given kinds a b row → length kinds ≤ 6 → Telling kinds a rows
    → (more : List Row) × (rows ≡ row ∷ more) × Telling kinds b more
given_told kinds a b row rows g most t =
    let P : ℕ → Type 0 = λ n. AreIn kinds (begun_at a) (record { bytes = drop a.at (shown_bytes a.shown); ends = n } ∷ pieces (ahead_items a)) rows [] in
    let s = step_at kinds a b row rows g most a.kept refl (subst P g.here t.are) in
    let Q : List Sealed → Type 0 = λ xs. AreIn kinds [] (current b ∷ pieces xs) s.more [] in
    let R : List ℕ → Type 0 = λ bs. AreIn kinds bs (current b ∷ pieces (ahead_items b)) s.more [] in (
      s.more,
      s.rows_are,
      record {
        are = subst R (sym (empty_begun b g.kept)) (subst Q (sym (given_ahead kinds a b row g)) s.are);
        done = s.done;
      },
    )

none_by :
    (kinds : List Kind) (a : Place) (rows : List Row) (n : ℕ) → length kinds ≤ 6 → (0 < a.kept → a.at ≡ 0) → length (begun_at a) ≡ a.kept → GivesNone kinds a → (k : ℕ) → a.kept ≡ k
    → AreIn kinds (begun_at a) (record { bytes = drop a.at (shown_bytes a.shown); ends = suc n } ∷ pieces (ahead_items a)) rows [] → ⊥
none_by kinds a rows n most start begun none zero e h =
    let P : List ℕ → Type 0 = λ bs. IsPiece kinds bs (record { bytes = drop a.at (shown_bytes a.shown); ends = suc n }) h.0 in
    none_short kinds (drop a.at (shown_bytes a.shown)) n h.0 (subst P (empty_begun a e) h.2) (none.short e)
none_by kinds a rows n most start begun none (suc k) e h =
    let some : 0 < a.kept = omega (arith, e) in
    let whole : drop a.at (shown_bytes a.shown) ≡ shown_bytes a.shown = ap (λ (m : ℕ). drop m (shown_bytes a.shown)) (start some) in
    let P : List ℕ → Type 0 = λ bs. IsPiece kinds (begun_at a) (record { bytes = bs; ends = suc n }) h.0 in
    let Q : ℕ → Type 0 = λ m. (r : Row) (rest : List ℕ) → IsRow kinds (spelled r) r → begun_at a ++ take (longest_row - m) (shown_bytes a.shown) ≡ spelled r ++ rest → m ≤ length (spelled r) → ⊥ in
    none_long kinds (begun_at a) (shown_bytes a.shown) n h.0 most (subst P whole h.2) (subst Q (sym begun) (none.long some))

-- where the disk tells, a row is there
pub none_told :
    (kinds : List Kind) (a : Place) (rows : List Row) (n : ℕ) → length kinds ≤ 6 → a.here ≡ suc n → (0 < a.kept → a.at ≡ 0) → length (begun_at a) ≡ a.kept
    → Telling kinds a rows → GivesNone kinds a → ⊥
none_told kinds a rows n most here start begun t none =
    let P : ℕ → Type 0 = λ m. AreIn kinds (begun_at a) (record { bytes = drop a.at (shown_bytes a.shown); ends = m } ∷ pieces (ahead_items a)) rows [] in
    none_by kinds a rows n most start begun none a.kept refl (subst P here t.are)

-- what is left, as rows, and how many
pub left_told : (kinds : List Kind) (p : Place) (rows : List Row) → Telling kinds p rows → rows_left kinds p ≡ rows
unfolding rows_left
left_told kinds p rows t = in_rows kinds (begun_at p) (current p ∷ pieces (ahead_items p)) rows [] t.are

length_in : (kinds : List Kind) (b : List ℕ) (items : List Sealed) → length (rows_in kinds b (pieces items)) ≡ sum_by (λ (s : Sealed). s.ends) items
unfolding rows_in
length_in kinds b [] = refl
length_in kinds b (s ∷ items) =
    let one = length-rows_of kinds s.ends (b ++ s.block.bytes) in
    let more = length_in kinds (over s.ends (b ++ s.block.bytes)) items in
    let sum = sum_by-append (λ (x : Sealed). x.ends) (s ∷ []) items in
    let all = length-append (rows_of kinds s.ends (b ++ s.block.bytes)) (rows_in kinds (over s.ends (b ++ s.block.bytes)) (pieces items)) in
    omega (arith, one, more, sum, all)

pub length_left : (kinds : List Kind) (p : Place) → length (rows_left kinds p) ≡ count_left p
unfolding rows_left rows_in
length_left kinds p =
    let bytes : List ℕ = begun_at p ++ drop p.at (shown_bytes p.shown) in
    let one = length-rows_of kinds p.here bytes in
    let more = length_in kinds (over p.here bytes) (ahead_items p) in
    let all = length-append (rows_of kinds p.here bytes) (rows_in kinds (over p.here bytes) (pieces (ahead_items p))) in
    all ∙ ap (λ (n : ℕ). n + length (rows_in kinds (over p.here bytes) (pieces (ahead_items p)))) one ∙ ap (λ (n : ℕ). p.here + n) more
