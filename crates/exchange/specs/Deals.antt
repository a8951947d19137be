-- Rows that a route deals out to workers.
use Rattle.std.specs.Prelude.{◌≡◌, ℕ, ◌+◌, ◌==◌, if◌then◌else◌, List, [], ◌∷◌, ◌++◌, length, refl, true, false}
use Rattle.std.proofs.Common.{sym, ap, subst, ◌∙◌, append_assoc, append-nil, length-append, arith}
use Rattle.row_defs.specs.Rows.{Row}
use Rattle.dia_file.specs.Encoding.{encoded}
use Rattle.dia_file.proofs.RowBytes.{encoded-append}

-- the route may answer these workers for these rows, of which the first stands at place n
abbrev pub AreRouted : (Row → ℕ → ℕ → Type 0) → ℕ → List Row → List ℕ → Type 0
AreRouted answers n [] to = to ≡ []
AreRouted answers n (row ∷ rows) to = (w : ℕ) × (rest : List ℕ) × answers row n w × AreRouted answers (n + 1) rows rest × (to ≡ w ∷ rest)

-- the rows that go to a worker
abbrev pub rows_to : ℕ → List Row → List ℕ → List Row
rows_to w [] to = []
rows_to w (row ∷ rows) [] = []
rows_to w (row ∷ rows) (d ∷ to) = if d == w then row ∷ rows_to w rows to else rows_to w rows to

-- The rows that were taken between two moments, and what came on its way to each worker: just the rows routed to it, in order.
pub record Dealt (answers : Row → ℕ → ℕ → Type 0) (n : ℕ) (before : ℕ → List ℕ) (rows : List Row) (m : ℕ) (after : ℕ → List ℕ) : Type 0 where
  pub to : List ℕ
  pub routed : AreRouted answers n rows to
  pub bytes : (w : ℕ) → after w ≡ before w ++ encoded (rows_to w rows to)
  pub count : m ≡ n + length rows

-- laws --------------------------------------------------------------------------------------------------------

pub Dealt-none : (answers : Row → ℕ → ℕ → Type 0) (n : ℕ) (b : ℕ → List ℕ) → Dealt answers n b [] n b
Dealt-none answers n b = record { to = []; routed = refl; bytes = λ w. sym (append-nil (b w)); count = omega arith }

routed-append :
    (answers : Row → ℕ → ℕ → Type 0) (n m : ℕ) (xs ys : List Row) (to more : List ℕ) → m ≡ n + length xs
    → AreRouted answers n xs to → AreRouted answers m ys more → AreRouted answers n (xs ++ ys) (to ++ more)
routed-append answers n m [] ys to more e p q =
    let same : m ≡ n = omega (arith, e) in
    let P : ℕ → Type 0 = λ k. AreRouted answers k ys (to ++ more) in
    let Q : List ℕ → Type 0 = λ ts. AreRouted answers m ys (ts ++ more) in
    subst P same (subst Q (sym p) q)
routed-append answers n m (x ∷ xs) ys to more e p q =
    let next : m ≡ (n + 1) + length xs = omega (arith, e) in
    (p.0, p.1 ++ more, p.2, routed-append answers (n + 1) m xs ys p.1 more next p.3 q, ap (λ (ts : List ℕ). ts ++ more) p.4)

if_append : (b : _) (x : Row) (xs ys : List Row) → (if b then x ∷ (xs ++ ys) else (xs ++ ys)) ≡ (if b then x ∷ xs else xs) ++ ys
if_append true x xs ys = refl
if_append false x xs ys = refl

rows_to-append :
    (answers : Row → ℕ → ℕ → Type 0) (n w : ℕ) (xs ys : List Row) (to more : List ℕ) → AreRouted answers n xs to
    → rows_to w (xs ++ ys) (to ++ more) ≡ rows_to w xs to ++ rows_to w ys more
rows_to-append answers n w [] ys to more p = ap (λ (ts : List ℕ). rows_to w ys (ts ++ more)) p
rows_to-append answers n w (x ∷ xs) ys to more p =
    let all : rows_to w (xs ++ ys) (p.1 ++ more) ≡ rows_to w xs p.1 ++ rows_to w ys more = rows_to-append answers (n + 1) w xs ys p.1 more p.3 in
    ap (λ (ts : List ℕ). rows_to w (x ∷ (xs ++ ys)) (ts ++ more)) p.4
    ∙ ap (λ (rs : List Row). if p.0 == w then x ∷ rs else rs) all
    ∙ if_append (p.0 == w) x (rows_to w xs p.1) (rows_to w ys more)
    ∙ ap (λ (ts : List ℕ). rows_to w (x ∷ xs) ts ++ rows_to w ys more) (sym p.4)

pub Dealt-more :
    (answers : Row → ℕ → ℕ → Type 0) (n m k : ℕ) (a b c : ℕ → List ℕ) (xs ys : List Row)
    → Dealt answers n a xs m b → Dealt answers m b ys k c → Dealt answers n a (xs ++ ys) k c
Dealt-more answers n m k a b c xs ys p q = record {
  to = p.to ++ q.to;
  routed = routed-append answers n m xs ys p.to q.to p.count p.routed q.routed;
  bytes = λ w.
      q.bytes w ∙ ap (λ (zs : List ℕ). zs ++ encoded (rows_to w ys q.to)) (p.bytes w)
      ∙ append_assoc (a w) (encoded (rows_to w xs p.to)) (encoded (rows_to w ys q.to))
      ∙ ap (λ (zs : List ℕ). a w ++ zs) (sym (encoded-append (rows_to w xs p.to) (rows_to w ys q.to))
      ∙ ap (λ (rs : List Row). encoded rs) (sym (rows_to-append answers n w xs ys p.to q.to p.routed)));
  count = omega (arith, p.count, q.count, length-append xs ys);
}
