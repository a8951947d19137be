-- Lists of rows made from lists of rows.
use Rattle.std.specs.Prelude.{◌≡◌, List, [], ◌∷◌, ◌++◌}
use Rattle.std.proofs.Common.{subst, sym, ap, ◌∙◌, append_assoc}
use Rattle.row_defs.specs.Rows.{Row}
use Rattle.lop_chain.specs.Rows.{Kinds}

-- the second list is what is made of each row of the first, one after the other
abbrev pub MadeOfEach : (Row → List Row → Type 0) → List Row → List Row → Type 0
MadeOfEach makes [] made = made ≡ []
MadeOfEach makes (row ∷ rows) made =
    (first : List Row) × (rest : List Row) × makes row first × MadeOfEach makes rows rest × (made ≡ first ++ rest)

-- The op makes of the same kinds the same kinds as before, and of each row the same rows.
pub record MakesAsBefore {X : Type 0} (fits : X → Kinds → Kinds → Type 0) (makes : X → Row → List Row → Type 0) (x y : X) : Type 0 where
  pub fits_still : (from to : Kinds) → fits x from to → fits y from to
  pub fitted : (from to : Kinds) → fits y from to → fits x from to
  pub makes_still : (row : Row) (rows : List Row) → makes x row rows → makes y row rows
  pub made : (row : Row) (rows : List Row) → makes y row rows → makes x row rows

-- laws --------------------------------------------------------------------------------------------------------

pub MakesAsBefore-refl : {X : Type 0} (fits : X → Kinds → Kinds → Type 0) (makes : X → Row → List Row → Type 0) (x : X) → MakesAsBefore fits makes x x
MakesAsBefore-refl fits makes x = record { fits_still = λ from to h. h; fitted = λ from to h. h; makes_still = λ row rows h. h; made = λ row rows h. h }

pub MakesAsBefore-trans :
    {X : Type 0} (fits : X → Kinds → Kinds → Type 0) (makes : X → Row → List Row → Type 0) (x y z : X)
    → MakesAsBefore fits makes x y → MakesAsBefore fits makes y z → MakesAsBefore fits makes x z
MakesAsBefore-trans fits makes x y z p q = record {
  fits_still = λ from to h. q.fits_still from to (p.fits_still from to h);
  fitted = λ from to h. p.fitted from to (q.fitted from to h);
  makes_still = λ row rows h. q.makes_still row rows (p.makes_still row rows h);
  made = λ row rows h. p.made row rows (q.made row rows h);
}

pub MadeOfEach-map :
    (makes makes' : Row → List Row → Type 0) (rows made : List Row)
    → ((row : Row) (made : List Row) → makes row made → makes' row made) → MadeOfEach makes rows made → MadeOfEach makes' rows made
MadeOfEach-map makes makes' [] made f h = h
MadeOfEach-map makes makes' (row ∷ rows) made f h = (h.0, h.1, f row h.0 h.2, MadeOfEach-map makes makes' rows h.1 f h.3, h.4)

pub MadeOfEach-append :
    (makes : Row → List Row → Type 0) (xs ys us vs : List Row)
    → MadeOfEach makes xs us → MadeOfEach makes ys vs → MadeOfEach makes (xs ++ ys) (us ++ vs)
MadeOfEach-append makes [] ys us vs p q =
    let P : List Row → Type 0 = λ ws. MadeOfEach makes ys (ws ++ vs) in subst P (sym p) q
MadeOfEach-append makes (x ∷ xs) ys us vs p q =
    (p.0, p.1 ++ vs, p.2, MadeOfEach-append makes xs ys p.1 vs p.3 q, ap (λ ws. ws ++ vs) p.4 ∙ append_assoc p.0 p.1 vs)
