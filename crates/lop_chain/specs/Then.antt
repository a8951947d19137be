-- One op after the other.
use Rattle.std.specs.Prelude.{List, [], ◌∷◌, ◌++◌}
use Rattle.std.specs.List.{AllByRecursion}
use Rattle.std.proofs.Common.{refl, subst, sym}
use Rattle.row_defs.specs.Rows.{Row}
use Rattle.lop_chain.specs.Rows.{Kinds, IsRowOf}
use Rattle.lop_chain.specs.Made.{MadeOfEach}

-- the rows are what the second makes of what the first makes of a row
pub record MadeThen (first second : Row → List Row → Type 0) (row : Row) (made : List Row) : Type 0 where
  pub between : List Row
  pub by_first : first row between
  pub by_second : MadeOfEach second between made

-- laws --------------------------------------------------------------------------------------------------------

-- of each row something is made
pub each_total :
    (makes : Row → List Row → Type 0) (kinds : Kinds) (rows : List Row)
    → ((row : Row) → IsRowOf kinds row → (made : List Row) × makes row made)
    → AllByRecursion (IsRowOf kinds) rows → (made : List Row) × MadeOfEach makes rows made
each_total makes kinds [] total h = ([], refl)
each_total makes kinds (row ∷ rows) total h =
    let first = total row h.0 in
    let rest = each_total makes kinds rows total h.1 in
    (first.0 ++ rest.0, (first.0, rest.0, first.1, rest.1, refl))

pub all-append : (P : Row → Type 0) (xs ys : List Row) → AllByRecursion P xs → AllByRecursion P ys → AllByRecursion P (xs ++ ys)
all-append P [] ys p q = q
all-append P (x ∷ xs) ys p q = (p.0, all-append P xs ys p.1 q)

-- what is made of rows of some kinds has the kinds that are made of those
pub each_sound :
    (makes : Row → List Row → Type 0) (from to : Kinds) (rows made : List Row)
    → ((row : Row) (made : List Row) → IsRowOf from row → makes row made → AllByRecursion (IsRowOf to) made)
    → AllByRecursion (IsRowOf from) rows → MadeOfEach makes rows made → AllByRecursion (IsRowOf to) made
each_sound makes from to [] made sound h e =
    let P : List Row → Type 0 = λ xs. AllByRecursion (IsRowOf to) xs in subst P (sym e) tt
each_sound makes from to (row ∷ rows) made sound h e =
    let P : List Row → Type 0 = λ xs. AllByRecursion (IsRowOf to) xs in
    subst P (sym e.4) (all-append (IsRowOf to) e.0 e.1 (sound row e.0 h.0 e.2) (each_sound makes from to rows e.1 sound h.1 e.3))
