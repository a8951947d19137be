-- Routes to the owners of positions.
use Rattle.std.specs.Prelude.{ℕ, ◌+◌, ◌<◌, List, [], ◌∷◌, ⊤}
use Rattle.dia_item.specs.declared.row_ref.RowRef.{RowRef}
use Rattle.collective.specs.Shares.{HasPlace}
use Rattle.exchange.specs.Serving.{Answered}

-- what the route answers for a sender's rows, of which the first has this position, has their positions
abbrev pub IsRoute : {F : Type 0} → Answered F → ℕ → ℕ → ℕ → F → Type 0
IsRoute post total workers from route = (r : RowRef) (n w : ℕ) → post route r n w → from + n < total → HasPlace total workers w (from + n)

-- each sender's route, where they have so many rows, and the first row of the first one has this position
abbrev pub AreRoutes : {F : Type 0} → Answered F → ℕ → ℕ → ℕ → List ℕ → List F → Type 0
AreRoutes post total workers from [] [] = ⊤
AreRoutes post total workers from [] (f ∷ routes) = ⊥
AreRoutes post total workers from (c ∷ counts) [] = ⊥
AreRoutes post total workers from (c ∷ counts) (f ∷ routes) = IsRoute post total workers from f × AreRoutes post total workers (from + c) counts routes
