-- Hands before and after a phase.
use Rattle.std.specs.Prelude.{List}
use Rattle.std.specs.List.{AllZip}
use Rattle.block_pool.specs.Handles.{HandValue, Follows}

-- as many hands at the same ranks, each a later state of the one that was there: of its pool, and what it notes has not
-- fallen
abbrev pub AllFollow : {H : Type 0} → (H → HandValue) → List H → List H → Type 0
AllFollow hand = AllZip (λ before after. Follows (hand before) (hand after))
