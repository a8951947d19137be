-- Faults of a disk, seen from later hands.
use Rattle.std.proofs.Common.{◌≡◌, ℕ, zero, suc, List, [], ◌∷◌, Some, refl, subst}
use Rattle.std.specs.Prelude.{slice_get}
use Rattle.std.specs.List.{AllZip}
use Rattle.block_pool.specs.Handles.{HandValue, Follows}
use Rattle.block_pool.specs.Follows.{follows_trans}
use Rattle.scatter.specs.Told.{SomeHit}

-- what a hand is at a rank, and later
at_later : (now end : List HandValue) (rank : ℕ) (a : HandValue) → slice_get now rank ≡ Some a → AllZip Follows now end → (b : HandValue) × (slice_get end rank ≡ Some b) × Follows a b
at_later [] end rank a at later = cc
at_later (x ∷ now) [] rank a at later = absurd later
at_later (x ∷ now) (b ∷ end) zero a at later = let same : x ≡ a = cc in (b, refl, subst (λ (y : HandValue). Follows y b) same later.0)
at_later (x ∷ now) (b ∷ end) (suc rank) a at later = at_later now end rank a at later.1

-- a fault stays one when the hands go on
pub hit_later : (hands now end : List HandValue) (count : ℕ) → AllZip Follows now end → SomeHit hands now count → SomeHit hands end count
hit_later hands now end count later h =
    let last = at_later now end h.rank h.after h.is later in
    record { rank = h.rank; before = h.before; met = h.met; after = last.0; was = h.was; is = last.1; hit = h.hit; later = follows_trans h.met h.after last.0 h.later last.2 }
