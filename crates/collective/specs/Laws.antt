-- What shares come to, without their arithmetic.
use Rattle.std.specs.Prelude.{◌≡◌, ℕ, ◌+◌, ◌<◌, ◌≤◌, List}
use Rattle.std.specs.List.{flat_map}
use Rattle.collective.specs.Shares.{share_start, HasPlace, shares_of}

-- the shares go from 0 to the total, each from where the one before it ends, and none ends before it starts
pub record AreWithoutGap (total workers : ℕ) : Type 0 where
  pub first : share_start total workers 0 ≡ 0
  pub ordered : (rank : ℕ) → rank < workers → share_start total workers rank ≤ share_start total workers (rank + 1)
  pub last : share_start total workers workers ≡ total

abbrev pub SharesMeet : Type 0
SharesMeet = (total workers : ℕ) → 0 < workers → AreWithoutGap total workers

-- the position is in the share of this rank, and of no other
pub record IsOwner (total workers place rank : ℕ) : Type 0 where
  pub within : rank < workers
  pub has : HasPlace total workers rank place
  pub alone : (other : ℕ) → HasPlace total workers other place → other ≡ rank

abbrev pub PlacesHaveOneOwner : Type 0
PlacesHaveOneOwner = (total workers place : ℕ) → 0 < workers → place < total → (rank : ℕ) × IsOwner total workers place rank

abbrev pub SharesAreTheList : Type 0 → Type 0
SharesAreTheList T = (xs : List T) (workers : ℕ) → 0 < workers → flat_map (λ share. share) (shares_of xs workers workers) ≡ xs
