-- What a sink that tells has taken. A sink that doesn't tell has None.
use Rattle.std.specs.Prelude.{◌≡◌, ℕ, ◌≤◌, List, ◌++◌, Option, Some, IfSome, is_some, Result, OnOk, OnErr}
use Rattle.dia_edge.specs.Counts.{HasRisen}

-- the whole piece was taken
abbrev pub TookAll : Option (List ℕ) → List ℕ → Option (List ℕ) → Type 0
TookAll before piece after = IfSome before (λ bytes. after ≡ Some (bytes ++ piece))

-- some prefix of the piece was taken
abbrev pub TookPrefix : Option (List ℕ) → List ℕ → Option (List ℕ) → Type 0
TookPrefix before piece after =
    IfSome before (λ bytes. (prefix : List ℕ) × (rest : List ℕ) × (piece ≡ prefix ++ rest) × (after ≡ Some (bytes ++ prefix)))

-- the piece was taken but for the rest of it
abbrev pub TookBut : Option (List ℕ) → List ℕ → List ℕ → Option (List ℕ) → Type 0
TookBut before piece rest after =
    IfSome before (λ bytes. (prefix : List ℕ) × (after ≡ Some (bytes ++ prefix)) × (piece ≡ prefix ++ rest))

-- what a call says that puts a piece to a sink, of which the rest waits: what the sink took, on a failure some prefix,
-- and that its count of faults rose then and never falls. `taken` and `faults` are the sink's own.
pub record Puts {S T E : Type 0} (taken : S → Option (List ℕ)) (faults : S → ℕ) (old new : S) (piece rest : List ℕ) (result : Result T E) : Type 0 where
  pub ok : OnOk result (TookBut (taken old) piece rest (taken new))
  pub failed : OnErr result (TookPrefix (taken old) piece (taken new))
  pub rose : OnErr result (HasRisen (faults old) (faults new))
  pub counts : faults old ≤ faults new
  pub tells : is_some (taken new) ≡ is_some (taken old)
