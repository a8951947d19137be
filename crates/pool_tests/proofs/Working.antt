-- Shares of a pool over a new disk in memory.
use Rattle.std.proofs.Common.{◌≡◌, ℕ, ◌<◌, Bool, true, List, sym, ap, ◌∙◌, subst}
use Rattle.std.specs.Prelude.{All}
use Rattle.atomic_table.specs.Seated.{TableId}
use Rattle.block_pool.specs.Handles.{PassValue, PermitsValue}
use Rattle.block_pool.specs.Opening.{AreShares, opened_as}
use Rattle.block_pool.specs.Workers.{IsReady, new_pool}

-- each of them can be worked with
pub ready_each : (turn : TableId) (frames block : ℕ) (tells : Bool) (faults writes workers permits : ℕ) (shares : List (PassValue × PermitsValue)) → tells ≡ true → faults ≡ 0 → writes ≡ 0 → 0 < permits
    → AreShares (opened_as turn frames block tells faults writes) workers permits shares → All (IsReady (new_pool turn frames block)) shares
ready_each turn frames block tells faults writes workers permits shares told no_fault none_written some are = λ k d below.
    let share = are.each k d below in
    let same : opened_as turn frames block tells faults writes ≡ new_pool turn frames block =
    ap (λ t. opened_as turn frames block t faults writes) told ∙ ap (λ n. opened_as turn frames block true n writes) no_fault ∙ ap (λ n. opened_as turn frames block true 0 n) none_written in
    (share.0 ∙ same, share.2 ∙ same, subst (λ n. 0 < n) (sym share.3) some)
