-- A row of a sender comes where nothing is left of the senders below it.
use Rattle.std.proofs.Common.{◌≡◌, ℕ, ◌<◌, []}
use Rattle.std.specs.Prelude.{Option, Some, None, Result, Ok, Err, IfOk, IfSome, IfNone}
use Rattle.row_defs.specs.Rows.{Row}
use Rattle.block_pool.specs.Handles.{PoolName}
use Rattle.mix_stream.specs.Packets.{Rises}
use Rattle.mix_stream.specs.Reading.{Reading, IsNext, bytes_of}
use Rattle.mix_stream.proofs.Rising.{by_rank}

pub ordered :
    {A E : Type 0} (f : A → Row) (r : Result (Option A) E) (pool : PoolName) (old new : Reading) (X : Type 0) → Rises old.from old.packets
    → IfOk r (λ o. IfSome o (λ row. IsNext pool new.from (f row) old new) × IfNone o X)
    → IfOk r (λ o. IfSome o (λ row. IsNext pool new.from (f row) old new × ((j : ℕ) → j < new.from → bytes_of j old ≡ [])) × IfNone o X)
ordered {A} {E} f (Ok None) pool old new X rises h = h
ordered {A} {E} f (Ok (Some row)) pool old new X rises h = ((h.0, λ j lt. by_rank old new.from j rises h.0.turn_is lt), h.1)
ordered {A} {E} f (Err e) pool old new X rises h = h
