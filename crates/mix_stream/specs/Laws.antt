-- What follows for a stream whose packets hold rows.
use Rattle.std.specs.Prelude.{◌≡◌, ℕ, ◌<◌, true, List, [], ◌∷◌, Some}
use Rattle.row_defs.specs.Rows.{Row}
use Rattle.block_pool.specs.Handles.{PoolName}
use Rattle.dia_file.specs.Encoding.{encoded, AreOf}
use Rattle.mix_stream.specs.Packets.{Rises}
use Rattle.mix_stream.specs.Reading.{Reading, IsNext, IsDamaged, bytes_of, turn}

-- the bytes that are left of each sender are rows of the kinds
abbrev pub AreRows : Reading → Type 0
AreRows r = (k : ℕ) → (rows : List Row) × AreOf r.kinds rows × (bytes_of k r ≡ encoded rows)

-- Where the disk tells, the row that is given is the first of its sender's rows, and the others are left.
abbrev pub ComeInOrder : Type 0
ComeInOrder =
    (pool : PoolName) (k : ℕ) (row first : Row) (rows : List Row) (a b : Reading) → pool.opening.tells ≡ true → IsNext pool k row a b
    → AreOf a.kinds (first ∷ rows) → bytes_of k a ≡ encoded (first ∷ rows) → (row ≡ first) × (bytes_of k b ≡ encoded rows)

-- rows are never damage
abbrev pub AreNotDamage : Type 0
AreNotDamage = (r : Reading) → AreRows r → IsDamaged r → ⊥

-- where the senders never fall, nothing is left of those below the one whose row comes next
abbrev pub ComeByRank : Type 0
ComeByRank = (r : Reading) (k j : ℕ) → Rises r.from r.packets → turn r ≡ Some k → j < k → bytes_of j r ≡ []
