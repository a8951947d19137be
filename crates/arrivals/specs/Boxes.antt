-- The rows in a box, by rank of their senders.
use Rattle.std.specs.Prelude.{◌≡◌, ℕ, ◌+◌, List, [], ◌∷◌, All, length, slice_index_or}
use Rattle.std.specs.List.{flat_map}
use Rattle.row_defs.specs.declared.kind.Kind.{Kind}
use Rattle.row_defs.specs.Rows.{Row}
use Rattle.dia_file.specs.Encoding.{encoded, AreOf}
use Rattle.multiplexer.specs.declared.packet.Packet.{Packet}
use Rattle.mix_stream.specs.Packets.{bytes_from}
use Rattle.mix_stream.specs.Reading.{Reading, bytes_of}

-- The lists are of rows of these kinds, one list per sender, and each sender has the bytes of its list. So there is nothing of
-- senders past the lists.
pub record AreListsOf (kinds : List Kind) (lists : List (List Row)) (has : ℕ → List ℕ) : Type 0 where
  pub are : All (AreOf kinds) lists
  pub bytes : (k : ℕ) → has k ≡ encoded (slice_index_or lists k [])

-- the packets hold these lists
abbrev pub Holds : List Kind → List Packet → List (List Row) → Type 0
Holds kinds packets lists = AreListsOf kinds lists (λ k. bytes_from k packets)

-- these lists are left to a reader
abbrev pub HasLeft : Reading → List (List Row) → Type 0
HasLeft r lists = AreListsOf r.kinds lists (λ k. bytes_of k r)

-- the rows of all senders, by rank
abbrev pub joined : List (List Row) → List Row
joined lists = flat_map (λ (rows : List Row). rows) lists

-- how many bytes are in packets, and how many are left to a reader
abbrev pub bytes_in : List Packet → ℕ
bytes_in [] = 0
bytes_in (p ∷ packets) = length p.block.bytes + bytes_in packets

abbrev pub bytes_left : Reading → ℕ
bytes_left r = length r.left + bytes_in r.packets
