-- What was sent, as the box holds it that it came to.
use Rattle.std.proofs.Common.{◌≡◌, ℕ, ◌+◌, Bool, true, false, cond, List, [], ◌∷◌, ◌++◌, map, refl, sym, ap, ◌∙◌}
use Rattle.std.specs.Prelude.{All, ◌==◌, slice_index_or}
use Rattle.std.specs.List.{flat_map}
use Rattle.row_defs.specs.declared.kind.Kind.{Kind}
use Rattle.row_defs.specs.Rows.{Row}
use Rattle.block_pool.specs.Handles.{BlockValue, HandValue}
use Rattle.dia_file.specs.Encoding.{encoded, AreOf}
use Rattle.multiplexer.specs.Mixes.{of_sender, numbered, IsMix}
use Rattle.multiplexer.specs.declared.packet.Packet.{Packet}
use Rattle.mix_stream.specs.Packets.{bytes_from}
use Rattle.scatter.specs.Carrying.{bytes_in, IsMixOnBytes}
use Rattle.scatter.specs.Told.{Tells}
use Rattle.arrivals.specs.Boxes.{Holds}

abbrev joined_bytes : List (List ℕ) → List ℕ
joined_bytes pieces = flat_map (λ (piece : List ℕ). piece) pieces

-- the bytes of blocks, one after the other
abbrev pub bytes_sent : List BlockValue → List ℕ
bytes_sent blocks = joined_bytes (map (λ (b : BlockValue). b.bytes) blocks)

if_first : (b : Bool) (p : Packet) (ps : List Packet) → joined_bytes (bytes_in (cond b (p ∷ ps) ps)) ≡ cond b (p.block.bytes ++ joined_bytes (bytes_in ps)) (joined_bytes (bytes_in ps))
if_first true p ps = refl
if_first false p ps = refl

from_sender : (k : ℕ) (ps : List Packet) → bytes_from k ps ≡ joined_bytes (bytes_in (of_sender k ps))
from_sender k [] = refl
from_sender k (p ∷ ps) = ap (λ (l : List ℕ). cond (p.from == k) (p.block.bytes ++ l) l) (from_sender k ps) ∙ sym (if_first (p.from == k) p (of_sender k ps))

numbered_joined : (k n : ℕ) (blocks : List BlockValue) → joined_bytes (bytes_in (numbered k n blocks)) ≡ bytes_sent blocks
numbered_joined k n [] = refl
numbered_joined k n (b ∷ blocks) = ap (λ (l : List ℕ). b.bytes ++ l) (numbered_joined k (n + 1) blocks)

-- Where each sender's blocks are the bytes of a list of rows, a mix of them holds these lists ..
module _ (kinds : List Kind) (lists : List (List Row)) (sent : List (List BlockValue)) (got : List Packet) (are : All (AreOf kinds) lists)
    (rows : (k : ℕ) → bytes_sent (slice_index_or sent k []) ≡ encoded (slice_index_or lists k [])) where
  pub holds_mix : IsMix sent got → Holds kinds got lists
  holds_mix mix = record {
    are = are;
    bytes = λ k. from_sender k got ∙ ap (λ ps. joined_bytes (bytes_in ps)) (mix k) ∙ numbered_joined k 0 (slice_index_or sent k []) ∙ rows k;
  }

  -- .. and so does one that came over a net, where the disks tell
  pub holds_bytes : (hands : List HandValue) → All Tells hands → IsMixOnBytes hands sent got → Holds kinds got lists
  holds_bytes hands tells mix = record {
    are = are;
    bytes = λ k. from_sender k got ∙ ap joined_bytes (mix.bytes tells k) ∙ rows k;
  }
