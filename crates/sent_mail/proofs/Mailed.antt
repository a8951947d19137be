-- What receivers have of what was sent.
use Rattle.std.proofs.Common.{◌≡◌, ◌==◌, ℕ, zero, suc, Bool, true, false, List, [], ◌∷◌, ◌++◌, map, length, cond, replicate, get_or, Some, refl, ap, ◌∙◌, arith}
use Rattle.std.specs.Prelude.{All, slice_get, slice_index_or}
use Rattle.std.specs.List.{AllZip, flat_map}
use Rattle.std.specs.declared.alloc.Global.{Global}
use Rattle.std.proofs.lemmas.Option.{slice_get-get_or}
use Rattle.crossbeam_queue.specs.SegTies.{SegId}
use Rattle.block_pool.specs.Handles.{BlockValue, HandValue, Follows}
use Rattle.dia_file.specs.Files.{joined_blocks}
use Rattle.multiplexer.specs.declared.packet.Packet.{Packet}
use Rattle.multiplexer.specs.declared.inbox.Inbox.{Inbox}
use Rattle.multiplexer.specs.Mixes.{of_sender}
use Rattle.multiplexer.specs.Sending.{SendValue}
use Rattle.multiplexer.specs.Receiving.{RecvValue}
use Rattle.multiplexer.specs.Mails.{AreNewRecvs}
use Rattle.multiplexer.specs.Settling.{sent_to}
use Rattle.mix_stream.specs.Packets.{bytes_from}
use Rattle.scatter.specs.Carrying.{AreMixesOnBytes, bytes_in}
use Rattle.scatter.specs.Nets.{IsAsGood}
use Rattle.scatter.specs.Told.{Tells}

pub as_good : (hands now : List HandValue) → AllZip Follows hands now → AllZip (λ (a b : HandValue). b.permits ≡ a.permits) hands now → AllZip IsAsGood hands now
as_good [] [] later same = tt
as_good [] (b ∷ now) later same = absurd later
as_good (a ∷ hands) [] later same = absurd later
as_good (a ∷ hands) (b ∷ now) later same = let is = same.0 in (record { pool = later.0.pool; permits = omega (arith, is) }, as_good hands now later.1 same.1)

-- new ends ------------------------------------------------------------------------------------------------------

pub none_in : (n w : ℕ) → slice_index_or {A = List BlockValue} (replicate n []) w [] ≡ []
none_in zero w = refl
none_in (suc n) zero = refl
none_in (suc n) (suc w) = none_in n w

pub length_none : (n : ℕ) → length {A = List BlockValue} (replicate n []) ≡ n
length_none zero = refl
length_none (suc n) = ap suc (length_none n)

pub none_taken : (mail : List (SegId Global)) (recvs : List RecvValue) → AreNewRecvs mail recvs → All (λ (r : RecvValue). r.taken ≡ []) recvs
none_taken mail recvs new = λ k d lt. ap (λ (v : RecvValue). v.taken) (new.each k (get_or recvs k d) (slice_get-get_or recvs k d lt))

-- the bytes that each receiver has of each sender ------------------------------------------------------------------

pick_bytes : (mine : Bool) (p : Packet) (bytes : List ℕ) (ps : List Packet) → bytes ≡ flat_map (λ (b : List ℕ). b) (bytes_in ps)
    → cond mine (p.block.bytes ++ bytes) bytes ≡ flat_map (λ (b : List ℕ). b) (bytes_in (cond mine (p ∷ ps) ps))
pick_bytes true p bytes ps is = ap (λ (rest : List ℕ). p.block.bytes ++ rest) is
pick_bytes false p bytes ps is = is

bytes_of_sender : (k : ℕ) (ps : List Packet) → bytes_from k ps ≡ flat_map (λ (b : List ℕ). b) (bytes_in (of_sender k ps))
bytes_of_sender k [] = refl
bytes_of_sender k (p ∷ ps) = pick_bytes (p.from == k) p (bytes_from k ps) (of_sender k ps) (bytes_of_sender k ps)

bytes_joined : (blocks : List BlockValue) → flat_map (λ (b : List ℕ). b) (map (λ (b : BlockValue). b.bytes) blocks) ≡ joined_blocks blocks
bytes_joined [] = refl
bytes_joined (b ∷ blocks) = ap (λ (rest : List ℕ). b.bytes ++ rest) (bytes_joined blocks)

-- what a receiver has of a sender is what that sent to it
pub bytes_got : (hands : List HandValue) (now : List SendValue) (boxes : List Inbox) → AreMixesOnBytes hands now boxes → All Tells hands → (j k : ℕ) (x : Inbox) → slice_get boxes j ≡ Some x
    → bytes_from k x.packets.items ≡ joined_blocks (slice_index_or (sent_to j now) k [])
bytes_got hands now boxes mixes tell j k x at =
    bytes_of_sender k x.packets.items ∙ ap (flat_map (λ (b : List ℕ). b)) ((mixes.mixed j x at).bytes tell k) ∙ bytes_joined (slice_index_or (sent_to j now) k [])
