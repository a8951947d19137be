-- Senders that never fall.
use Rattle.std.proofs.Common.{◌≡◌, ℕ, zero, suc, ◌<◌, ◌≤◌, Bool, true, false, cond, List, [], ◌∷◌, ◌++◌, refl, sym, ap, ◌∙◌, ne_eqb, append-nil, arith}
use Rattle.std.specs.Prelude.{Some, ◌==◌}
use Rattle.std.specs.List.{remove}
use Rattle.multiplexer.specs.declared.packet.Packet.{Packet}
use Rattle.mix_stream.specs.Packets.{bytes_from, sender_of, first_sender, Rises}
use Rattle.mix_stream.specs.Reading.{Reading, turn, bytes_of}

rises_lower : (j k : ℕ) (ps : List Packet) → j ≤ k → Rises k ps → Rises j ps
rises_lower j k [] le h = tt
rises_lower j k (p ∷ ps) le h = let l = h.0 in (omega arith, h.1)

pub rises_remove : (ps : List Packet) (at k : ℕ) → Rises k ps → Rises k (remove ps at)
rises_remove [] zero k h = tt
rises_remove [] (suc at) k h = tt
rises_remove (p ∷ ps) zero k h = rises_lower k p.from ps h.0 h.1
rises_remove (p ∷ ps) (suc at) k h = (h.0, rises_remove ps at p.from h.1)

of_else : (k : ℕ) (p : Packet) (ps : List Packet) → (p.from ≡ k → ⊥) → bytes_from k (p ∷ ps) ≡ bytes_from k ps
of_else k p ps n = ap (λ (b : Bool). cond b (p.block.bytes ++ bytes_from k ps) (bytes_from k ps)) (ne_eqb p.from k n)

of_cons : (k : ℕ) (q : Packet) (ps : List Packet) → bytes_from k (q ∷ ps) ≡ bytes_from k (q ∷ []) ++ bytes_from k ps
of_cons k q ps = elim (q.from == k) as (λ (b : Bool). cond b (q.block.bytes ++ bytes_from k ps) (bytes_from k ps) ≡ cond b (q.block.bytes ++ []) [] ++ bytes_from k ps) [
  | true ↦ ap (λ (l : List ℕ). l ++ bytes_from k ps) (sym (append-nil q.block.bytes))
  | false ↦ refl
]

all_above : (ps : List Packet) (k j : ℕ) → Rises k ps → j < k → bytes_from j ps ≡ []
all_above [] k j h lt = refl
all_above (p ∷ ps) k j h lt = let l = h.0 in of_else j p ps (λ e. omega arith) ∙ all_above ps p.from j h.1 (omega arith)

empty_packet : (p : Packet) (j : ℕ) → p.block.bytes ≡ [] → bytes_from j (p ∷ []) ≡ []
empty_packet p j e = elim (p.from == j) as (λ (b : Bool). cond b (p.block.bytes ++ []) [] ≡ []) [ true ↦ ap (λ (l : List ℕ). l ++ []) e | false ↦ refl ]

by_bytes : (bs : List ℕ) (p : Packet) (ps : List Packet) (k j m : ℕ) → p.block.bytes ≡ bs → Rises m (p ∷ ps) → sender_of bs p.from (first_sender ps) ≡ Some k → j < k
    → (first_sender ps ≡ Some k → bytes_from j ps ≡ []) → bytes_from j (p ∷ ps) ≡ []
by_bytes [] p ps k j m is h e lt more = of_cons j p ps ∙ ap (λ (l : List ℕ). l ++ bytes_from j ps) (empty_packet p j is) ∙ more e
by_bytes (b ∷ bs) p ps k j m is h e lt more = let same : p.from ≡ k = cc in of_else j p ps (λ d. omega arith) ∙ all_above ps p.from j h.1 (omega arith)

first_low : (ps : List Packet) (k j m : ℕ) → Rises m ps → first_sender ps ≡ Some k → j < k → bytes_from j ps ≡ []
first_low [] k j m h e lt = refl
first_low (p ∷ ps) k j m h e lt = by_bytes p.block.bytes p ps k j m refl h e lt (λ f. first_low ps k j p.from h.1 f lt)

none_here : (b : Bool) → cond {A = List ℕ} b [] [] ≡ []
none_here true = refl
none_here false = refl

by_left : (left : List ℕ) (r : Reading) (k j : ℕ) → r.left ≡ left → Rises r.from r.packets → sender_of left r.from (first_sender r.packets) ≡ Some k → j < k → bytes_of j r ≡ []
by_left [] r k j is h e lt = ap (λ (l : List ℕ). cond (r.from == j) l [] ++ bytes_from j r.packets) is ∙ ap (λ (l : List ℕ). l ++ bytes_from j r.packets) (none_here (r.from == j)) ∙ first_low r.packets k j r.from h e lt
by_left (b ∷ bs) r k j is h e lt = let same : r.from ≡ k = cc in ap (λ (c : Bool). cond c r.left [] ++ bytes_from j r.packets) (ne_eqb r.from j (λ d. omega arith)) ∙ all_above r.packets r.from j h (omega arith)

pub by_rank : (r : Reading) (k j : ℕ) → Rises r.from r.packets → turn r ≡ Some k → j < k → bytes_of j r ≡ []
by_rank r k j h e lt = by_left r.left r k j refl h e lt
