-- The first packet is opened.
use Rattle.std.proofs.Common.{◌≡◌, ℕ, ◌<◌, ◌≤◌, Bool, true, false, cond, List, [], ◌++◌, length, take, drop, refl, sym, ap, ◌∙◌, subst, append_assoc, append-nil, length-append, lt_of_not-le, arith}
use Rattle.std.specs.Prelude.{◌==◌, ◌⊎◌, Option, Some, None}
use mathlib.Core.Logic.{inl, inr, dite}
use native.Mathlib.Decide.{dec_le}
use Rattle.std.proofs.Math.Seq.{length-take-le}
use Rattle.dia_item.specs.KindList.{kind_list}
use Rattle.block_pool.specs.Handles.{PoolName}
use Rattle.multiplexer.specs.declared.packet.Packet.{Packet}
use Rattle.mix_stream.specs.Packets.{bytes_from, sender_of, first_sender, Rises}
use Rattle.mix_stream.specs.Reading.{Stays, bytes_of, StartsNoRow}
use Rattle.mix_stream.specs.Streams.{shown_bytes, left_of, reading_of, IsInside}
use Rattle.mix_stream.specs.Moving.{IsMoved, IsOpened, IsReady}
use Rattle.mix_stream.specs.declared.stream.Stream.{Stream}
use Rattle.mix_stream.proofs.Moved.{stays_is, stays_then, stays_append, stays_behind, sender_some, sender_long}

-- bytes that were copied are of the packet's sender
joined : (pool : PoolName) (s_is p_is : Bool) (copied bytes shown rest : List ℕ) → (copied ≡ []) ⊎ (s_is ≡ p_is) → Stays pool bytes shown
    → Stays pool (cond s_is (copied ++ []) [] ++ cond p_is (bytes ++ rest) rest) (cond p_is (copied ++ shown) [] ++ rest)
joined pool true true copied bytes shown rest either h =
    stays_then pool ((copied ++ []) ++ (bytes ++ rest)) (copied ++ (bytes ++ rest)) ((copied ++ shown) ++ rest)
    (stays_is pool _ _ (ap (λ (l : List ℕ). l ++ (bytes ++ rest)) (sym (append-nil copied))))
    (stays_then pool (copied ++ (bytes ++ rest)) (copied ++ (shown ++ rest)) ((copied ++ shown) ++ rest)
    (stays_behind pool (bytes ++ rest) (shown ++ rest) copied (stays_append pool bytes shown rest h))
    (stays_is pool _ _ (append_assoc copied shown rest)))
joined pool false false copied bytes shown rest either h = stays_is pool rest rest refl
joined pool true false copied bytes shown rest (inl e) h = stays_is pool _ _ (ap (λ (l : List ℕ). (l ++ []) ++ rest) (sym e))
joined pool true false copied bytes shown rest (inr e) h = cc
joined pool false true copied bytes shown rest (inl e) h =
    stays_then pool (bytes ++ rest) (shown ++ rest) ((copied ++ shown) ++ rest) (stays_append pool bytes shown rest h) (stays_is pool _ _ (ap (λ (l : List ℕ). (l ++ shown) ++ rest) e))
joined pool false true copied bytes shown rest (inr e) h = cc

next_sender : (copied bytes shown : List ℕ) (from first : ℕ) (rest : Option ℕ) → (copied ≡ []) ⊎ ((0 < length copied) × (first ≡ from)) → length shown ≡ length bytes
    → sender_of (copied ++ shown) first rest ≡ sender_of (copied ++ []) from (sender_of bytes first rest)
next_sender copied bytes shown from first rest (inl e) long =
    ap (λ (l : List ℕ). sender_of (l ++ shown) first rest) e ∙ sender_long bytes shown first rest long ∙ ap (λ (l : List ℕ). sender_of (l ++ []) from (sender_of bytes first rest)) (sym e)
next_sender copied bytes shown from first rest (inr h) long =
    let some = h.0 in
    sender_some (copied ++ shown) first rest (omega (arith, length-append copied shown, some)) ∙ ap Some h.1
    ∙ sym (sender_some (copied ++ []) from (sender_of bytes first rest) (omega (arith, length-append copied [], some)))

-- nothing was copied, or something, which is of the first packet's sender
copied_or : (s : Stream) → IsInside s → (r : IsReady s) → (take s.pending s.buffer.items ≡ []) ⊎ ((0 < length (take s.pending s.buffer.items)) × (r.first.from ≡ s.from))
copied_or s inside r = dite (dec_le s.pending 0)
    (λ le. let free : s.pending ≡ 0 = omega arith in inl (ap (λ (n : ℕ). take n s.buffer.items) free))
    (λ nle. let some : 0 < s.pending = lt_of_not-le nle in inr (omega (arith, length-take-le s.pending s.buffer.items inside.pending), r.own some))

own_test : (s : Stream) (k : ℕ) (first : ℕ) → (take s.pending s.buffer.items ≡ []) ⊎ ((0 < length (take s.pending s.buffer.items)) × (first ≡ s.from)) → (take s.pending s.buffer.items ≡ []) ⊎ ((s.from == k) ≡ (first == k))
own_test s k first (inl e) = inl e
own_test s k first (inr h) = inr (ap (λ (n : ℕ). n == k) (sym h.1))

pub opened_moved : (pool : PoolName) (s t : Stream) → IsInside s → s.shown ≡ None → s.at ≡ 0 → (r : IsReady s) → r.first.block.pool ≡ pool → IsOpened s t → IsMoved pool (reading_of s) (reading_of t)
opened_moved pool s t inside hidden start r own o =
    let copied = take s.pending s.buffer.items in
    let p : Packet = o.first in
    let same : r.first ≡ p = cc in
    let either = copied_or s inside r in
    let rest = t.packets.items in
    let shown = o.pinned.shown in
    let of_pool : o.pinned.pool ≡ pool = o.pool ∙ ap (λ (x : Packet). x.block.pool) (sym same) ∙ own in
    let stays : Stays pool p.block.bytes shown = record {
      count = o.is_shown.long ∙ ap length o.bytes;
      told = λ told. o.is_shown.told (ap (λ (x : PoolName). x.opening.tells) of_pool ∙ told) ∙ o.bytes;
    } in
    let left : left_of t ≡ copied ++ shown = λ i. take (o.pending i) (o.buffer i).items ++ drop ((o.at ∙ start) i) (shown_bytes (o.shown i)) in
    let before : left_of s ≡ copied ++ [] = λ i. copied ++ drop (start i) (shown_bytes (hidden i)) in
    record {
      kinds = ap kind_list o.kinds;
      same = λ k.
          let old : bytes_of k (reading_of s) ≡ cond (s.from == k) (copied ++ []) [] ++ cond (p.from == k) (p.block.bytes ++ bytes_from k rest) (bytes_from k rest) = λ i. cond (s.from == k) (before i) [] ++ bytes_from k (o.packets i) in
          let new : bytes_of k (reading_of t) ≡ cond (p.from == k) (copied ++ shown) [] ++ bytes_from k rest = λ i. cond (o.from i == k) (left i) [] ++ bytes_from k rest in
          let own_is = own_test s k p.from (subst (λ (x : Packet). (copied ≡ []) ⊎ ((0 < length copied) × (x.from ≡ s.from))) same either) in
          subst (λ (l : List ℕ). Stays pool l (bytes_of k (reading_of t))) (sym old)
          (subst (λ (l : List ℕ). Stays pool (cond (s.from == k) (copied ++ []) [] ++ cond (p.from == k) (p.block.bytes ++ bytes_from k rest) (bytes_from k rest)) l) (sym new)
          (joined pool (s.from == k) (p.from == k) copied p.block.bytes shown (bytes_from k rest) own_is stays));
      turn_is = (λ i. sender_of (left i) (o.from i) (first_sender rest))
          ∙ next_sender copied p.block.bytes shown s.from p.from (first_sender rest) (subst (λ (x : Packet). (copied ≡ []) ⊎ ((0 < length copied) × (x.from ≡ s.from))) same either) stays.count
          ∙ (λ i. sender_of (sym before i) s.from (first_sender (sym o.packets i)));
      rises = λ h. let both = subst (λ (l : List Packet). Rises s.from l) o.packets h in subst (λ (k : ℕ). Rises k rest) (sym o.from) both.1;
    }

pub opened_inside : (s t : Stream) → IsInside s → s.at ≡ 0 → IsOpened s t → IsInside t
opened_inside s t h start o = record {
  at = omega (arith, o.at, start);
  pending = subst (λ (x : _). t.pending ≤ length x.items) (sym o.buffer) (let p = h.pending in omega (arith, o.pending, p));
  short = let p = h.short in omega (arith, o.pending, p);
  begun = λ lt. let some : 0 < s.pending = omega (arith, o.pending, lt) in
      let none = h.begun some in
      subst (λ (x : _). StartsNoRow (kind_list x) (take t.pending t.buffer.items)) (sym o.kinds) (subst (λ (l : List ℕ). StartsNoRow (kind_list s.kinds) l) (λ i. take (sym o.pending i) (sym o.buffer i).items) none);
}
