-- From packet to packet.
use Rattle.std.proofs.Common.{◌≡◌, ℕ, zero, suc, ◌+◌, ◌<◌, ◌≤◌, Bool, true, false, not, List, [], ◌∷◌, ◌++◌, length, take, drop, refl, sym, ap, ◌∙◌, subst, append-nil, length-append, arith}
use Rattle.std.specs.Prelude.{◌==◌, Option, None, Some}
use Rattle.std.specs.Bool.{OnTrue}
use Rattle.std.proofs.lemmas.List.{length-map}
use Rattle.std.proofs.lemmas.List.Elements.{All-cons, All-head, All-tail}
use Rattle.std.proofs.Math.Seq.{drop-length, length-take-le}
use Rattle.dia_item.specs.KindList.{kind_list}
use Rattle.block_pool.specs.Handles.{BlockValue, PoolName, PinnedValue, HandValue, Follows, AreOfPool, SameTally}
use Rattle.pool_core.specs.declared.refusals.PinErr.{PinErr}
use Rattle.multiplexer.specs.declared.packet.Packet.{Packet}
use Rattle.mix_stream.specs.Packets.{bytes_from, blocks_in}
use Rattle.mix_stream.specs.Reading.{Reading, Drains, RefusesStream, IsDamaged, StartsNoRow, bytes_of, blocks_of}
use Rattle.mix_stream.specs.Streams.{shown_bytes, left_of, pinned_of, reading_of, IsInside}
use Rattle.mix_stream.specs.Moving.{IsRead, IsMoved, IsChosen, IsOpened, IsReady, Misses}
use Rattle.mix_stream.specs.declared.stream.Stream.{Stream}
use Rattle.mix_stream.proofs.Finding.{of_open}
use Rattle.mix_stream.proofs.Moved.{closed, closed_moved, closed_inside, moved_then}
use Rattle.mix_stream.proofs.Drained.{misses_refuse, refuses_then, pins_le}

on_any : (b : Bool) (X : Type 0) → X → OnTrue b X
on_any true X x = x
on_any false X x = tt

ready_by : (s : Stream) (ps : List Packet) (n : ℕ) → s.packets.items ≡ ps → n ≡ length ps → s.pending ≡ 0 → OnTrue (not (n == 0)) (IsReady s)
ready_by s [] n is len free = subst (λ (k : ℕ). OnTrue (not (k == 0)) (IsReady s)) (sym len) tt
ready_by s (p ∷ ps) n is len free = on_any (not (n == 0)) (IsReady s) (record { first = p; others = ps; packets = is; own = λ some. absurd (omega (arith, some, free)) })

pub ready_or_empty : (s : Stream) (empty : Bool) → empty ≡ (s.packets.len == 0) → s.packets.len ≡ length s.packets.items → s.pending ≡ 0 → OnTrue (not empty) (IsReady s)
ready_or_empty s empty is len free = subst (λ (b : Bool). OnTrue (not b) (IsReady s)) (sym is) (ready_by s s.packets.items s.packets.len refl len free)

-- a row goes on behind its sender's last packet
pub cut_off : (s : Stream) → IsInside s → IsRead s → 0 < s.pending → bytes_from s.from s.packets.items ≡ [] → IsDamaged (reading_of s)
cut_off s inside read some past =
    let hs = take s.pending s.buffer.items in
    let whole : drop s.at (shown_bytes s.shown) ≡ [] = ap (λ (n : ℕ). drop n (shown_bytes s.shown)) read ∙ drop-length (shown_bytes s.shown) in
    let all : bytes_of s.from (reading_of s) ≡ hs = of_open s ∙ (λ i. (hs ++ whole i) ++ past i) ∙ append-nil (hs ++ []) ∙ append-nil hs in
    let long : length hs ≡ s.pending = length-take-le s.pending s.buffer.items inside.pending in
    (s.from, omega (arith, ap length all, long), subst (StartsNoRow (kind_list s.kinds)) (sym all) (inside.begun some))

own_packets : (pool : PoolName) (o : Option PinnedValue) (bs : List BlockValue) → AreOfPool pool (pinned_of o ++ bs) → AreOfPool pool bs
own_packets pool None bs h = h
own_packets pool (Some p) bs h = All-tail (λ (b : BlockValue). b.pool ≡ pool) (record { pool = p.pool; bytes = p.bytes }) bs h

length_blocks : (r : Reading) → length (blocks_of r) ≡ length r.pinned + length r.packets
length_blocks r = length-append r.pinned (blocks_in r.packets) ∙ ap (λ (n : ℕ). length r.pinned + n) (length-map r.packets (λ p. p.block))

-- the block is freed, and the next packet is chosen
pub chosen_moved : (pool : PoolName) (s k u : Stream) → IsRead s → k ≡ closed s → IsChosen k u → IsMoved pool (reading_of s) (reading_of u)
chosen_moved pool s k u read e h =
    moved_then pool (reading_of s) (reading_of k) (reading_of u) (subst (λ (x : Stream). IsMoved pool (reading_of s) (reading_of x)) (sym e) (closed_moved pool s read)) (h.moved pool)

pub chosen_own : (a b : HandValue) (s k u : Stream) → AreOfPool a.pool (blocks_of (reading_of s)) → k ≡ closed s → IsChosen k u → Follows a b → AreOfPool b.pool (blocks_in u.packets.items)
chosen_own a b s k u own e h f =
    let packets = own_packets a.pool s.shown (blocks_in s.packets.items) own in
    subst (λ (x : PoolName). AreOfPool x (blocks_in u.packets.items)) (sym f.pool) (h.pools a.pool (subst (λ (x : Stream). AreOfPool a.pool (blocks_in x.packets.items)) (sym e) packets))

pub chosen_drains :
    (a b : HandValue) (s k u : Stream) → AreOfPool a.pool (blocks_of (reading_of s)) → k ≡ closed s → IsChosen k u → b.permits ≡ a.permits + length (pinned_of s.shown)
    → b.notes.gone ≡ a.notes.gone + length (pinned_of s.shown) → b.notes.made ≡ a.notes.made → Follows a b → Drains a b (reading_of s) (reading_of u)
chosen_drains a b s k u own e h permits gone made f =
    let hidden : pinned_of u.shown ≡ [] = ap pinned_of (h.shown ∙ ap (λ (x : Stream). x.shown) e) in
    let count : length u.packets.items ≡ length s.packets.items = h.count ∙ ap (λ (x : Stream). length x.packets.items) e in
    record {
      kinds = ap kind_list (h.kinds ∙ ap (λ (x : Stream). x.kinds) e);
      own = subst (λ (l : List BlockValue). AreOfPool b.pool (l ++ blocks_in u.packets.items)) (sym hidden) (chosen_own a b s k u own e h f);
      permits = omega (arith, permits, ap length hidden);
      one = pins_le u.shown;
      freed = omega (arith, gone, ap length hidden, count, length_blocks (reading_of u), length_blocks (reading_of s));
      made = made;
    }

-- the choice is refused
pub choice_refuses : (a b : HandValue) (s k : Stream) (e : PinErr) → IsRead s → k ≡ closed s → Follows a b → Misses (reading_of k) e → RefusesStream a b (reading_of s) e
choice_refuses a b s k e read is f h =
    refuses_then a b b (reading_of s) (reading_of k) e f (subst (λ (x : Stream). IsMoved a.pool (reading_of s) (reading_of x)) (sym is) (closed_moved a.pool s read)) (misses_refuse b b (reading_of k) e h)

-- the first packet isn't opened
reading_same : (u v : Stream) → v.packets.items ≡ u.packets.items → v ≡ record u { packets = v.packets } → reading_of v ≡ reading_of u
reading_same u v items is = ap reading_of is ∙ (λ i. record { kinds = kind_list u.kinds; from = u.from; left = left_of u; pinned = pinned_of u.shown; packets = items i })

pub refused_moved : (pool : PoolName) (r : Reading) (u v : Stream) → IsMoved pool r (reading_of u) → v.packets.items ≡ u.packets.items → v ≡ record u { packets = v.packets } → IsMoved pool r (reading_of v)
refused_moved pool r u v h items is = subst (λ (x : Reading). IsMoved pool r x) (sym (reading_same u v items is)) h

pub refused_drains :
    (b c : HandValue) (u v : Stream) → u.shown ≡ None → AreOfPool b.pool (blocks_in u.packets.items) → v.packets.items ≡ u.packets.items → v ≡ record u { packets = v.packets }
    → c.permits + length (pinned_of v.shown) ≡ b.permits → SameTally b.notes c.notes → Follows b c → Drains b c (reading_of u) (reading_of v)
refused_drains b c u v hidden own items is permits tally f =
    let none_u : pinned_of u.shown ≡ [] = ap pinned_of hidden in
    let all : AreOfPool c.pool (blocks_of (reading_of u)) = subst (λ (l : List BlockValue). AreOfPool c.pool (l ++ blocks_in u.packets.items)) (sym none_u) (subst (λ (x : PoolName). AreOfPool x (blocks_in u.packets.items)) (sym f.pool) own) in
    let same = reading_same u v items is in
    record {
      kinds = ap (λ (x : Reading). x.kinds) same;
      own = subst (λ (x : Reading). AreOfPool c.pool (blocks_of x)) (sym same) all;
      permits = omega (arith, permits, ap length none_u);
      one = pins_le v.shown;
      freed = let gone = tally.1 in omega (arith, gone, ap (λ (x : Reading). length (blocks_of x)) same);
      made = tally.0;
    }

pub opened_drains :
    (b c : HandValue) (u v : Stream) → u.shown ≡ None → AreOfPool b.pool (blocks_in u.packets.items) → IsOpened u v
    → c.permits + length (pinned_of v.shown) ≡ b.permits → SameTally b.notes c.notes → Follows b c → Drains b c (reading_of u) (reading_of v)
opened_drains b c u v hidden own o permits tally f =
    let none_u : pinned_of u.shown ≡ [] = ap pinned_of hidden in
    let here : BlockValue = record { pool = o.pinned.pool; bytes = o.pinned.bytes } in
    let one_v : pinned_of v.shown ≡ here ∷ [] = ap pinned_of o.shown in
    let both : AreOfPool b.pool (o.first.block ∷ blocks_in v.packets.items) = subst (λ (l : List Packet). AreOfPool b.pool (blocks_in l)) o.packets own in
    let P : BlockValue → Type 0 = λ x. x.pool ≡ c.pool in
    let rest : AreOfPool c.pool (blocks_in v.packets.items) = subst (λ (x : PoolName). AreOfPool x (blocks_in v.packets.items)) (sym f.pool) (All-tail (λ (x : BlockValue). x.pool ≡ b.pool) o.first.block (blocks_in v.packets.items) both) in
    let first : here.pool ≡ c.pool = o.pool ∙ All-head (λ (x : BlockValue). x.pool ≡ b.pool) o.first.block (blocks_in v.packets.items) both ∙ sym f.pool in
    record {
      kinds = ap kind_list o.kinds;
      own = subst (λ (l : List BlockValue). AreOfPool c.pool (l ++ blocks_in v.packets.items)) (sym one_v) (All-cons P here (blocks_in v.packets.items) first rest);
      permits = omega (arith, permits, ap length none_u);
      one = pins_le v.shown;
      freed = let gone = tally.1 in omega (arith, gone, ap length none_u, ap length one_v, ap length o.packets, length_blocks (reading_of u), length_blocks (reading_of v));
      made = tally.0;
    }

pub pool_of_first : (pool : PoolName) (u : Stream) (r : IsReady u) → AreOfPool pool (blocks_in u.packets.items) → r.first.block.pool ≡ pool
pool_of_first pool u r own = All-head (λ (x : BlockValue). x.pool ≡ pool) r.first.block (blocks_in r.others) (subst (λ (l : List Packet). AreOfPool pool (blocks_in l)) r.packets own)

pub chosen_inside : (s k u : Stream) → IsInside s → k ≡ closed s → IsChosen k u → IsInside u
chosen_inside s k u inside e h =
    let k_in : IsInside k = subst IsInside (sym e) (closed_inside s inside) in
    record {
      at = subst (λ (o : Option PinnedValue). u.at ≤ length (shown_bytes o)) (sym h.shown) (omega (arith, h.at, k_in.at));
      pending = subst (λ (x : _). u.pending ≤ length x.items) (sym h.buffer) (omega (arith, h.pending, k_in.pending));
      short = omega (arith, h.pending, k_in.short);
      begun = λ lt.
          let some : 0 < k.pending = omega (arith, h.pending, lt) in
          subst (λ (x : _). StartsNoRow (kind_list x) (take u.pending u.buffer.items)) (sym h.kinds)
          (subst (λ (l : List ℕ). StartsNoRow (kind_list k.kinds) l) (λ i. take (sym h.pending i) (sym h.buffer i).items) (k_in.begun some));
    }

pub closed_own : (a b : HandValue) (s k : Stream) → AreOfPool a.pool (blocks_of (reading_of s)) → k ≡ closed s → Follows a b → AreOfPool b.pool (blocks_in k.packets.items)
closed_own a b s k own e f =
    let packets = own_packets a.pool s.shown (blocks_in s.packets.items) own in
    subst (λ (x : PoolName). AreOfPool x (blocks_in k.packets.items)) (sym f.pool) (subst (λ (x : Stream). AreOfPool a.pool (blocks_in x.packets.items)) (sym e) packets)

pub own_after : (pool after : PoolName) (p : Packet) (ps qs : List Packet) → ps ≡ p ∷ qs → after ≡ pool → AreOfPool pool (blocks_in ps) → AreOfPool after (blocks_in qs)
own_after pool after p ps qs e same own =
    subst (λ (x : PoolName). AreOfPool x (blocks_in qs)) (sym same) (All-tail (λ (x : BlockValue). x.pool ≡ pool) p.block (blocks_in qs) (subst (λ (l : List Packet). AreOfPool pool (blocks_in l)) e own))

pub some_if : (n : ℕ) → (n == 0) ≡ false → 0 < n
some_if zero e = cc
some_if (suc n) e = omega arith
