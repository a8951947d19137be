-- Blocks, permits and refusals, from step to step.
use Rattle.std.proofs.Common.{◌≡◌, ◌+◌, ◌≤◌, List, [], ◌++◌, length, refl, sym, ap, ◌∙◌, subst, arith}
use Rattle.std.specs.Prelude.{Option, None, Some}
use Rattle.std.proofs.lemmas.List.Elements.{All-head}
use Rattle.dia_item.specs.KindList.{kind_list}
use Rattle.block_pool.specs.Handles.{BlockValue, PoolName, PinnedValue, HandValue, Follows, AreOfPool, RefusesPin}
use Rattle.block_pool.specs.Follows.{follows_refl, follows_trans}
use Rattle.pool_core.specs.declared.refusals.PinErr.{PinErr}
use Rattle.pool_core.specs.declared.refusals.PinErr.TheVariants.{Disk, Damaged, NoMemory}
use Rattle.mix_stream.specs.Packets.{blocks_in}
use Rattle.mix_stream.specs.Reading.{Reading, Drains, RefusesStream, blocks_of}
use Rattle.mix_stream.specs.Streams.{pinned_of, reading_of, IsInside, IsSameBut, Gives}
use Rattle.mix_stream.specs.Moving.{IsMoved, Misses}
use Rattle.mix_stream.specs.declared.stream.Stream.{Stream}
use Rattle.mix_stream.specs.declared.stream.RowPlace.{RowPlace}
use Rattle.mix_stream.proofs.Moved.{damaged_then, moved_refl, moved_then}

pub pins_le : (o : Option PinnedValue) → length (pinned_of o) ≤ 1
pins_le None = omega arith
pins_le (Some p) = omega arith

pub drains_refl : (a : HandValue) (s : Stream) → AreOfPool a.pool (blocks_of (reading_of s)) → Drains a a (reading_of s) (reading_of s)
drains_refl a s own = record { kinds = refl; own = own; permits = refl; one = pins_le s.shown; freed = refl; made = refl }

pub drains_then : (a b c : HandValue) (r s t : Reading) → Drains a b r s → Drains b c s t → Drains a c r t
drains_then a b c r s t h k = record {
  kinds = k.kinds ∙ h.kinds;
  own = k.own;
  permits = k.permits ∙ h.permits;
  one = k.one;
  freed = k.freed ∙ h.freed;
  made = k.made ∙ h.made;
}

-- the same blocks in another stream
drains_alike :
    (a b : HandValue) (r : Reading) (s t : Stream) → Drains a b r (reading_of s) → t.kinds ≡ s.kinds → t.shown ≡ s.shown → t.packets ≡ s.packets → Drains a b r (reading_of t)
drains_alike a b r s t h kinds shown packets =
    let pinned : pinned_of t.shown ≡ pinned_of s.shown = ap pinned_of shown in
    let blocks : blocks_of (reading_of t) ≡ blocks_of (reading_of s) = λ i. pinned_of (shown i) ++ blocks_in (packets i).items in
    record {
      kinds = ap kind_list kinds ∙ h.kinds;
      own = subst (λ (l : List BlockValue). AreOfPool b.pool l) (sym blocks) h.own;
      permits = ap (λ (l : List BlockValue). b.permits + length l) pinned ∙ h.permits;
      one = pins_le t.shown;
      freed = ap (λ (l : List BlockValue). b.notes.gone + length l) blocks ∙ h.freed;
      made = h.made;
    }

pub drains_same : (a b : HandValue) (r : Reading) (s t : Stream) → Drains a b r (reading_of s) → IsSameBut s t → Drains a b r (reading_of t)
drains_same a b r s t h k = drains_alike a b r s t h k.kinds k.shown k.packets

-- a row is given of the block that is open
pub drains_given : (a : HandValue) (s : Stream) (place : RowPlace) (t : Stream) → AreOfPool a.pool (blocks_of (reading_of s)) → Gives s place t → Drains a a (reading_of s) (reading_of t)
drains_given a s place t own g = drains_alike a a (reading_of s) s t (drains_refl a s own) g.kinds g.shown g.packets

pub misses_refuse : (a b : HandValue) (r : Reading) (e : PinErr) → Misses r e → RefusesStream a b r e
misses_refuse a b r (Disk count) h = absurd h
misses_refuse a b r Damaged h = λ _. h
misses_refuse a b r NoMemory h = tt

pub pin_refuses : (a b : HandValue) (r : Reading) (e : PinErr) → RefusesPin a.notes b.notes e → RefusesStream a b r e
pin_refuses a b r (Disk count) h = h
pin_refuses a b r Damaged h = absurd h
pin_refuses a b r NoMemory h = tt

pub refuses_then : (a b c : HandValue) (r s : Reading) (e : PinErr) → Follows a b → IsMoved a.pool r s → RefusesStream b c s e → RefusesStream a c r e
refuses_then a b c r s (Disk count) f h k = record { hits = omega (arith, f.grown.hits, k.hits); rose = k.rose; count_is = k.count_is }
refuses_then a b c r s Damaged f h k = λ told. damaged_then a.pool r s h told (k (ap (λ (x : PoolName). x.opening.tells) f.pool ∙ told))
refuses_then a b c r s NoMemory f h k = tt

-- where a search has come to: nothing was read
pub record Going (a b : HandValue) (s t : Stream) : Type 0 where
  pub inside : IsInside t
  pub moved : IsMoved a.pool (reading_of s) (reading_of t)
  pub drains : Drains a b (reading_of s) (reading_of t)
  pub follows : Follows a b

pub going_from : (a : HandValue) (s : Stream) → IsInside s → AreOfPool a.pool (blocks_of (reading_of s)) → Going a a s s
going_from a s inside own = record { inside = inside; moved = moved_refl a.pool (reading_of s); drains = drains_refl a s own; follows = follows_refl a }

pub going_on :
    (a b c : HandValue) (s t u : Stream) → Going a b s t → IsInside u → IsMoved b.pool (reading_of t) (reading_of u) → Drains b c (reading_of t) (reading_of u) → Follows b c → Going a c s u
going_on a b c s t u g inside moved drains follows = record {
  inside = inside;
  moved = moved_then a.pool (reading_of s) (reading_of t) (reading_of u) g.moved (subst (λ (x : PoolName). IsMoved x (reading_of t) (reading_of u)) g.follows.pool moved);
  drains = drains_then a b c (reading_of s) (reading_of t) (reading_of u) g.drains drains;
  follows = follows_trans a b c g.follows follows;
}

pub own_pinned : (pool : PoolName) (o : Option PinnedValue) (p : PinnedValue) → o ≡ Some p → AreOfPool pool (pinned_of o) → p.pool ≡ pool
own_pinned pool o p e own = let h : AreOfPool pool (pinned_of (Some p)) = subst (λ (x : Option PinnedValue). AreOfPool pool (pinned_of x)) e own in
    All-head (λ (b : BlockValue). b.pool ≡ pool) (record { pool = p.pool; bytes = p.bytes }) [] h
