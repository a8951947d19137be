-- How many blocks were made and freed, from call to call.
use Rattle.std.proofs.Common.{◌≡◌, ℕ, List, ◌++◌, length, take, drop, Global, Option, None, Some, refl, ap, ◌∙◌, length-append, take-append-drop, arith}
use Rattle.std.proofs.lemmas.List.{length-map}
use Rattle.std.specs.VecDeque.{deque_len}
use Rattle.std.specs.declared.collections.VecDeque.{VecDeque}
use Rattle.block_pool.specs.Handles.{Notes, PoolName, SameTally}
use Rattle.dia_file.specs.declared.sealed.Sealed.{Sealed}
use Rattle.dia_file.specs.declared.place.Held.{Held}
use Rattle.dia_file.specs.declared.place.Place.{Place}
use Rattle.dia_file.specs.Frames.{blocks_of}
use Rattle.dia_file.specs.Places.{held_list, pins, block_count, ahead_items, file_items, IsPlaced}
use Rattle.dia_file.specs.Tallies.{Frees, Makes}

pub frees_trans : (n m k : ℕ) (a b c : Notes) → Frees n m a b → Frees m k b c → Frees n k a c
frees_trans n m k a b c p q = (q.0 ∙ p.0, omega (arith, p.1, q.1))

pub makes_trans : (n m k : ℕ) (a b c : Notes) → Makes n m a b → Makes m k b c → Makes n k a c
makes_trans n m k a b c p q = (omega (arith, p.0, q.0), q.1 ∙ p.1)

-- where as many are left, none was freed
pub frees_none : (n m : ℕ) (a b : Notes) → Frees n m a b → n ≡ m → SameTally a b
frees_none n m a b p e = (p.0, omega (arith, p.1, e))

pub length_blocks : (items : List Sealed) → length (blocks_of items) ≡ length items
length_blocks items = length-map items (λ (s : Sealed). s.block)

pub length_held : (o : Option Held) → length (held_list o) ≡ pins o
length_held None = refl
length_held (Some h) = refl

-- the blocks of a place are those of its ring and the one that is pinned
pub count_placed : (pool : PoolName) (p : Place) → IsPlaced pool p → length (file_items p) ≡ block_count p
count_placed pool p placed =
    let ok = p.ring.ok.0 in
    let all = ap (λ (xs : List Sealed). length xs) (take-append-drop p.ahead p.ring.items) in
    omega (arith, ok, all, length-append (take p.ahead p.ring.items) (drop p.ahead p.ring.items), length-append (drop p.ahead p.ring.items) (held_list p.shown ++ ahead_items p), length-append (held_list p.shown) (ahead_items p), length_held p.shown)

pub count_blocks : (pool : PoolName) (p : Place) → IsPlaced pool p → length (blocks_of (file_items p)) ≡ block_count p
count_blocks pool p placed = length_blocks (file_items p) ∙ count_placed pool p placed

pub made_blocks : (s t : VecDeque Sealed Global) (a b : Notes) → Makes (deque_len s) (deque_len t) a b → Makes (length (blocks_of s.items)) (length (blocks_of t.items)) a b
made_blocks s t a b made =
    let old = s.ok.0 in
    let new = t.ok.0 in
    (omega (arith, made.0, old, new, length_blocks s.items, length_blocks t.items), made.1)

pub freed_blocks : (s : VecDeque Sealed Global) (a b : Notes) → Frees (deque_len s) 0 a b → Frees (length (blocks_of s.items)) 0 a b
freed_blocks s a b gone = let old = s.ok.0 in (gone.0, omega (arith, gone.1, old, length_blocks s.items))
