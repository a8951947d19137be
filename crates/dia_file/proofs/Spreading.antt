-- Bytes that go into several blocks.
use Rattle.std.proofs.Common.{◌≡◌, ℕ, ◌+◌, ◌<◌, List, [], ◌∷◌, ◌++◌, length, Option, None, Some, refl, sym, ap, subst, ◌∙◌, append_assoc, append-nil, arith, Result, Ok, Err, OnOk, OnErr}
use Rattle.block_pool.specs.Handles.{PoolName, FrameValue, HandValue, Follows, RefusesFrame}
use Rattle.pool_core.specs.declared.refusals.FrameErr.{FrameErr}
use Rattle.pool_core.specs.declared.refusals.FrameErr.TheVariants as frame
use Rattle.dia_file.specs.declared.sealed.Sealed.{Sealed}
use Rattle.dia_file.specs.Frames.{frame_bytes, frames, IsFilled, IsFrameIn, sealed_of, AreLong, joined, Spread, AreBlocksOf}
use Rattle.dia_file.specs.Tallies.{Frees, Makes}

pub fault_from : (e : FrameErr) (a b c : HandValue) → Follows a b → RefusesFrame b.notes c.notes e → RefusesFrame a.notes c.notes e
fault_from (frame.Disk count) a b c p q = record { hits = omega (arith, p.grown.hits, q.hits); rose = q.rose; count_is = q.count_is }
fault_from frame.NoMemory a b c p q = tt

joined-append : (xs ys : List Sealed) → joined (xs ++ ys) ≡ joined xs ++ joined ys
joined-append [] ys = refl
joined-append (x ∷ xs) ys = ap (λ (zs : List ℕ). x.block.bytes ++ zs) (joined-append xs ys) ∙ sym (append_assoc x.block.bytes (joined xs) (joined ys))

long-append : (pool : PoolName) (xs ys : List Sealed) → AreLong pool xs → AreLong pool ys → AreLong pool (xs ++ ys)
long-append pool [] ys p q = q
long-append pool (x ∷ xs) ys p q = (p.0, long-append pool xs ys p.1 q)

pub spread_none : (pool : PoolName) (items : List Sealed) (rest bytes : List ℕ) → rest ≡ bytes → Spread pool items items rest bytes
spread_none pool items rest bytes e = record { long = []; items = sym (append-nil items); are = tt; parts = e }

-- the frame that is written, if there is one, becomes one more block
pub spread_more :
    (pool : PoolName) (f : Option FrameValue) (before mid after : List Sealed) (rest bytes : List ℕ)
    → Spread pool before mid (frame_bytes f ++ rest) bytes → IsFrameIn pool f → IsFilled f
    → after ≡ mid ++ sealed_of f 0 → Spread pool before after rest bytes
spread_more pool None before mid after rest bytes h own some e =
    record { long = h.long; items = e ∙ append-nil mid ∙ h.items; are = h.are; parts = h.parts }
spread_more pool (Some f) before mid after rest bytes h own some e =
    let more : List Sealed = sealed_of (Some f) 0 in
    let one : AreLong pool more = ((refl, record { of_pool = own; len = refl; some = some }), tt) in
    record {
      long = h.long ++ more;
      items = e ∙ ap (λ (xs : List Sealed). xs ++ more) h.items ∙ append_assoc before h.long more;
      are = long-append pool h.long more h.are one;
      parts = ap (λ (xs : List ℕ). xs ++ rest) (joined-append h.long more)
          ∙ ap (λ (xs : List ℕ). (joined h.long ++ xs) ++ rest) (append-nil f.bytes)
          ∙ append_assoc (joined h.long) f.bytes rest ∙ h.parts;
    }

-- more bytes went behind those that didn't go into blocks
pub spread_then :
    (pool : PoolName) (before mid after : List Sealed) (front rest bytes more : List ℕ)
    → Spread pool before mid front bytes → Spread pool mid after rest (front ++ more) → Spread pool before after rest (bytes ++ more)
spread_then pool before mid after front rest bytes more h k = record {
  long = h.long ++ k.long;
  items = k.items ∙ ap (λ (xs : List Sealed). xs ++ k.long) h.items ∙ append_assoc before h.long k.long;
  are = long-append pool h.long k.long h.are k.are;
  parts = ap (λ (xs : List ℕ). xs ++ rest) (joined-append h.long k.long) ∙ append_assoc (joined h.long) (joined k.long) rest
      ∙ ap (λ (xs : List ℕ). joined h.long ++ xs) k.parts ∙ sym (append_assoc (joined h.long) front more) ∙ ap (λ (xs : List ℕ). xs ++ more) h.parts;
}

-- and more bytes still follow them
pub spread_behind :
    (pool : PoolName) (before after : List Sealed) (rest bytes more : List ℕ)
    → Spread pool before after rest bytes → Spread pool before after (rest ++ more) (bytes ++ more)
spread_behind pool before after rest bytes more h = record {
  long = h.long;
  items = h.items;
  are = h.are;
  parts = sym (append_assoc (joined h.long) rest more) ∙ ap (λ (xs : List ℕ). xs ++ more) h.parts;
}

-- nothing was there before: the frame had been sealed
pub spread_first :
    (q pool : PoolName) (items whole after : List Sealed) (f : Option FrameValue) (rest bytes : List ℕ) → q ≡ pool → f ≡ None → items ≡ whole
    → Spread q items after rest (frame_bytes f ++ bytes) → Spread pool whole after rest bytes
spread_first q pool items whole after f rest bytes same none is h =
    let Of : PoolName → Type 0 = λ p. Spread p items after rest (frame_bytes f ++ bytes) in
    let At : Option FrameValue → Type 0 = λ g. Spread pool items after rest (frame_bytes g ++ bytes) in
    let In : List Sealed → Type 0 = λ xs. Spread pool xs after rest bytes in
    subst In is (subst At none (subst Of same h))

-- and then a part went there, behind some bytes of this row
pub spread_next :
    (q pool : PoolName) (before mid after : List Sealed) (front rest bytes more : List ℕ) → q ≡ pool
    → Spread pool before mid front bytes → Spread q mid after rest (front ++ more) → Spread pool before after rest (bytes ++ more)
spread_next q pool before mid after front rest bytes more same h k =
    let Of : PoolName → Type 0 = λ p. Spread p mid after rest (front ++ more) in
    spread_then pool before mid after front rest bytes more h (subst Of same k)

-- the bytes of three parts
pub spread_parts :
    (pool : PoolName) (before after : List Sealed) (rest head prefix last : List ℕ) → Spread pool before after rest ((head ++ prefix) ++ last) → Spread pool before after rest (head ++ (prefix ++ last))
spread_parts pool before after rest head prefix last h =
    let Of : List ℕ → Type 0 = λ bytes. Spread pool before after rest bytes in subst Of (append_assoc head prefix last) h

pub ok_then : {A E : Type 0} (P Q : Type 0) (r : Result A E) → OnOk r P → (P → Q) → OnOk r Q
ok_then P Q (Ok x) h f = f h
ok_then P Q (Err e) h f = tt

pub err_then : {A E : Type 0} (P Q : Type 0) (r : Result A E) → OnErr r P → (P → Q) → OnErr r Q
err_then P Q (Ok x) h f = tt
err_then P Q (Err e) h f = f h

-- what has come of putting bytes behind those of a frame, and into further ones, so far
pub record PutSoFar (first : HandValue) (before : List Sealed) (began : Option FrameValue) (bytes : List ℕ) (hand : HandValue) (items : List Sealed) (f : Option FrameValue) (rest : List ℕ) (n m : ℕ) : Type 0 where
  pub spread : Spread first.pool before items (frame_bytes f ++ rest) (frame_bytes began ++ bytes)
  pub some : 0 < length (frame_bytes began) + length bytes → 0 < length (frame_bytes f) + length rest
  pub filled : IsFilled f
  pub own : IsFrameIn first.pool f
  pub permits : hand.permits + frames f ≡ first.permits + frames began
  pub made : Makes n m first.notes hand.notes
  pub follows : Follows first hand

-- what has come of freeing blocks so far
pub record FreedSoFar (first hand : HandValue) (items : List Sealed) (n m : ℕ) : Type 0 where
  pub own : AreBlocksOf first.pool items
  pub permits : hand.permits ≡ first.permits
  pub gone : Frees n m first.notes hand.notes
  pub follows : Follows first hand
