-- Bytes put so far on their way to a worker.
use Rattle.std.proofs.Common.{◌≡◌, ◌≢◌, ℕ, ◌+◌, ◌*◌, ◌<◌, ◌≤◌, List, [], ◌∷◌, ◌++◌, length, Option, None, Some, set, refl, sym, ap, ◌∙◌, append_assoc, append-nil, length-append, arith}
use Rattle.std.specs.List.{AllByRecursion}
use Rattle.std.proofs.lemmas.List.{get_or-set_same, get_or-set_other, length-set}
use Rattle.block_pool.specs.Handles.{PoolName, BlockValue, FrameValue}
use Rattle.dia_file.specs.Frames.{frame_bytes}
use Rattle.block_pool.specs.declared.pool.TheConstants.{LEAST_BLOCK}
use Rattle.multiplexer.specs.Sending.{IsSentFrom}
use Rattle.dia_item.specs.Sizes.{longest_row}
use Rattle.exchange.specs.Limits.{most_packets}
use Rattle.exchange.specs.Dealing.{sent_to, joined, block_of, with_frame, IsOpenIn, SentMore, IsDealt}

-- what was put and what is left are the bytes; at most one block more was sent than the bytes fill, and none more while some are left
pub record PutSoFar (pool : PoolName) (sent : List (List BlockValue)) (to : ℕ) (f : Option FrameValue) (bytes : List ℕ) (now : List (List BlockValue)) (g : Option FrameValue) (rest : List ℕ) : Type 0 where
  pub parts : (joined (sent_to now to) ++ frame_bytes g) ++ rest ≡ (joined (sent_to sent to) ++ frame_bytes f) ++ bytes
  pub more : SentMore pool (sent_to sent to) (sent_to now to)
  pub filled : 0 < length rest → length (sent_to now to) * LEAST_BLOCK + length rest ≤ length (sent_to sent to) * LEAST_BLOCK + length bytes
  pub few : length (sent_to now to) ≤ length (sent_to sent to) + most_packets
  pub others : (w : ℕ) → w ≢ to → sent_to now w ≡ sent_to sent w
  pub lanes : length now ≡ length sent

pub put_none : (pool : PoolName) (sent : List (List BlockValue)) (to : ℕ) (f : Option FrameValue) (bytes : List ℕ) → PutSoFar pool sent to f bytes sent f bytes
put_none pool sent to f bytes = record {
  parts = refl;
  more = record { more = []; are = sym (append-nil (sent_to sent to)); good = tt };
  filled = λ some. omega arith;
  few = omega arith;
  others = λ w other. refl;
  lanes = refl;
}

-- the worker's blocks, with the frame sent to it
pub frame_sent : (sent : List (List BlockValue)) (to : ℕ) (b : BlockValue) → to < length sent → sent_to (set sent to (sent_to sent to ++ b ∷ [])) to ≡ sent_to sent to ++ b ∷ []
frame_sent sent to b within = get_or-set_same sent to (sent_to sent to ++ b ∷ []) [] within

pub joined-append : (a b : List BlockValue) → joined (a ++ b) ≡ joined a ++ joined b
joined-append [] b = refl
joined-append (x ∷ a) b = ap (λ (xs : List ℕ). x.bytes ++ xs) (joined-append a b) ∙ sym (append_assoc x.bytes (joined a) (joined b))

good-append : (pool : PoolName) (a : List BlockValue) (b : BlockValue) → AllByRecursion (IsSentFrom pool) a → IsSentFrom pool b → AllByRecursion (IsSentFrom pool) (a ++ b ∷ [])
good-append pool [] b p q = (q, tt)
good-append pool (x ∷ a) b p q = (p.0, good-append pool a b p.1 q)

-- the frame was sent
pub put_sent :
    (pool : PoolName) (sent : List (List BlockValue)) (to : ℕ) (f : Option FrameValue) (bytes : List ℕ) (now : List (List BlockValue)) (g : Option FrameValue) (rest : List ℕ)
    → to < length sent → IsOpenIn pool g → PutSoFar pool sent to f bytes now g rest
    → (joined (sent_to (with_frame now to g) to) ++ rest ≡ (joined (sent_to sent to) ++ frame_bytes f) ++ bytes)
    × SentMore pool (sent_to sent to) (sent_to (with_frame now to g) to)
    × (length (sent_to (with_frame now to g) to) ≤ length (sent_to now to) + 1)
    × ((w : ℕ) → w ≢ to → sent_to (with_frame now to g) w ≡ sent_to sent w) × (length (with_frame now to g) ≡ length sent)
put_sent pool sent to f bytes now None rest within is s =
    (ap (λ (xs : List ℕ). xs ++ rest) (sym (append-nil (joined (sent_to now to)))) ∙ s.parts, s.more, omega arith, s.others, s.lanes)
put_sent pool sent to f bytes now (Some g) rest within is s =
    let b : BlockValue = block_of g in
    let there : to < length now = omega (arith, within, s.lanes) in
    let here = frame_sent now to b there in
    let bytes_are : joined (sent_to (set now to (sent_to now to ++ b ∷ [])) to) ≡ joined (sent_to now to) ++ g.bytes =
    ap joined here ∙ joined-append (sent_to now to) (b ∷ []) ∙ ap (λ (xs : List ℕ). joined (sent_to now to) ++ xs) (append-nil g.bytes) in (
      ap (λ (xs : List ℕ). xs ++ rest) bytes_are ∙ s.parts,
      record {
        more = s.more.more ++ b ∷ [];
        are = here ∙ ap (λ (xs : List BlockValue). xs ++ b ∷ []) s.more.are ∙ append_assoc (sent_to sent to) s.more.more (b ∷ []);
        good = good-append pool s.more.more b s.more.good is;
      },
      omega (arith, ap length here, length-append (sent_to now to) (b ∷ [])),
      λ w other. get_or-set_other now to w (sent_to now to ++ b ∷ []) [] other ∙ s.others w other,
      length-set now to (sent_to now to ++ b ∷ []) ∙ s.lanes,
    )

-- and the next one is written
pub put_more :
    (pool : PoolName) (sent : List (List BlockValue)) (to : ℕ) (f : Option FrameValue) (bytes : List ℕ) (now : List (List BlockValue)) (g : Option FrameValue) (rest : List ℕ)
    (h : Option FrameValue) (left : List ℕ)
    → to < length sent → length bytes ≤ longest_row → 0 < length rest → IsOpenIn pool g → PutSoFar pool sent to f bytes now g rest
    → frame_bytes h ++ left ≡ rest → (0 < length left → length left + LEAST_BLOCK ≤ length rest) → PutSoFar pool sent to f bytes (with_frame now to g) h left
put_more pool sent to f bytes now g rest h left within short some is s split full =
    let t = put_sent pool sent to f bytes now g rest within is s in
    let filled = s.filled some in
    record {
      parts =
          append_assoc (joined (sent_to (with_frame now to g) to)) (frame_bytes h) left
          ∙ ap (λ (xs : List ℕ). joined (sent_to (with_frame now to g) to) ++ xs) split ∙ t.0;
      more = t.1;
      filled = λ more. omega (arith, filled, full more, t.2);
      few = omega (arith, filled, some, short, t.2);
      others = t.3;
      lanes = t.4;
    }

-- all of them are put
pub put_all :
    (pool : PoolName) (sent : List (List BlockValue)) (to : ℕ) (f : Option FrameValue) (bytes : List ℕ) (now : List (List BlockValue)) (g : Option FrameValue) (rest : List ℕ)
    → PutSoFar pool sent to f bytes now g rest → rest ≡ [] → IsDealt pool sent to f bytes now g
put_all pool sent to f bytes now g rest s none = record {
  parts = sym (append-nil (joined (sent_to now to) ++ frame_bytes g)) ∙ ap (λ (xs : List ℕ). (joined (sent_to now to) ++ frame_bytes g) ++ xs) (sym none) ∙ s.parts;
  more = s.more;
  few = s.few;
  others = s.others;
  lanes = s.lanes;
}

-- behind the bytes in the frame
pub put_behind :
    (pool : PoolName) (sent : List (List BlockValue)) (to : ℕ) (f g : FrameValue) (bytes : List ℕ) → g.bytes ≡ f.bytes ++ bytes → IsDealt pool sent to (Some f) bytes sent (Some g)
put_behind pool sent to f g bytes e = record {
  parts = ap (λ (xs : List ℕ). joined (sent_to sent to) ++ xs) e ∙ sym (append_assoc (joined (sent_to sent to)) f.bytes bytes);
  more = record { more = []; are = sym (append-nil (sent_to sent to)); good = tt };
  few = omega arith;
  others = λ w other. refl;
  lanes = refl;
}
