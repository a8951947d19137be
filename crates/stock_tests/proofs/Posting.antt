-- The ends of a mail of two workers, as blocks go through them.
use Rattle.std.proofs.Common.{◌≡◌, ℕ, zero, suc, ◌+◌, ◌<◌, ◌≤◌, List, [], ◌∷◌, ◌++◌, length, map, set, Some, refl, sym, ap, subst, ◌∙◌, length-append, arith}
use Rattle.std.specs.Prelude.{All, slice_get, slice_index_or, replicate}
use Rattle.std.specs.List.{AllZip}
use Rattle.std.specs.declared.alloc.Global.{Global}
use Rattle.std.proofs.lemmas.List.Elements.{All-nil, All-cons, All-head, All-tail, All-append}
use Rattle.crossbeam_queue.specs.SegTies.{SegId}
use Rattle.block_pool.specs.Handles.{PoolName, BlockValue, HandValue, Follows}
use Rattle.multiplexer.specs.Sending.{SendValue, with_sent, IsSentFrom}
use Rattle.multiplexer.specs.Receiving.{RecvValue}
use Rattle.multiplexer.specs.Mails.{AreNewSends, AreNewRecvs}
use Rattle.multiplexer.specs.Settling.{AreAllEnds}
use Rattle.multiplexer.specs.declared.packet.Packet.{Packet}
use Rattle.multiplexer.specs.declared.inbox.Inbox.{Inbox}
use Rattle.scatter.specs.Nets.{AreOfOnePool}
use Rattle.scatter.specs.Carrying.{SendsOwn, AreForHand, AreBlocksOf}
use Rattle.stock_tests.specs.Posted.{IsSender, IsReceiver, AreTwoEnds, AreTwoHands, IsPosted}
use Rattle.multiplexer.proofs.Lists.{at_end, at_last}

nothing : (n w : ℕ) → let none : List (List BlockValue) = replicate n [] in slice_index_or none w [] ≡ []
nothing zero w = refl
nothing (suc n) zero = refl
nothing (suc n) (suc w) = nothing n w

new_sender : (mail : List (SegId Global)) (rank : ℕ) (pool : PoolName) (s : SendValue) → s ≡ record { mail = mail; sender = rank; sent = replicate (length mail) [] } → IsSender mail rank pool 0 s
new_sender mail rank pool s is =
    let none : (w : ℕ) → slice_index_or s.sent w [] ≡ [] = λ w. ap (λ (v : SendValue). slice_index_or v.sent w []) is ∙ nothing (length mail) w in
    record {
      of_mail = ap (λ (v : SendValue). v.mail) is;
      rank_is = ap (λ (v : SendValue). v.sender) is;
      few = λ w. let e : length (slice_index_or s.sent w []) ≡ 0 = ap length (none w) in omega arith;
      own = λ w. let Q : List BlockValue → Type 0 = λ l. All (IsSentFrom pool) l in subst Q (sym (none w)) (All-nil (IsSentFrom pool));
    }

new_receiver : (mail : List (SegId Global)) (rank : ℕ) (r : RecvValue) → r ≡ record { mail = mail; rank = rank; taken = []; misses = 0 } → IsReceiver mail rank [] r
new_receiver mail rank r is = record { of_mail = ap (λ (v : RecvValue). v.mail) is; rank_is = ap (λ (v : RecvValue). v.rank) is; taken_is = ap (λ (v : RecvValue). v.taken) is }

-- the last two ends of two
pub two_ends : (pool : PoolName) (mail : List (SegId Global)) (sends ss : List SendValue) (recvs rs : List RecvValue) (a b : SendValue) (x y : RecvValue) → length mail ≡ 2 → AreNewSends mail sends → AreNewRecvs mail recvs
    → sends ≡ ss ++ a ∷ b ∷ [] → recvs ≡ rs ++ x ∷ y ∷ [] → AreTwoEnds pool 0 [] a b x y
two_ends pool mail sends ss recvs rs a b x y two ns nr is-s is-r =
    let none_s : length ss ≡ 0 = omega (arith, ap length is-s, length-append ss (a ∷ b ∷ []), ns.count, two) in
    let none_r : length rs ≡ 0 = omega (arith, ap length is-r, length-append rs (x ∷ y ∷ []), nr.count, two) in
    let ea = ns.each 0 a (ap (λ (l : List SendValue). slice_get l 0) is-s ∙ ap (slice_get (ss ++ a ∷ b ∷ [])) (sym none_s) ∙ at_end ss a b) in
    let eb = ns.each 1 b (ap (λ (l : List SendValue). slice_get l 1) is-s ∙ ap (λ (k : ℕ). slice_get (ss ++ a ∷ b ∷ []) (suc k)) (sym none_s) ∙ at_last ss a b) in
    let ex = nr.each 0 x (ap (λ (l : List RecvValue). slice_get l 0) is-r ∙ ap (slice_get (rs ++ x ∷ y ∷ [])) (sym none_r) ∙ at_end rs x y) in
    let ey = nr.each 1 y (ap (λ (l : List RecvValue). slice_get l 1) is-r ∙ ap (λ (k : ℕ). slice_get (rs ++ x ∷ y ∷ []) (suc k)) (sym none_r) ∙ at_last rs x y) in
    record {
      mail = mail;
      two = two;
      send_zero = new_sender mail 0 pool a ea;
      send_one = new_sender mail 1 pool b eb;
      recv_zero = new_receiver mail 0 x ex;
      recv_one = new_receiver mail 1 y ey;
    }

few_set : (sent : List (List BlockValue)) (to w most : ℕ) (blocks : List BlockValue) → ((v : ℕ) → length (slice_index_or sent v []) ≤ most) → length blocks ≤ most → length (slice_index_or (set sent to blocks) w []) ≤ most
few_set [] to w most blocks each few = each w
few_set (l ∷ sent) zero zero most blocks each few = few
few_set (l ∷ sent) zero (suc w) most blocks each few = each (suc w)
few_set (l ∷ sent) (suc to) zero most blocks each few = each 0
few_set (l ∷ sent) (suc to) (suc w) most blocks each few = few_set sent to w most blocks (λ v. each (suc v)) few

own_set : (P : BlockValue → Type 0) (sent : List (List BlockValue)) (to w : ℕ) (blocks : List BlockValue) → ((v : ℕ) → All P (slice_index_or sent v [])) → All P blocks → All P (slice_index_or (set sent to blocks) w [])
own_set P [] to w blocks each own = each w
own_set P (l ∷ sent) zero zero blocks each own = own
own_set P (l ∷ sent) zero (suc w) blocks each own = each (suc w)
own_set P (l ∷ sent) (suc to) zero blocks each own = each 0
own_set P (l ∷ sent) (suc to) (suc w) blocks each own = own_set P sent to w blocks (λ v. each (suc v)) own

-- one block more may have gone
pub may_be_more : (mail : List (SegId Global)) (rank most : ℕ) (pool : PoolName) (s : SendValue) → IsSender mail rank pool most s → IsSender mail rank pool (most + 1) s
may_be_more mail rank most pool s is = record { of_mail = is.of_mail; rank_is = is.rank_is; few = λ w. let e = is.few w in omega arith; own = is.own }

-- one block more went
pub one_sent : (mail : List (SegId Global)) (rank most to : ℕ) (pool : PoolName) (block : BlockValue) (s t : SendValue) → t.mail ≡ s.mail → t.sender ≡ s.sender → t.sent ≡ with_sent s.sent to block → IsSentFrom pool block
    → IsSender mail rank pool most s → IsSender mail rank pool (most + 1) t
one_sent mail rank most to pool block s t mails ranks sent good is =
    let more = slice_index_or s.sent to [] ++ block ∷ [] in
    let Few : List (List BlockValue) → Type 0 = λ l. (w : ℕ) → length (slice_index_or l w []) ≤ most + 1 in
    let Own : List (List BlockValue) → Type 0 = λ l. (w : ℕ) → All (IsSentFrom pool) (slice_index_or l w []) in
    let few : length more ≤ most + 1 = let e = is.few to in omega (arith, length-append (slice_index_or s.sent to []) (block ∷ [])) in
    let own : All (IsSentFrom pool) more = All-append (IsSentFrom pool) (slice_index_or s.sent to []) (block ∷ []) (is.own to) (All-cons (IsSentFrom pool) block [] good (All-nil (IsSentFrom pool))) in
    record {
      of_mail = mails ∙ is.of_mail;
      rank_is = ranks ∙ is.rank_is;
      few = subst Few (sym sent) (λ w. few_set s.sent to w (most + 1) more (λ v. let e = is.few v in omega arith) few);
      own = subst Own (sym sent) (λ w. own_set (IsSentFrom pool) s.sent to w more is.own own);
    }

-- three blocks of one pool, of which the first two went through one end
pub sender_in : (mail : List (SegId Global)) (rank most : ℕ) (pool other : PoolName) (s : SendValue) → other ≡ pool → IsSender mail rank pool most s → IsSender mail rank other most s
sender_in mail rank most pool other s e is = let P : PoolName → Type 0 = λ p. IsSender mail rank p most s in subst P (sym e) is

pub has_room : (mail : List (SegId Global)) (rank most : ℕ) (pool : PoolName) (s : SendValue) → length mail ≡ 2 → most < 9 → IsSender mail rank pool most s → (1 < length s.mail) × (length (slice_index_or s.sent 1 []) < 9)
has_room mail rank most pool s two few is =
    let same : length s.mail ≡ length mail = ap length is.of_mail in
    let now = is.few 1 in
    (omega arith, omega arith)

-- What `settle` asks of these ends and hands.

pub all_ends : (front : List Packet) (a b : SendValue) (x y : RecvValue) (hands : List HandValue) → IsPosted front a b x y hands → AreAllEnds (a ∷ b ∷ []) (x ∷ y ∷ [])
all_ends front a b x y hands p = record {
  mail = p.ends.mail;
  senders = sym p.ends.two;
  receivers = sym p.ends.two;
  of_sender = sender_at;
  of_receiver = receiver_at;
}
  where
    sender_at : (k : ℕ) (s : SendValue) → slice_get (a ∷ b ∷ []) k ≡ Some s → (s.mail ≡ p.ends.mail) × (s.sender ≡ k)
    sender_at zero s e = let is : a ≡ s = cc in (ap (λ (v : SendValue). v.mail) (sym is) ∙ p.ends.send_zero.of_mail, ap (λ (v : SendValue). v.sender) (sym is) ∙ p.ends.send_zero.rank_is)
    sender_at (suc zero) s e = let is : b ≡ s = cc in (ap (λ (v : SendValue). v.mail) (sym is) ∙ p.ends.send_one.of_mail, ap (λ (v : SendValue). v.sender) (sym is) ∙ p.ends.send_one.rank_is)
    sender_at (suc (suc k)) s e = cc

    receiver_at : (k : ℕ) (r : RecvValue) → slice_get (x ∷ y ∷ []) k ≡ Some r → (r.mail ≡ p.ends.mail) × (r.rank ≡ k)
    receiver_at zero r e = let is : x ≡ r = cc in (ap (λ (v : RecvValue). v.mail) (sym is) ∙ p.ends.recv_zero.of_mail, ap (λ (v : RecvValue). v.rank) (sym is) ∙ p.ends.recv_zero.rank_is)
    receiver_at (suc zero) r e = let is : y ≡ r = cc in (ap (λ (v : RecvValue). v.mail) (sym is) ∙ p.ends.recv_one.of_mail, ap (λ (v : RecvValue). v.rank) (sym is) ∙ p.ends.recv_one.rank_is)
    receiver_at (suc (suc k)) r e = cc

two_own : (pool : PoolName) (hands : List HandValue) (a b : SendValue) → AreTwoHands pool hands → ((w : ℕ) → All (IsSentFrom pool) (slice_index_or a.sent w [])) → ((w : ℕ) → All (IsSentFrom pool) (slice_index_or b.sent w [])) → AllZip SendsOwn hands (a ∷ b ∷ [])
two_own pool [] a b two own_a own_b = absurd (let e = two.count in omega arith)
two_own pool (h ∷ []) a b two own_a own_b = absurd (let e = two.count in omega arith)
two_own pool (h ∷ i ∷ []) a b two own_a own_b =
    let P : HandValue → Type 0 = λ v. v.pool ≡ pool in
    let Q : (s : SendValue) → PoolName → Type 0 = λ s name. (w : ℕ) → All (IsSentFrom name) (slice_index_or s.sent w []) in
    let one : h.pool ≡ pool = All-head P h (i ∷ []) two.own in
    let other : i.pool ≡ pool = All-head P i [] (All-tail P h (i ∷ []) two.own) in
    (subst (Q a) (sym one) own_a, (subst (Q b) (sym other) own_b, tt))
two_own pool (h ∷ i ∷ j ∷ hands) a b two own_a own_b = absurd (let e = two.count in omega arith)

pub posted_own : (front : List Packet) (a b : SendValue) (x y : RecvValue) (hands : List HandValue) → IsPosted front a b x y hands → AllZip SendsOwn hands (a ∷ b ∷ [])
posted_own front a b x y hands p = two_own p.pool hands a b p.own p.ends.send_zero.own p.ends.send_one.own

pub one_pool : (pool : PoolName) (hands : List HandValue) → AreTwoHands pool hands → AreOfOnePool hands
one_pool pool hands two = record { pool = pool; all = two.own }

-- What `settle` leaves of them.

pub still_two : (pool : PoolName) (hands now : List HandValue) → AllZip Follows hands now → AreTwoHands pool hands → AreTwoHands pool now
still_two pool hands now follows two = record { count = sym (same_long hands now follows) ∙ two.count; own = same_pool hands now follows two.own }
  where
    same_long : (hs bs : List HandValue) → AllZip Follows hs bs → length hs ≡ length bs
    same_long [] [] zip = refl
    same_long [] (b ∷ bs) zip = absurd zip
    same_long (h ∷ hs) [] zip = absurd zip
    same_long (h ∷ hs) (b ∷ bs) zip = ap suc (same_long hs bs zip.1)

    same_pool : (hs bs : List HandValue) → AllZip Follows hs bs → All (λ (h : HandValue). h.pool ≡ pool) hs → All (λ (h : HandValue). h.pool ≡ pool) bs
    same_pool [] [] zip own = own
    same_pool [] (b ∷ bs) zip own = absurd zip
    same_pool (h ∷ hs) [] zip own = absurd zip
    same_pool (h ∷ hs) (b ∷ bs) zip own =
        let P : HandValue → Type 0 = λ v. v.pool ≡ pool in
        All-cons P b bs (zip.0.pool ∙ All-head P h hs own) (same_pool hs bs zip.1 (All-tail P h hs own))

for_last : (pool : PoolName) (hands : List HandValue) (boxes bs : List Inbox) (x y : Inbox) → All (λ (h : HandValue). h.pool ≡ pool) hands → AllZip AreForHand hands boxes → boxes ≡ bs ++ x ∷ y ∷ [] → AreBlocksOf pool y
for_last pool [] [] [] x y own zip is = absurd cc
for_last pool [] [] (b ∷ bs) x y own zip is = absurd cc
for_last pool [] (z ∷ boxes) bs x y own zip is = absurd zip
for_last pool (h ∷ hands) [] bs x y own zip is = absurd zip
for_last pool (h ∷ hands) (z ∷ boxes) (b ∷ bs) x y own zip is = for_last pool hands boxes bs x y (All-tail (λ (v : HandValue). v.pool ≡ pool) h hands own) zip.1 cc
for_last pool (h ∷ []) (z ∷ []) [] x y own zip is = absurd cc
for_last pool (h ∷ []) (z ∷ w ∷ boxes) [] x y own zip is = absurd zip.1
for_last pool (h ∷ i ∷ hands) (z ∷ []) [] x y own zip is = absurd cc
for_last pool (h ∷ i ∷ hands) (z ∷ w ∷ boxes) [] x y own zip is =
    let P : HandValue → Type 0 = λ v. v.pool ≡ pool in
    let e : w ≡ y = cc in
    let Q : Inbox → Type 0 = λ v. AreBlocksOf pool v in
    let R : PoolName → Type 0 = λ name. AreBlocksOf name w in
    let same : i.pool ≡ pool = All-head P i hands (All-tail P h (i ∷ hands) own) in
    subst Q e (subst R same zip.1.0)

-- the last box is of the pool
pub last_own : (pool : PoolName) (hands now : List HandValue) (boxes bs : List Inbox) (x y : Inbox) → AllZip Follows hands now → AllZip AreForHand now boxes → boxes ≡ bs ++ x ∷ y ∷ [] → AreTwoHands pool hands → AreBlocksOf pool y
last_own pool hands now boxes bs x y follows zip is two = for_last pool now boxes bs x y (still_two pool hands now follows two).own zip is

pub all_blocks : (pool : PoolName) (packets : List Packet) → All (λ (b : BlockValue). b.pool ≡ pool) (map (λ (p : Packet). p.block) packets) → All (λ (p : Packet). p.block.pool ≡ pool) packets
all_blocks pool [] all = All-nil _
all_blocks pool (p ∷ packets) all =
    let P : BlockValue → Type 0 = λ b. b.pool ≡ pool in
    let bs = map (λ (q : Packet). q.block) packets in
    All-cons (λ (q : Packet). q.block.pool ≡ pool) p packets (All-head P p.block bs all) (all_blocks pool packets (All-tail P p.block bs all))

-- The hands come back.

pub not_none : (pool : PoolName) (hands : List HandValue) → AreTwoHands pool hands → hands ≡ [] → ⊥
not_none pool hands two none = let long = two.count in let e : length hands ≡ 0 = ap length none in omega arith

pub not_one : (pool : PoolName) (hands rest : List HandValue) (h : HandValue) → AreTwoHands pool hands → hands ≡ rest ++ h ∷ [] → rest ≡ [] → ⊥
not_one pool hands rest h two is none =
    let long = two.count in
    let e : length hands ≡ length (rest ++ h ∷ []) = ap length is in
    let f : length rest ≡ 0 = ap length none in
    omega (arith, length-append rest (h ∷ []))

pub last_hand : (pool : PoolName) (hands rest : List HandValue) (h : HandValue) → All (λ (v : HandValue). v.pool ≡ pool) hands → hands ≡ rest ++ h ∷ [] → (h.pool ≡ pool) × All (λ (v : HandValue). v.pool ≡ pool) rest
last_hand pool hands rest h all is =
    let P : HandValue → Type 0 = λ v. v.pool ≡ pool in
    let Q : List HandValue → Type 0 = λ l. All P l in
    both rest (subst Q is all)
  where
    both : (xs : List HandValue) → All (λ (v : HandValue). v.pool ≡ pool) (xs ++ h ∷ []) → (h.pool ≡ pool) × All (λ (v : HandValue). v.pool ≡ pool) xs
    both [] every = (All-head (λ (v : HandValue). v.pool ≡ pool) h [] every, All-nil (λ (v : HandValue). v.pool ≡ pool))
    both (x ∷ xs) every =
        let P : HandValue → Type 0 = λ v. v.pool ≡ pool in
        let more = both xs (All-tail P x (xs ++ h ∷ []) every) in
        (more.0, All-cons P x xs (All-head P x (xs ++ h ∷ []) every) more.1)

-- two hands of one pool, put into a list that was empty
pub two_hands : (pool : PoolName) (room one two : List HandValue) (a b : HandValue) → room ≡ [] → one ≡ room ++ a ∷ [] → two ≡ one ++ b ∷ [] → a.pool ≡ pool → b.pool ≡ pool → AreTwoHands pool two
two_hands pool room one two a b none first second is_a is_b =
    let P : HandValue → Type 0 = λ v. v.pool ≡ pool in
    let Q : List HandValue → Type 0 = λ l. AreTwoHands pool l in
    let all : two ≡ a ∷ b ∷ [] = second ∙ ap (λ l. l ++ b ∷ []) (first ∙ ap (λ l. l ++ a ∷ []) none) in
    subst Q (sym all) (record { count = refl; own = All-cons P a (b ∷ []) is_a (All-cons P b [] is_b (All-nil P)) })
