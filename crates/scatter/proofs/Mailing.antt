-- Packets of a mail, and blocks that a net brings.
use Rattle.std.proofs.Common.{◌≡◌, ◌==◌, ℕ, zero, suc, ◌+◌, Bool, true, false, List, [], ◌∷◌, ◌++◌, map, length, cond, get_or, eq-eqb, Some, refl, sym, ap, subst, ◌∙◌, arith}
use Rattle.std.specs.Prelude.{All, slice_get, slice_index_or, Vec}
use Rattle.std.specs.List.{AllZip}
use Rattle.std.specs.declared.alloc.Global.{Global}
use Rattle.std.proofs.lemmas.List.Elements.{All-nil, All-cons, All-head, All-tail}
use Rattle.std.proofs.lemmas.Option.{slice_get-get_or}
use Rattle.block_pool.specs.Handles.{PoolName, BlockValue, HandValue, AreOfPool}
use Rattle.multiplexer.specs.Mixes.{IsMix, of_sender, numbered}
use Rattle.multiplexer.specs.Sending.{SendValue, IsSentFrom}
use Rattle.multiplexer.specs.Receiving.{RecvValue}
use Rattle.multiplexer.specs.Settling.{AreSettled, sent_to}
use Rattle.multiplexer.specs.declared.inbox.Inbox.{Inbox}
use Rattle.multiplexer.specs.declared.packet.Packet.{Packet}
use Rattle.scatter.specs.Nets.{AreOfOnePool}
use Rattle.scatter.specs.Phases.{AllThree}
use Rattle.scatter.proofs.Threes.{three_long}
use Rattle.scatter.specs.Carrying.{IsFromHand, AreFromHands, AreForHand, IsCarried, IsFrontOf, IsJoined, SendsOwn, AreMixes, AreMixesOnBytes, numbers_in, bytes_in}

-- Over one pool ------------------------------------------------------------------------------------------------

hand_at : (P : HandValue → Type 0) (hands : List HandValue) (k : ℕ) (hand : HandValue) → All P hands → slice_get hands k ≡ Some hand → P hand
hand_at P [] k hand all at = absurd cc
hand_at P (a ∷ hands) zero hand all at = let e : a ≡ hand = cc in subst P e (All-head P a hands all)
hand_at P (a ∷ hands) (suc k) hand all at = hand_at P hands k hand (All-tail P a hands all) at

blocks_here : (pool : PoolName) (hands : List HandValue) (packets : List Packet) → All (λ (h : HandValue). h.pool ≡ pool) hands → All (IsFromHand hands) packets
    → AreOfPool pool (map (λ (p : Packet). p.block) packets)
blocks_here pool hands [] one own = All-nil _
blocks_here pool hands (p ∷ packets) one own =
    let here = All-head (IsFromHand hands) p packets own in
    let is : p.block.pool ≡ pool = here.own.0 ∙ hand_at (λ (h : HandValue). h.pool ≡ pool) hands p.from here.hand one here.at in
    All-cons (λ (b : BlockValue). b.pool ≡ pool) p.block (map (λ (q : Packet). q.block) packets) is (blocks_here pool hands packets one (All-tail (IsFromHand hands) p packets own))

boxes_here : (pool : PoolName) (all hands : List HandValue) (boxes : List Inbox) → All (λ (h : HandValue). h.pool ≡ pool) all → All (λ (h : HandValue). h.pool ≡ pool) hands → length boxes ≡ length hands
    → All (AreFromHands all) boxes → AllZip AreForHand hands boxes
boxes_here pool all [] [] one each long own = tt
boxes_here pool all [] (x ∷ boxes) one each long own = absurd (omega arith)
boxes_here pool all (h ∷ hands) [] one each long own = absurd (omega arith)
boxes_here pool all (h ∷ hands) (x ∷ boxes) one each long own =
    let here = All-head (AreFromHands all) x boxes own in
    let is : h.pool ≡ pool = All-head (λ (a : HandValue). a.pool ≡ pool) h hands each in
    let P : PoolName → Type 0 = λ name. AreOfPool name (map (λ (p : Packet). p.block) x.packets.items) in
    (subst P (sym is) (blocks_here pool all x.packets.items one here.own), boxes_here pool all hands boxes one (All-tail (λ (a : HandValue). a.pool ≡ pool) h hands each) (omega arith) (All-tail (AreFromHands all) x boxes own))

-- what comes from hands of one pool is of each one's pool
pub for_each_hand : (hands : List HandValue) (boxes : List Inbox) → AreOfOnePool hands → length boxes ≡ length hands → All (AreFromHands hands) boxes → AllZip AreForHand hands boxes
for_each_hand hands boxes one long own = boxes_here one.pool hands hands boxes one.all one.all long own

-- boxes that are answered as they are were carried
pub carried_same : (hands : List HandValue) (boxes : List Inbox) → AllZip (IsCarried hands) boxes boxes
carried_same hands [] = tt
carried_same hands (x ∷ boxes) = (record { numbers = λ k. refl; bytes = λ told k. refl }, carried_same hands boxes)

-- What was taken, and what is left ----------------------------------------------------------------------------

mixed_from : (sends : List SendValue) (n : ℕ) (fronts : List (Vec Packet Global)) (recvs : List RecvValue) (rest whole : List Inbox)
    → AllZip IsFrontOf fronts recvs → AllThree IsJoined fronts rest whole
    → ((j : ℕ) (r : RecvValue) (x : Inbox) → slice_get recvs j ≡ Some r → slice_get rest j ≡ Some x → IsMix (sent_to (n + j) sends) (r.taken ++ x.packets.items))
    → (j : ℕ) (x : Inbox) → slice_get whole j ≡ Some x → IsMix (sent_to (n + j) sends) x.packets.items
mixed_from sends n (f ∷ fronts) (r ∷ recvs) (y ∷ rest) (w ∷ whole) zip join mixed zero x at =
    let e : w ≡ x = cc in
    let is : r.taken ++ y.packets.items ≡ x.packets.items = ap (λ (ps : List Packet). ps ++ y.packets.items) (sym zip.0) ∙ sym join.0 ∙ ap (λ (v : Inbox). v.packets.items) e in
    subst (λ (ps : List Packet). IsMix (sent_to (n + 0) sends) ps) is (mixed 0 r y refl refl)
mixed_from sends n (f ∷ fronts) (r ∷ recvs) (y ∷ rest) (w ∷ whole) zip join mixed (suc j) x at =
    let next : suc n + j ≡ n + suc j = omega arith in
    subst (λ (k : ℕ). IsMix (sent_to k sends) x.packets.items) next (mixed_from sends (suc n) fronts recvs rest whole zip.1 join.1
    (λ i s v p q. let e : n + suc i ≡ suc n + i = omega arith in subst (λ (k : ℕ). IsMix (sent_to k sends) (s.taken ++ v.packets.items)) e (mixed (suc i) s v p q)) j x at)
mixed_from sends n [] recvs [] [] zip join mixed j x at = absurd cc
mixed_from sends n [] recvs [] (w ∷ whole) zip join mixed j x at = absurd join
mixed_from sends n [] recvs (y ∷ rest) whole zip join mixed j x at = absurd join
mixed_from sends n (f ∷ fronts) [] rest whole zip join mixed j x at = absurd zip
mixed_from sends n (f ∷ fronts) (r ∷ recvs) [] whole zip join mixed j x at = absurd join
mixed_from sends n (f ∷ fronts) (r ∷ recvs) (y ∷ rest) [] zip join mixed j x at = absurd join

-- each receiver has a mix of what was sent to it, with what it took in front
pub all_mixed : (sends : List SendValue) (fronts : List (Vec Packet Global)) (recvs : List RecvValue) (rest whole : List Inbox)
    → length recvs ≡ length sends → AllZip IsFrontOf fronts recvs → AreSettled sends recvs rest → AllThree IsJoined fronts rest whole → AreMixes sends whole
all_mixed sends fronts recvs rest whole long zip settled join = record {
  count = let two = three_long IsJoined fronts rest whole join in let same = settled.count in let a = two.0 in let b = two.1 in omega arith;
  mixed = λ j x at. let P : ℕ → Type 0 = λ k. IsMix (sent_to k sends) x.packets.items in
      let e : 0 + j ≡ j = omega arith in
      subst P e (mixed_from sends 0 fronts recvs rest whole zip join (λ i r y p q. let f : i ≡ 0 + i = omega arith in subst (λ (k : ℕ). IsMix (sent_to k sends) (r.taken ++ y.packets.items)) f (settled.mixed i r y p q)) j x at);
}

-- What a net is given ------------------------------------------------------------------------------------------

own_first : (p : Packet) (ps : List Packet) → of_sender p.from (p ∷ ps) ≡ p ∷ of_sender p.from ps
own_first p ps = ap (λ (b : Bool). cond b (p ∷ of_sender p.from ps) (of_sender p.from ps)) (eq-eqb p.from p.from refl)

rest_of : (P : Packet → Type 0) (b : Bool) (p : Packet) (ps : List Packet) → All P (cond b (p ∷ ps) ps) → All P ps
rest_of P true p ps all = All-tail P p ps all
rest_of P false p ps all = all

-- what holds of each sender's packets holds of all
by_sender : (P : Packet → Type 0) (ps : List Packet) → ((k : ℕ) → All P (of_sender k ps)) → All P ps
by_sender P [] each = All-nil P
by_sender P (p ∷ ps) each =
    let Q : List Packet → Type 0 = λ l. All P l in
    let own : All P (p ∷ of_sender p.from ps) = subst Q (own_first p ps) (each p.from) in
    All-cons P p ps (All-head P p (of_sender p.from ps) own) (by_sender P ps (λ k. rest_of P (p.from == k) p (of_sender k ps) (each k)))

-- a block that the hand at this place sent
record IsOwnAt (hands : List HandValue) (k : ℕ) (b : BlockValue) : Type 0 where
  hand : HandValue
  at : slice_get hands k ≡ Some hand
  own : IsSentFrom hand.pool b

sent_own : (hands : List HandValue) (sends : List SendValue) (j k : ℕ) → AllZip SendsOwn hands sends → All (IsOwnAt hands k) (slice_index_or (sent_to j sends) k [])
sent_own [] [] j k zip = All-nil _
sent_own [] (s ∷ sends) j k zip = absurd zip
sent_own (h ∷ hands) [] j k zip = absurd zip
sent_own (h ∷ hands) (s ∷ sends) j zero zip = λ i d lt. record { hand = h; at = refl; own = zip.0 j i d lt }
sent_own (h ∷ hands) (s ∷ sends) j (suc k) zip = λ i d lt. let it = sent_own hands sends j k zip.1 i d lt in record { hand = it.hand; at = it.at; own = it.own }

numbered_own : (hands : List HandValue) (k n : ℕ) (blocks : List BlockValue) → All (IsOwnAt hands k) blocks → All (IsFromHand hands) (numbered k n blocks)
numbered_own hands k n [] own = All-nil _
numbered_own hands k n (b ∷ blocks) own =
    let here = All-head (IsOwnAt hands k) b blocks own in
    All-cons (IsFromHand hands) (record { from = k; seq = n; block = b }) (numbered k (n + 1) blocks) (record { hand = here.hand; at = here.at; own = here.own })
    (numbered_own hands k (n + 1) blocks (All-tail (IsOwnAt hands k) b blocks own))

-- mixes of what hands sent may be carried
pub can_carry : (hands : List HandValue) (sends : List SendValue) (boxes : List Inbox) → AllZip SendsOwn hands sends → AreMixes sends boxes → All (AreFromHands hands) boxes
can_carry hands sends boxes zip mixes = λ j d lt.
    let x = get_or boxes j d in
    let mix : IsMix (sent_to j sends) x.packets.items = mixes.mixed j x (slice_get-get_or boxes j d lt) in
    let Q : List Packet → Type 0 = λ l. All (IsFromHand hands) l in
    record {
      own = by_sender (IsFromHand hands) x.packets.items (λ k. subst Q (sym (mix k)) (numbered_own hands k 0 (slice_index_or (sent_to j sends) k []) (sent_own hands sends j k zip)));
      sent = sent_to j sends;
      mix = mix;
    }

-- What a net brings ---------------------------------------------------------------------------------------------

-- an element of the first list to which one of the second is related
pub record IsOf {A B : Type 0} (R : A → B → Type 0) (xs : List A) (j : ℕ) (y : B) : Type 0 where
  pub of : A
  pub at : slice_get xs j ≡ Some of
  pub is : R of y

pub zip_at : {A B : Type 0} (R : A → B → Type 0) (xs : List A) (ys : List B) (j : ℕ) (y : B) → AllZip R xs ys → slice_get ys j ≡ Some y → IsOf R xs j y
zip_at R [] [] j y zip at = absurd cc
zip_at R [] (b ∷ ys) j y zip at = absurd zip
zip_at R (a ∷ xs) [] j y zip at = absurd zip
zip_at R (a ∷ xs) (b ∷ ys) zero y zip at = let e : b ≡ y = cc in record { of = a; at = refl; is = subst (R a) e zip.0 }
zip_at R (a ∷ xs) (b ∷ ys) (suc j) y zip at = let it = zip_at R xs ys j y zip.1 at in record { of = it.of; at = it.at; is = it.is }

numbered_bytes : (k n : ℕ) (blocks : List BlockValue) → bytes_in (numbered k n blocks) ≡ map (λ (b : BlockValue). b.bytes) blocks
numbered_bytes k n [] = refl
numbered_bytes k n (b ∷ blocks) = ap (λ (l : List (List ℕ)). b.bytes ∷ l) (numbered_bytes k (n + 1) blocks)

-- mixes that are carried are mixes on the bytes
pub mixes_carried : (hands : List HandValue) (sends : List SendValue) (before after : List Inbox) → AreMixes sends before → AllZip (IsCarried hands) before after → AreMixesOnBytes hands sends after
mixes_carried hands sends before after mixes zip = record {
  mixed = λ j x at.
      let it = zip_at (IsCarried hands) before after j x zip at in
      let mix : IsMix (sent_to j sends) it.of.packets.items = mixes.mixed j it.of it.at in
      record {
        numbers = λ k. it.is.numbers k ∙ ap numbers_in (mix k);
        bytes = λ told k. it.is.bytes told k ∙ ap bytes_in (mix k) ∙ numbered_bytes k 0 (slice_index_or (sent_to j sends) k []);
      };
}
