-- The intakes, as senders are gathered.
use Rattle.std.proofs.Common.{◌≡◌, ℕ, zero, suc, ◌+◌, ◌<◌, List, [], ◌∷◌, ◌++◌, Some, length, map, take, drop, set, get_or, sym, refl, ap, ◌∙◌, subst, length-append, arith}
use Rattle.std.specs.Prelude.{slice_get, slice_index_or}
use Rattle.std.proofs.lemmas.List.{map-append}
use Rattle.std.specs.declared.alloc.Global.{Global}
use Rattle.crossbeam_queue.specs.SegTies.{SegId}
use Rattle.block_pool.specs.Handles.{BlockValue}
use Rattle.multiplexer.specs.Lanes.{LaneValue, IntakeValue}
use Rattle.multiplexer.specs.Sending.{SendValue}
use Rattle.std.proofs.lemmas.List.{length-map, take_at}
use Rattle.std.specs.List.{All}
use Rattle.multiplexer.specs.Receiving.{RecvValue}
use Rattle.multiplexer.specs.Mixes.{IsMix}
use Rattle.multiplexer.specs.Settling.{AreDrained, AreSettled, AreIntakesOf, IsIntakeOf, gather_each, knowing, sent_to}
use Rattle.multiplexer.specs.declared.inbox.Inbox.{Inbox}
use Rattle.multiplexer.proofs.Lists.{pair_push}

abbrev pub one_more : IntakeValue → LaneValue → IntakeValue
one_more i l = record i { known = i.known ++ l.sent ∷ [] }

pub gather_none : (is : List IntakeValue) → gather_each is [] ≡ is
gather_none [] = refl
gather_none (i ∷ is) = refl

pub gather_at : (is : List IntakeValue) (ls : List LaneValue) (n : ℕ) (d : IntakeValue) → length ls ≡ n → get_or (gather_each is ls) n d ≡ get_or is n d
gather_at [] ls n d h = refl
gather_at (i ∷ is) [] n d h = refl
gather_at (i ∷ is) (l ∷ ls) zero d h = absurd (omega arith)
gather_at (i ∷ is) (l ∷ ls) (suc n) d h = gather_at is ls n d (omega arith)

pub gather_more : (is : List IntakeValue) (ls : List LaneValue) (l : LaneValue) (n : ℕ) (d : IntakeValue) → length ls ≡ n → n < length is → set (gather_each is ls) n (one_more (get_or is n d) l) ≡ gather_each is (ls ++ l ∷ [])
gather_more [] ls l n d h lt = absurd (omega arith)
gather_more (i ∷ is) [] l zero d h lt = ap (λ (r : List IntakeValue). one_more i l ∷ r) (sym (gather_none is))
gather_more (i ∷ is) [] l (suc n) d h lt = absurd (omega arith)
gather_more (i ∷ is) (m ∷ ls) l zero d h lt = absurd (omega arith)
gather_more (i ∷ is) (m ∷ ls) l (suc n) d h lt = ap (λ (r : List IntakeValue). one_more i m ∷ r) (gather_more is ls l n d (omega arith) (omega arith))

pub knowing_queues : (n : ℕ) (sends : List SendValue) (is : List IntakeValue) → map (λ i. i.queue) (knowing n sends is) ≡ map (λ i. i.queue) is
knowing_queues n sends [] = refl
knowing_queues n sends (i ∷ is) = ap (λ (r : List (SegId Global)). i.queue ∷ r) (knowing_queues (suc n) sends is)

pub knowing_length : (n : ℕ) (sends : List SendValue) (is : List IntakeValue) → length (knowing n sends is) ≡ length is
knowing_length n sends [] = refl
knowing_length n sends (i ∷ is) = ap suc (knowing_length (suc n) sends is)

pub knowing_at : (n : ℕ) (sends : List SendValue) (is : List IntakeValue) (j : ℕ) (i : IntakeValue) → slice_get is j ≡ Some i → slice_get (knowing n sends is) j ≡ Some (record i { known = sent_to (n + j) sends })
knowing_at n sends [] j i e = cc
knowing_at n sends (x ∷ xs) zero i e = let is : x ≡ i = cc in let m : n ≡ n + 0 = omega arith in λ k. Some (record (is k) { known = sent_to (m k) sends })
knowing_at n sends (x ∷ xs) (suc j) i e = let m : suc n + j ≡ n + suc j = omega arith in knowing_at (suc n) sends xs j i e ∙ ap (λ (k : ℕ). Some (record i { known = sent_to k sends })) m

-- one more sender, whose lanes from receiver n on are these
pub knowing_more : (n : ℕ) (sends : List SendValue) (s : SendValue) (is : List IntakeValue) (ls : List LaneValue) → length ls ≡ length is
    → ((j : ℕ) → j < length is → slice_index_or s.sent (n + j) [] ≡ slice_index_or (map (λ l. l.sent) ls) j [])
    → gather_each (knowing n sends is) ls ≡ knowing n (sends ++ s ∷ []) is
knowing_more n sends s [] ls h at = refl
knowing_more n sends s (i ∷ is) [] h at = absurd (omega arith)
knowing_more n sends s (i ∷ is) (l ∷ ls) h at =
    let m : n + 0 ≡ n = omega arith in
    let here : l.sent ≡ slice_index_or s.sent n [] = sym (at 0 (omega arith)) ∙ ap (λ (k : ℕ). slice_index_or s.sent k []) m in
    let all : sent_to n sends ++ l.sent ∷ [] ≡ sent_to n (sends ++ s ∷ []) = ap (λ (b : List BlockValue). sent_to n sends ++ b ∷ []) here ∙ sym (map-append _ sends (s ∷ [])) in
    let next : (j : ℕ) → suc n + j ≡ n + suc j = λ j. omega arith in
    λ k. record i { known = all k } ∷ knowing_more (suc n) sends s is ls (omega arith) (λ j lt. ap (λ (x : ℕ). slice_index_or s.sent x []) (next j) ∙ at (suc j) (omega arith)) k

pub gather_step : (is now : List IntakeValue) (ls : List LaneValue) (l : LaneValue) (n : ℕ) (r new : IntakeValue) → now ≡ gather_each is ls → length ls ≡ n → n < length is → new ≡ one_more (get_or now n r) l → set now n new ≡ gather_each is (ls ++ l ∷ [])
gather_step is now ls l n r new e h lt step =
    ap (λ (x : List IntakeValue). set x n new) e
    ∙ ap (λ (x : IntakeValue). set (gather_each is ls) n x) (step ∙ ap (λ (x : List IntakeValue). one_more (get_or x n r) l) e ∙ ap (λ (x : IntakeValue). one_more x l) (gather_at is ls n r h))
    ∙ gather_more is ls l n r h lt

pub knowing_none : (n : ℕ) (is : List IntakeValue) → All (λ (i : IntakeValue). i.known ≡ []) is → knowing n [] is ≡ is
knowing_none n [] none = refl
knowing_none n (i ∷ is) none = λ k. record i { known = sym (none 0 i (omega arith)) k } ∷ knowing_none (suc n) is (λ j d lt. none (suc j) d (omega arith)) k

-- each knows as many senders as there are
pub knowing_all : (n : ℕ) (sends : List SendValue) (is : List IntakeValue) (m : ℕ) → length sends ≡ m → All (λ (i : IntakeValue). length i.known ≡ m) (knowing n sends is)
knowing_all n sends [] m h k d lt = absurd (omega arith)
knowing_all n sends (i ∷ is) m h zero d lt = length-map sends _ ∙ h
knowing_all n sends (i ∷ is) m h (suc k) d lt = knowing_all (suc n) sends is m h k d (omega arith)

pub knowing_made : (n : ℕ) (sends : List SendValue) (is : List IntakeValue) (m : ℕ) → length sends ≡ m → All (λ (i : IntakeValue). i.made ≡ m) is → All (λ (i : IntakeValue). i.made ≡ length i.known) (knowing n sends is)
knowing_made n sends [] m h made k d lt = absurd (omega arith)
knowing_made n sends (i ∷ is) m h made zero d lt = made 0 i (omega arith) ∙ sym (length-map sends _ ∙ h)
knowing_made n sends (i ∷ is) m h made (suc k) d lt = knowing_made (suc n) sends is m h (λ j e b. made (suc j) e (omega arith)) k d (omega arith)

-- the intakes of a mail's ends have its queues, in order
pub queues_from : (mail : List (SegId Global)) (n : ℕ) (suffix : List (SegId Global)) (rs : List RecvValue) (is : List IntakeValue) → ((j : ℕ) → slice_get mail (n + j) ≡ slice_get suffix j)
    → length rs ≡ length suffix → length is ≡ length suffix → ((k : ℕ) (r : RecvValue) → slice_get rs k ≡ Some r → (r.mail ≡ mail) × (r.rank ≡ n + k))
    → ((j : ℕ) (r : RecvValue) (i : IntakeValue) → slice_get rs j ≡ Some r → slice_get is j ≡ Some i → IsIntakeOf r i) → map (λ i. i.queue) is ≡ suffix
queues_from mail n [] rs [] same a b ends intakes = refl
queues_from mail n [] rs (i ∷ is) same a b ends intakes = absurd (omega arith)
queues_from mail n (q ∷ qs) [] is same a b ends intakes = absurd (omega arith)
queues_from mail n (q ∷ qs) (r ∷ rs) [] same a b ends intakes = absurd (omega arith)
queues_from mail n (q ∷ qs) (r ∷ rs) (i ∷ is) same a b ends intakes =
    let e = ends 0 r refl in let h = (intakes 0 r i refl refl).queue in
    let here : Some q ≡ Some i.queue = sym (same 0) ∙ sym (λ k. slice_get (e.0 k) (e.1 k)) ∙ h in
    let is-q : i.queue ≡ q = cc in let next : (j : ℕ) → suc n + j ≡ n + suc j = λ j. omega arith in
    λ k. is-q k ∷ queues_from mail (suc n) qs rs is (λ j. ap (slice_get mail) (next j) ∙ same (suc j)) (omega arith) (omega arith)
    (λ m s f. let t = ends (suc m) s f in (t.0, t.1 ∙ sym (next m))) (λ m s x f g. intakes (suc m) s x f g) k

-- what holds of each end's intake
pub all_intakes : (P : IntakeValue → Type 0) (rs : List RecvValue) (is : List IntakeValue) → AreIntakesOf rs is → ((j : ℕ) (r : RecvValue) (i : IntakeValue) → slice_get rs j ≡ Some r → IsIntakeOf r i → P i) → All P is
all_intakes P rs [] h f k d lt = absurd (omega arith)
all_intakes P [] (x ∷ is) h f k d lt = absurd (omega (arith, h.count))
all_intakes P (r ∷ rs) (x ∷ is) h f zero d lt = f 0 r x refl (h.each 0 r x refl refl)
all_intakes P (r ∷ rs) (x ∷ is) h f (suc k) d lt = all_intakes P rs is (record { count = omega (arith, h.count); each = λ j s i. h.each (suc j) s i }) (λ j s i. f (suc j) s i) k d (omega arith)

pub intake_of : (rs : List RecvValue) (is : List IntakeValue) → length is ≡ length rs → (j : ℕ) (r : RecvValue) → slice_get rs j ≡ Some r → (i : IntakeValue) × (slice_get is j ≡ Some i)
intake_of [] is h j r e = cc
intake_of (x ∷ rs) [] h j r e = absurd (omega arith)
intake_of (x ∷ rs) (i ∷ is) h zero r e = (i, refl)
intake_of (x ∷ rs) (i ∷ is) h (suc j) r e = intake_of rs is (omega arith) j r e

pub drained_more : (is : List IntakeValue) (bs : List Inbox) (i : IntakeValue) (x : Inbox) → AreDrained is bs → IsMix i.known (i.taken ++ x.packets.items) → AreDrained (is ++ i ∷ []) (bs ++ x ∷ [])
drained_more is bs i x d new = record {
  count = omega (arith, d.count, length-append bs (x ∷ []), length-append is (i ∷ []));
  mixed = pair_push (λ (i : IntakeValue) (x : Inbox). IsMix i.known (i.taken ++ x.packets.items)) is bs i x d.count new d.mixed;
}

-- the theorem: the drained intakes of all ends, each of which knows all senders
pub settled : (sends : List SendValue) (rs : List RecvValue) (is : List IntakeValue) (boxes : List Inbox) → AreIntakesOf rs is → AreDrained (knowing 0 sends is) boxes → AreSettled sends rs boxes
settled sends rs is boxes intakes d = record {
  count = d.count ∙ knowing_length 0 sends is ∙ intakes.count;
  mixed = λ j r x e f. let i = intake_of rs is intakes.count j r e in let zero_j : 0 + j ≡ j = omega arith in
      let there : slice_get (knowing 0 sends is) j ≡ Some (record i.0 { known = sent_to j sends }) = knowing_at 0 sends is j i.0 i.1 ∙ ap (λ (k : ℕ). Some (record i.0 { known = sent_to k sends })) zero_j in
      subst (λ (t : List _). IsMix (sent_to j sends) (t ++ x.packets.items)) (intakes.each j r i.0 e i.1).taken (d.mixed j (record i.0 { known = sent_to j sends }) x there f);
}

pub intakes_more : (rs : List RecvValue) (is : List IntakeValue) (r : RecvValue) (i : IntakeValue) → AreIntakesOf rs is → IsIntakeOf r i → AreIntakesOf (rs ++ r ∷ []) (is ++ i ∷ [])
intakes_more rs is r i h new = record {
  count = omega (arith, h.count, length-append is (i ∷ []), length-append rs (r ∷ []));
  each = pair_push IsIntakeOf rs is r i h.count new h.each;
}

pub own_queues : (mail : List (SegId Global)) (rs : List RecvValue) (is : List IntakeValue) → length rs ≡ length mail → ((k : ℕ) (r : RecvValue) → slice_get rs k ≡ Some r → (r.mail ≡ mail) × (r.rank ≡ k)) → AreIntakesOf rs is → map (λ i. i.queue) is ≡ mail
own_queues mail rs is many ends h = let zero_j : (j : ℕ) → 0 + j ≡ j = λ j. omega arith in
    queues_from mail 0 mail rs is (λ j. ap (slice_get mail) (zero_j j)) many (h.count ∙ many) (λ k r e. let t = ends k r e in (t.0, t.1 ∙ sym (zero_j k))) h.each

-- what is behind a slice of the whole vector
pub whole : (n : ℕ) (now old : List IntakeValue) → length now ≡ n → length old ≡ n → take n (now ++ drop (length now) old) ≡ now
whole n now old h k = take_at now (drop (length now) old) n h
