-- When all ends of a mail come together.
use Rattle.std.specs.Prelude.{◌≡◌, ℕ, suc, ◌+◌, List, [], ◌∷◌, ◌++◌, Some, map, length, slice_get, slice_index_or}
use Rattle.std.specs.declared.alloc.Global.{Global}
use Rattle.crossbeam_queue.specs.SegTies.{SegId}
use Rattle.block_pool.specs.Handles.{BlockValue}
use Rattle.multiplexer.specs.Mixes.{IsMix}
use Rattle.multiplexer.specs.Lanes.{LaneValue, IntakeValue}
use Rattle.multiplexer.specs.Sending.{SendValue}
use Rattle.multiplexer.specs.Receiving.{RecvValue}
use Rattle.multiplexer.specs.declared.inbox.Inbox.{Inbox}

-- ends of one mail, in order of rank
abbrev pub AreSendersOf : List (SegId Global) → List SendValue → Type 0
AreSendersOf mail sends = (k : ℕ) (s : SendValue) → slice_get sends k ≡ Some s → (s.mail ≡ mail) × (s.sender ≡ k)

-- all ends of one mail, each once and in order of rank
pub record AreAllEnds (sends : List SendValue) (recvs : List RecvValue) : Type 0 where
  pub mail : List (SegId Global)
  pub senders : length sends ≡ length mail
  pub receivers : length recvs ≡ length mail
  pub of_sender : AreSendersOf mail sends
  pub of_receiver : (k : ℕ) (r : RecvValue) → slice_get recvs k ≡ Some r → (r.mail ≡ mail) × (r.rank ≡ k)

-- what each sender sent to receiver j
abbrev pub sent_to : ℕ → List SendValue → List (List BlockValue)
sent_to j sends = map (λ s. slice_index_or s.sent j []) sends

-- each receiver has, in what it took and then in its inbox, a mix of what was sent to it
pub record AreSettled (sends : List SendValue) (recvs : List RecvValue) (boxes : List Inbox) : Type 0 where
  pub count : length boxes ≡ length recvs
  pub mixed : (j : ℕ) (r : RecvValue) (x : Inbox) → slice_get recvs j ≡ Some r → slice_get boxes j ≡ Some x → IsMix (sent_to j sends) (r.taken ++ x.packets.items)

-- the intakes once each of the first ones gathered the lane at its place
abbrev pub gather_each : List IntakeValue → List LaneValue → List IntakeValue
gather_each [] lanes = []
gather_each (i ∷ intakes) [] = i ∷ intakes
gather_each (i ∷ intakes) (l ∷ lanes) = record i { known = i.known ++ l.sent ∷ [] } ∷ gather_each intakes lanes

-- the intakes from receiver n on, once these senders are gathered
abbrev pub knowing : ℕ → List SendValue → List IntakeValue → List IntakeValue
knowing n sends [] = []
knowing n sends (i ∷ intakes) = record i { known = sent_to n sends } ∷ knowing (suc n) sends intakes

abbrev pub with_sender : IntakeValue → IntakeValue
with_sender i = record i { made = i.made + 1 }

abbrev pub new_lane : ℕ → SegId Global → LaneValue
new_lane from queue = record { queue = queue; from = from; sent = [] }

-- each intake was emptied into the inbox at its place
pub record AreDrained (intakes : List IntakeValue) (boxes : List Inbox) : Type 0 where
  pub count : length boxes ≡ length intakes
  pub mixed : (j : ℕ) (i : IntakeValue) (x : Inbox) → slice_get intakes j ≡ Some i → slice_get boxes j ≡ Some x → IsMix i.known (i.taken ++ x.packets.items)

-- an intake that was taken out of its end
pub record IsIntakeOf (r : RecvValue) (i : IntakeValue) : Type 0 where
  pub queue : slice_get r.mail r.rank ≡ Some i.queue
  pub taken : i.taken ≡ r.taken
  pub made : i.made ≡ length r.mail
  pub known : i.known ≡ []

pub record AreIntakesOf (recvs : List RecvValue) (intakes : List IntakeValue) : Type 0 where
  pub count : length intakes ≡ length recvs
  pub each : (j : ℕ) (r : RecvValue) (i : IntakeValue) → slice_get recvs j ≡ Some r → slice_get intakes j ≡ Some i → IsIntakeOf r i
