-- What each kind of step makes of a pass's view.
use Rattle.std.specs.Prelude.{◌≡◌, ◌+◌, List, [], ◌∷◌, ◌++◌, length}
use Rattle.block_pool.specs.Handles.{BlockValue}
use Rattle.multiplexer.specs.Mixes.{IsMix, WasAll}
use Rattle.multiplexer.specs.declared.packet.Packet.{Packet}
use Rattle.multiplexer.specs.declared.view.View.{View}
use Rattle.multiplexer.specs.declared.view.View.TheVariants.{Sends, Receives, Spent}

abbrev pub spent : View
spent = Spent

-- the receiver's view once it made a sender, and the sender's
abbrev pub enrolling : View → View
enrolling (Receives taken made known) = Receives taken (made + 1) known
enrolling (Sends k blocks) = Spent
enrolling Spent = Spent

abbrev pub enrolled : View → View
enrolled (Receives taken made known) = Sends made []
enrolled (Sends k blocks) = Spent
enrolled Spent = Spent

abbrev pub with_known : List (List BlockValue) → View → List (List BlockValue)
with_known known (Sends k blocks) = known ++ blocks ∷ []
with_known known (Receives taken made more) = known
with_known known Spent = known

-- the receiver's view once it gathered a sender
abbrev pub gathered : View → View → View
gathered (Receives taken made known) w = Receives taken made (with_known known w)
gathered (Sends k blocks) w = Spent
gathered Spent w = Spent

abbrev pub after_send : View → Packet → View
after_send (Sends k blocks) p = Sends k (blocks ++ p.block ∷ [])
after_send (Receives taken made known) p = Receives taken made known
after_send Spent p = Spent

abbrev pub after_take : View → Packet → View
after_take (Receives taken made known) p = Receives (taken ++ p ∷ []) made known
after_take (Sends k blocks) p = Sends k blocks
after_take Spent p = Spent

-- what was taken and what the queue holds is all that was sent so far, and once all senders are gathered, what they sent
abbrev pub IsMixOnce : View → List Packet → Type 0
IsMixOnce (Receives taken made known) items = WasAll made (taken ++ items) × (made ≡ length known → IsMix known (taken ++ items))
IsMixOnce (Sends k blocks) items = Unit {0}
IsMixOnce Spent items = Unit {0}
