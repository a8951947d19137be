-- Why rows aren't written or read.
use Rattle.std.specs.Prelude.{◌≡◌, ℕ, ◌+◌, ◌<◌, true}
use Rattle.dia_item.specs.Sizes.{longest_row}
use Rattle.block_pool.specs.Handles.{HandValue, HasHit, Follows}
use Rattle.pool_core.specs.declared.refusals.FrameErr.{FrameErr}
use Rattle.pool_core.specs.declared.refusals.FrameErr.TheVariants as frame
use Rattle.pool_core.specs.declared.refusals.PinErr.{PinErr}
use Rattle.pool_core.specs.declared.refusals.PinErr.TheVariants as pin
use Rattle.dia_file.specs.declared.refusals.PushErr.{PushErr}
use Rattle.dia_file.specs.declared.refusals.PushErr.TheVariants as push

abbrev pub push_refusal : FrameErr → PushErr
push_refusal (frame.Disk count) = push.Disk count
push_refusal frame.NoMemory = push.NoMemory

-- a row isn't read where the disk failed in this call, for want of memory, or where it doesn't tell
abbrev pub RefusesRead : HandValue → HandValue → PinErr → Type 0
RefusesRead before after (pin.Disk count) = HasHit before.notes after.notes count
RefusesRead before after pin.Damaged = before.pool.opening.tells ≡ true → ⊥
RefusesRead before after pin.NoMemory = Unit {0}

-- bytes aren't copied behind those of a row that begins: together they were longer than any row, or there is no memory
abbrev pub RefusesRoom : ℕ → ℕ → PinErr → Type 0
RefusesRoom kept more (pin.Disk count) = ⊥
RefusesRoom kept more pin.Damaged = longest_row < kept + more
RefusesRoom kept more pin.NoMemory = Unit {0}

-- the same within a call that takes further turns behind the one that was refused
abbrev pub RefusesWithin : HandValue → HandValue → PinErr → Type 0
RefusesWithin before after e = (at : HandValue) × RefusesRead before at e × Follows at after
