-- The rule of a receiver's queue: of what the queue holds, oldest first, and of what each pass knows.
use Rattle.std.specs.Prelude.{◌≡◌, ℕ, ◌<◌, ◌≤◌, List, [], ◌++◌, length, slice_index_or}
use mathlib.Core.Option.{Option, some, none}
use lib.ListN.{get_elem?}
use Rattle.block_pool.specs.Handles.{BlockValue}
use Rattle.multiplexer.specs.Mixes.{of_sender, numbered}
use Rattle.multiplexer.specs.declared.packet.Packet.{Packet}
use Rattle.multiplexer.specs.declared.view.View.{View}
use Rattle.multiplexer.specs.declared.view.View.TheVariants.{Sends, Receives, Spent}

-- the view of the first pass, which is the receiver's
abbrev pub keeper : View
keeper = Receives [] 0 []

-- the receiver took just these packets; nobody from `made` on has a pass, or sent anything; the senders gathered have no pass, and what they sent is known
pub record Keeps (reader : ℕ) (seat : ℕ → Option ℕ) (sent : ℕ → List BlockValue) (got : List Packet) (pass : ℕ) (taken : List Packet) (made : ℕ) (known : List (List BlockValue)) : Type 0 where
  pub is_reader : pass ≡ reader
  pub took : taken ≡ got
  pub unmade : (k : ℕ) → made ≤ k → (seat k ≡ none) × (sent k ≡ [])
  pub gathered : (k : ℕ) → k < length known → (seat k ≡ none) × (slice_index_or known k [] ≡ sent k)
  pub fewer : length known ≤ made

-- what a pass knows is so; sender k's one pass is at `seat k`
abbrev pub Knows : ℕ → (ℕ → Option ℕ) → (ℕ → List BlockValue) → List Packet → ℕ → View → Type 0
Knows reader seat sent got pass (Sends k blocks) = (seat k ≡ some pass) × (blocks ≡ sent k)
Knows reader seat sent got pass (Receives taken made known) = Keeps reader seat sent got pass taken made known
Knows reader seat sent got pass Spent = Unit {0}

-- what each sender sent is what was taken of it, and then what the queue holds of it
pub record Delivers (items : List Packet) (views : List View) : Type 0 where
  pub reader : ℕ
  pub seat : ℕ → Option ℕ
  pub sent : ℕ → List BlockValue
  pub got : List Packet
  pub in_order : (k : ℕ) → of_sender k (got ++ items) ≡ numbered k 0 (sent k)
  pub each : (pass : ℕ) (v : View) → get_elem? views pass ≡ some v → Knows reader seat sent got pass v
