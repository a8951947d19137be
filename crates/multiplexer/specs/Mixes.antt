-- What a receiver gets: a mix of what each sender sent to it.
use Rattle.std.specs.Prelude.{◌≡◌, ◌==◌, ℕ, ◌+◌, List, [], ◌∷◌, length, slice_index_or}
use Rattle.std.specs.List.{filter}
use Rattle.block_pool.specs.Handles.{BlockValue}
use Rattle.multiplexer.specs.declared.packet.Packet.{Packet}

-- the packets of one sender, in their order
abbrev pub of_sender : ℕ → List Packet → List Packet
of_sender k packets = filter (λ p. p.from == k) packets

-- blocks of one sender as packets, numbered from n
abbrev pub numbered : ℕ → ℕ → List BlockValue → List Packet
numbered k n [] = []
numbered k n (b ∷ bs) = record { from = k; seq = n; block = b } ∷ numbered k (n + 1) bs

-- of each sender come the blocks that it sent, in its order, and numbered from 0; nothing comes of anybody else
abbrev pub IsMix : List (List BlockValue) → List Packet → Type 0
IsMix sent got = (k : ℕ) → of_sender k got ≡ numbered k 0 (slice_index_or sent k [])

-- at some moment these packets were all that so many senders had sent
pub record WasAll (senders : ℕ) (got : List Packet) : Type 0 where
  pub sent : List (List BlockValue)
  pub count : length sent ≡ senders
  pub mix : IsMix sent got
