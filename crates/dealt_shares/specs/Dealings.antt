-- Rows that senders deal out to the owners of their positions.
use Rattle.std.specs.Prelude.{◌≡◌, ℕ, ◌+◌, ◌<◌, List, [], ◌∷◌, length, ⊤}
use Rattle.std.specs.List.{flat_map}
use Rattle.row_defs.specs.Rows.{Row}
use Rattle.collective.specs.Shares.{HasPlace, share_of}
use Rattle.exchange.specs.Deals.{AreRouted, rows_to}

-- a sender's rows, and which worker each of them went to
pub record Dealing : Type 0 where
  pub rows : List Row
  pub to : List ℕ

-- the rows of all senders
abbrev pub dealt : List Dealing → List Row
dealt senders = flat_map (λ (s : Dealing). s.rows) senders

-- what a worker gets, sender by sender
abbrev pub coming_to : ℕ → List Dealing → List Row
coming_to worker senders = flat_map (λ (s : Dealing). rows_to worker s.rows s.to) senders

-- each row went to a worker whose share of so many positions has the row's; the positions go on from sender to sender
abbrev pub AreOwned : ℕ → ℕ → ℕ → List Dealing → Type 0
AreOwned total workers start [] = ⊤
AreOwned total workers start (s ∷ senders) =
    AreRouted (λ row n worker. HasPlace total workers worker (start + n)) 0 s.rows s.to × AreOwned total workers (start + length s.rows) senders

abbrev pub PositionsMakeShares : Type 0
PositionsMakeShares =
    (workers worker : ℕ) (senders : List Dealing) → worker < workers → AreOwned (length (dealt senders)) workers 0 senders
    → coming_to worker senders ≡ share_of (dealt senders) workers worker
