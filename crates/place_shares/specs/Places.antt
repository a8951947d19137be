-- What workers write of rows that are dealt out by position.
use Rattle.std.specs.Prelude.{◌≡◌, ℕ, ◌+◌, ◌<◌, List, length, map, sum, take, Some, slice_get}
use Rattle.std.specs.List.{flat_map}
use Rattle.row_defs.specs.Rows.{Row}
use Rattle.collective.specs.Shares.{share_start, HasPlace}
use Rattle.exchange.specs.Deals.{AreRouted}
use Rattle.dealt_shares.specs.Dealings.{Dealing, dealt, coming_to, AreOwned}
use Rattle.file_sink.specs.Numbered.{numbered}

abbrev pub rows_of_senders : List Dealing → List (List Row)
rows_of_senders senders = map (λ (s : Dealing). s.rows) senders

-- at which position a sender's rows begin: behind those of all senders before it
abbrev pub begins_at : List Dealing → ℕ → ℕ
begins_at senders k = sum (take k (map length (rows_of_senders senders)))

-- each sender's rows went to the workers whose shares of so many positions have theirs
abbrev pub AreDealtByPosition : ℕ → ℕ → List Dealing → Type 0
AreDealtByPosition total workers senders =
    (k : ℕ) (s : Dealing) → slice_get senders k ≡ Some s → AreRouted (λ row n worker. HasPlace total workers worker (begins_at senders k + n)) 0 s.rows s.to

-- one list per worker: of the rows that came to it what is written of rows whose first has the position where its share starts
pub record AreWritten (written : ℕ → List Row → List Row) (workers : ℕ) (senders : List Dealing) (parts : List (List Row)) : Type 0 where
  pub count : length parts ≡ workers
  pub each : (rank : ℕ) (rows : List Row) → slice_get parts rank ≡ Some rows → rows ≡ written (share_start (length (dealt senders)) workers rank) (coming_to rank senders)

-- rows as they come
abbrev pub plain : ℕ → List Row → List Row
plain n rows = rows

abbrev pub joined : List (List Row) → List Row
joined parts = flat_map (λ (rows : List Row). rows) parts

-- laws ----------------------------------------------------------------------------------------------------------------

abbrev pub PositionsAreOwned : Type 0
PositionsAreOwned = (total workers : ℕ) (senders : List Dealing) → AreDealtByPosition total workers senders → AreOwned total workers 0 senders

abbrev pub PartsAreTheRows : Type 0
PartsAreTheRows =
    (workers : ℕ) (senders : List Dealing) (parts : List (List Row)) → 0 < workers → AreOwned (length (dealt senders)) workers 0 senders
    → AreWritten plain workers senders parts → joined parts ≡ dealt senders

abbrev pub PartsAreNumbered : Type 0
PartsAreNumbered =
    (workers : ℕ) (senders : List Dealing) (parts : List (List Row)) → 0 < workers → AreOwned (length (dealt senders)) workers 0 senders
    → AreWritten numbered workers senders parts → joined parts ≡ numbered 0 (dealt senders)
