-- What a sink has written.
use Rattle.std.specs.Prelude.{◌≡◌, ◌+◌, ◌<◌, ◌≤◌, Bool, false, List, [], ◌++◌, length, refl, ⊤}
use Rattle.std.proofs.Common.{sym, ap, ◌∙◌, append-nil, append_assoc, arith}
use Rattle.row_defs.specs.Limits.{most_rows}
use Rattle.row_defs.specs.Rows.{Row}
use Rattle.block_pool.specs.Handles.{PoolName, HandValue, HasHit, Follows}
use Rattle.dia_file.specs.Writers.{WriterValue, IsWriterOf, frames_of}
use Rattle.dia_file.specs.declared.refusals.PushErr.{PushErr}
use Rattle.dia_file.specs.declared.refusals.PushErr.TheVariants.{Disk, NoMemory, TooManyRows}

-- its pool, what was written, and whether it takes no more
pub record SinkValue : Type 0 where
  pub pool : PoolName
  pub writer : WriterValue
  pub is_shut : Bool

-- what was written is of its pool, and no more than may be; where a block wasn't had, it takes no more
pub record IsSink (pool : PoolName) (w : WriterValue) (shut : Bool) : Type 0 where
  pub own : IsWriterOf pool w
  pub whole : shut ≡ false → w.is_broken ≡ false
  pub few : length w.rows ≤ w.limit
  pub most : w.limit ≤ most_rows

-- these rows were written behind those that were there
pub record Wrote (w : WriterValue) (rows : List Row) (v : WriterValue) : Type 0 where
  pub rows_are : v.rows ≡ w.rows ++ rows
  pub kinds : v.kinds ≡ w.kinds
  pub limit : v.limit ≡ w.limit

-- the hand is of the pool, and has a permit, or a frame is written
pub record IsServed (s : SinkValue) (d : HandValue) : Type 0 where
  pub own : d.pool ≡ s.pool
  pub permit : 0 < d.permits + frames_of s.writer

-- a fault of the disk comes only with a hit; too many rows, just where as many as may be are there
abbrev pub IsWhy : PushErr → WriterValue → HandValue → HandValue → Type 0
IsWhy (Disk count) w a b = HasHit a.notes b.notes count
IsWhy NoMemory w a b = ⊤
IsWhy (TooManyRows limit) w a b = (limit ≡ w.limit) × (length w.rows ≡ w.limit)

-- why a row isn't written; the rows are as before
pub record RefusesTake (e : PushErr) (w : WriterValue) (a : HandValue) (v : WriterValue) (b : HandValue) : Type 0 where
  pub rows : v.rows ≡ w.rows
  pub why : IsWhy e w a b

-- what stays, whatever is answered
pub record KeepsFile (s t : SinkValue) : Type 0 where
  pub pool : t.pool ≡ s.pool
  pub kinds : t.writer.kinds ≡ s.writer.kinds
  pub limit : t.writer.limit ≡ s.writer.limit

-- laws ----------------------------------------------------------------------------------------------------------------

pub wrote_none : (w : WriterValue) → Wrote w [] w
wrote_none w = record { rows_are = sym (append-nil w.rows); kinds = refl; limit = refl }

pub wrote_more : (w v u : WriterValue) (xs ys : List Row) → Wrote w xs v → Wrote v ys u → Wrote w (xs ++ ys) u
wrote_more w v u xs ys p q = record {
  rows_are = q.rows_are ∙ ap (λ (rows : List Row). rows ++ ys) p.rows_are ∙ append_assoc w.rows xs ys;
  kinds = q.kinds ∙ p.kinds;
  limit = q.limit ∙ p.limit;
}

pub keeps_none : (s : SinkValue) → KeepsFile s s
keeps_none s = record { pool = refl; kinds = refl; limit = refl }

pub keeps_more : (s t u : SinkValue) → KeepsFile s t → KeepsFile t u → KeepsFile s u
keeps_more s t u p q = record { pool = q.pool ∙ p.pool; kinds = q.kinds ∙ p.kinds; limit = q.limit ∙ p.limit }

why_from : (e : PushErr) (w : WriterValue) (a b c : HandValue) → Follows a b → IsWhy e w b c → IsWhy e w a c
why_from (Disk count) w a b c p q = record { hits = omega (arith, p.grown.hits, q.hits); rose = q.rose; count_is = q.count_is }
why_from NoMemory w a b c p q = q
why_from (TooManyRows limit) w a b c p q = q

pub refuses_from : (e : PushErr) (w v : WriterValue) (a b c : HandValue) → Follows a b → RefusesTake e w b v c → RefusesTake e w a v c
refuses_from e w v a b c p q = record { rows = q.rows; why = why_from e w a b c p q.why }
