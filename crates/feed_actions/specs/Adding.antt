-- Summers, and what they hold.
use Rattle.std.specs.Prelude.{◌≡◌, ℕ, false}
use Rattle.feed_actions.specs.declared.summer.Summer.{Summer}

-- a summer of this column that took no row yet
pub record IsFreshSummer {D : Type 0} (column : ℕ) (s : Summer D) : Type 0 where
  pub rows : s.counter.rows ≡ 0
  pub sum : s.sum ≡ 0
  pub is_column : s.column ≡ column
  pub is_open : s.counter.shut ≡ false

abbrev pub rows_added : {D : Type 0} → Summer D → ℕ
rows_added s = s.counter.rows

abbrev pub sum_in : {D : Type 0} → Summer D → ℕ
sum_in s = s.sum

abbrev pub column_in : {D : Type 0} → Summer D → ℕ
column_in s = s.column
