-- What an operand of a stage stands on: rows at the bottom, and local lines over them.
use Rattle.std.specs.Prelude.{ℕ, ◌==◌, Bool, false, List}
use Rattle.row_defs.specs.declared.kind.Kind.{Kind}
use Rattle.row_defs.specs.LocalOps.{LocalOp}

-- the rows at the bottom, by the line that has them
pub data Root : Type 0 where
  stored_root : ℕ → Root  -- rows that are kept of this line
  count_root : ℕ → ℕ → Root  -- this line's numbers, those below the second

pub record Operand : Type 0 where
  pub root : Root
  pub last : Bool  -- no later operand reads these rows
  pub kinds : List Kind  -- of the rows that the local lines make
  pub chain : List LocalOp

abbrev pub root_line : Root → ℕ
root_line (stored_root n) = n
root_line (count_root n rows) = n

-- whether this is a stored line's root
abbrev pub is_stored_at : ℕ → Root → Bool
is_stored_at n (stored_root m) = m == n
is_stored_at n (count_root m rows) = false
