-- What the objects in memory keep.
use Rattle.std.specs.Prelude.{ℕ, Bool, List, ◌++◌, if◌then◌else◌}
use Rattle.dia_edge.specs.Plans.{Plan, called}

-- a sink in memory: the bytes taken, and the calls that are to fail
pub record Collected : Type 0 where
  pub taken : List ℕ
  pub plan : Plan

-- the sink after one more piece, which it took whole or not at all
abbrev pub collected : Collected → List ℕ → Bool → Collected
collected sink piece well =
    record { taken = (if well then sink.taken ++ piece else sink.taken); plan = called sink.plan well }

-- a shelf in memory: what it holds, what is left of the opened file, the names that were asked for, how many bytes a
-- read gives at most, and the calls that are to fail
pub record Shelved : Type 0 where
  pub files : List (List ℕ × List ℕ)
  pub left : List ℕ
  pub asked : List (List ℕ)
  pub step : ℕ
  pub plan : Plan

-- a disk in memory: the slots that were written with what each holds, the count of writes, and the calls that are
-- to fail
pub record Kept : Type 0 where
  pub held : List (ℕ × List ℕ)
  pub writes : ℕ
  pub plan : Plan
