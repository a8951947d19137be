-- Which calls of an object in memory are to fail, and how many calls and faults there were so far.
use Rattle.std.specs.Prelude.{ℕ, Bool, List, ◌==◌, if◌then◌else◌}
use Rattle.std.specs.List.{list_any}
use Rattle.dia_edge.specs.Counts.{raised}

-- calls are numbered from 1
pub record Plan : Type 0 where
  pub fail : List ℕ
  pub calls : ℕ
  pub faults : ℕ

-- no call so far
abbrev pub fresh : List ℕ → Plan
fresh fail = record { fail = fail; calls = 0; faults = 0 }

-- the next call is to fail
abbrev pub is_next_planned : Plan → Bool
is_next_planned plan = list_any (λ number. number == raised plan.calls) plan.fail

-- one more fault
abbrev pub faulted : Plan → Plan
faulted plan = record plan { faults = raised plan.faults }

-- one more call, that went well or not
abbrev pub called : Plan → Bool → Plan
called plan well =
    let counted = record plan { calls = raised plan.calls } in if well then counted else faulted counted
