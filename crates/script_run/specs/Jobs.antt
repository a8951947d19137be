-- With what a job is run, and what is told of its end.
use Rattle.std.specs.Prelude.{◌≡◌, ℕ, ◌+◌, ◌*◌, ◌≤◌, Bool, true, Option, Some}
use Rattle.row_defs.specs.Inputs.{Inputs}
use Rattle.dia_edge.specs.Counts.{TellsCount, HasRisen}
use Rattle.dia_edge.specs.Shelves.{Holdings}
use Rattle.block_pool.specs.declared.pool.TheConstants.{LEAST_BLOCK, MOST_BLOCK, MOST_LIMIT, MOST_WORKERS, SPARE_PERMITS}
use Rattle.script_run.specs.declared.pool.Setup.{Setup}
use Rattle.script_run.specs.declared.run_err.RunErr.{RunErr}
use Rattle.script_run.specs.declared.run_err.RunErr.TheVariants.{Read, Write, Disk, Damaged}

-- the numbers are within their ranges
pub record IsSetupWithin (setup : Setup) : Type 0 where
  pub least_workers : 1 ≤ setup.workers
  pub most_workers : setup.workers ≤ MOST_WORKERS
  pub most_limit : setup.limit ≤ MOST_LIMIT
  pub least_block : LEAST_BLOCK ≤ setup.block
  pub most_block : setup.block ≤ MOST_BLOCK

-- how many frames so many workers need
abbrev pub needed_frames : ℕ → ℕ
needed_frames workers = workers * (workers + SPARE_PERMITS)

-- a fixed shelf that tells holds these inputs, and the disk tells
pub record TellsAll (holds : Option Holdings) (fixed tells : Bool) (inputs : Inputs) : Type 0 where
  pub shelf : holds ≡ Some inputs
  pub fixed_is : fixed ≡ true
  pub disk : tells ≡ true

-- what an error tells: the counts of the shelf's and the sink's faults before and now, whether the disk tells, and its counts
abbrev pub TellsJob : RunErr → ℕ → ℕ → ℕ → ℕ → Bool → ℕ → ℕ → Type 0
TellsJob (Read count) before now out_before out_now tells disk_before disk_now = TellsCount count before now
TellsJob (Write count) before now out_before out_now tells disk_before disk_now = TellsCount count out_before out_now
TellsJob (Disk count) before now out_before out_now tells disk_before disk_now = HasRisen disk_before disk_now
TellsJob Damaged before now out_before out_now tells disk_before disk_now = tells ≡ true → ⊥
TellsJob _ before now out_before out_now tells disk_before disk_now = Unit {0}
