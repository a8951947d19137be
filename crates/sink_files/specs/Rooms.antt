-- Room for files and for the hands that end sinks.
use Rattle.std.specs.Prelude.{◌≡◌, ◌≤◌, ℕ, vec_len, vec_capacity}
use Rattle.sink_files.specs.declared.keeping.Room.{Room}
use Rattle.sink_files.specs.Ending.{HasRoomFor}

-- there is room for the files of so many sinks
pub record IsRoomFor {D : Type 0} (count : ℕ) (room : Room D) : Type 0 where
  pub ended : HasRoomFor count room.ended
  pub no_cleared : vec_len room.cleared ≡ 0
  pub no_files : vec_len room.files ≡ 0
  pub for_cleared : count ≤ vec_capacity room.cleared
  pub for_files : count ≤ vec_capacity room.files
