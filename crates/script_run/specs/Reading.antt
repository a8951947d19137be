-- What a fault of the disk says in the reading of an input.
use Rattle.std.specs.Prelude.{List}
use Rattle.block_pool.specs.Handles.{HandValue}
use Rattle.input_file.specs.declared.refusals.ReadFileErr.{ReadFileErr}
use Rattle.input_file.specs.declared.refusals.ReadFileErr.TheVariants.{Disk}
use Rattle.scatter.specs.Told.{SomeHit}

-- it is one of this call, met by one of the hands
abbrev pub HitsSome : ReadFileErr → List HandValue → List HandValue → Type 0
HitsSome (Disk count) hands now = SomeHit hands now count
HitsSome _ hands now = Unit {0}
