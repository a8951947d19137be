-- What a call asks the shelf for.
use Rattle.std.specs.Prelude.{◌≡◌, ℕ, List, Some}
use Rattle.row_defs.specs.Inputs.{Inputs}
use Rattle.script_defs.specs.Scripts.{Script}
use Rattle.script_defs.specs.Reading.{ReadsAs}
use Rattle.dia_edge.specs.Shelves.{and_asked}
use Rattle.dia_edge.specs.declared.shelf.Shelf.{Ghosts}
use Rattle.dia_lines.specs.Inputs.{AskedSome}

-- the input with this name reads as the script
abbrev pub IsScriptAt : Inputs → List ℕ → Script → Type 0
IsScriptAt inputs name script = (bytes : List ℕ) × (inputs name ≡ Some bytes) × ReadsAs bytes script

-- a call with this status asked the shelf for these names, each once, in order: for all of them at 0, else for some first of them
pub record AskedFor {N : Type 0} (g : Ghosts N) (old new : N) (names : List (List ℕ)) (status : ℕ) : Type 0 where
  pub all : status ≡ 0 → g.asked new ≡ and_asked (g.asked old) names
  pub some : AskedSome g old new names
