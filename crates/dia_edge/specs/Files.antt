-- Files: their names, as bytes, what those in memory hold, and what the opening of one in a folder comes to.
use Rattle.std.specs.Prelude.{◌≡◌, ◌⊎◌, Bool, true, false, ℕ, List, [], ◌∷◌, Option, Some, None, Result, Ok, Err, IsErr, MatchBool, Contains, map, slice_get, unwrap_or, if◌then◌else◌, Vec}
use Rattle.std.specs.IoError.{error_kind}
use Rattle.std.specs.List.{list_any}
use Rattle.std.specs.Path.{IsAbsolute, path_components, parent_dir}
use Rattle.std.specs.Option.{option_map}
use Rattle.std.specs.Str.{bytes_eq}
use Rattle.std.specs.declared.alloc.Global.{Global}
use Rattle.std.specs.declared.io.Error.{Error}
use Rattle.std.specs.declared.io.ErrorKind.{ErrorKind}
use Rattle.std.specs.declared.io.ErrorKind.TheVariants.{NotFound, NotADirectory, InvalidFilename}
use Rattle.dia_edge.specs.Counts.{raised}
use Rattle.dia_edge.specs.Shelves.{Holdings}

-- the files as a shelf is given them
abbrev pub RawFiles : Type 0
RawFiles = List (List ℕ × Vec ℕ Global)

-- a file as contracts see it
abbrev pub file_of : List ℕ × Vec ℕ Global → List ℕ × List ℕ
file_of file = (file.0, file.1.items)

abbrev pub files_of : RawFiles → List (List ℕ × List ℕ)
files_of = map file_of

-- of files with the same name the first counts
abbrev pub held_under : List (List ℕ × List ℕ) → Holdings
held_under [] name = None
held_under (file ∷ files) name = if bytes_eq file.0 name then Some file.1 else held_under files name

-- what the file at this place holds; past the last there is nothing
abbrev pub bytes_at : RawFiles → ℕ → List ℕ
bytes_at files place = unwrap_or (option_map (λ file. file.1.items) (slice_get files place)) []

-- some component of the name is `..`
abbrev pub has_parent : List (List ℕ) → Bool
has_parent = list_any (λ component. bytes_eq component parent_dir)

-- the name stands for nothing below a folder: it is empty, has a byte that no name has, begins at the root, or climbs
abbrev pub IsOutside : List ℕ → Type 0
IsOutside name = (name ≡ []) ⊎ (Contains name 0 ⊎ (IsAbsolute name ⊎ (has_parent (path_components name) ≡ true)))

-- an error of this kind says that there is no such file
abbrev pub is_absence_kind : ErrorKind → Bool
is_absence_kind NotFound = true
is_absence_kind NotADirectory = true
is_absence_kind InvalidFilename = true
is_absence_kind _ = false

-- what the opening of a file comes to: it is open; or there is none, for an error that says so; or a fault is counted
abbrev pub Settles : {F E : Type 0} → Result F Error → Option F → Option F → ℕ → ℕ → Result Bool E → Type 0
Settles (Ok file) opened opened_now faults faults_now answer = (opened_now ≡ Some file) × (faults_now ≡ faults) × (answer ≡ Ok true)
Settles (Err error) opened opened_now faults faults_now answer =
    (opened_now ≡ opened) × MatchBool (is_absence_kind (error_kind error)) ((faults_now ≡ faults) × (answer ≡ Ok false)) ((faults_now ≡ raised faults) × IsErr answer)

-- what is left of the file that is open, where it tells; nothing where none is
abbrev pub left_of : {F : Type 0} → (F → Option (List ℕ)) → Option F → Option (List ℕ)
left_of remaining None = Some []
left_of remaining (Some file) = remaining file
