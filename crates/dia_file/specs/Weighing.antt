-- Files that are taken apart to be weighed.
use Rattle.std.specs.Prelude.{◌≡◌, List, [], ◌∷◌, ◌++◌, map}
use Rattle.std.specs.List.{AllByRecursion}
use Rattle.std.specs.VecDeque.{deque_len}
use Rattle.block_pool.specs.Handles.{BlockValue}
use Rattle.dia_file.specs.declared.sealed.Sealed.{Sealed}
use Rattle.dia_file.specs.declared.file.File.TheInside.{Inside}
use Rattle.dia_file.specs.declared.weigh.Mark.{Mark}
use Rattle.dia_file.specs.declared.weigh.Shell.{Shell}
use Rattle.dia_file.specs.Frames.{blocks_of}
use Rattle.dia_file.specs.Files.{FileValue, IsFile, file_value}

abbrev pub mark_of : Sealed → Mark
mark_of s = record { ends = s.ends; len = s.len }

abbrev pub marks_of : List Sealed → List Mark
marks_of items = map mark_of items

abbrev pub shell_of : Inside → Shell
shell_of f = record { kinds = f.kinds; rows = f.rows; bytes = f.bytes; count = deque_len f.sealed }

-- the blocks and marks of a file stand behind those that were there
pub record IsApart (file : FileValue) (shell : Shell) (blocks : List BlockValue) (marks : List Mark) (more_blocks : List BlockValue) (more_marks : List Mark) : Type 0 where
  pub inside : Inside
  pub is_file : IsFile inside
  pub value : file_value inside ≡ file
  pub shell_is : shell ≡ shell_of inside
  pub blocks_are : more_blocks ≡ blocks ++ blocks_of inside.sealed.items
  pub marks_are : more_marks ≡ marks ++ marks_of inside.sealed.items

-- the shells, blocks and marks of files, the last file's first
abbrev pub shells_of : List Inside → List Shell
shells_of [] = []
shells_of (f ∷ rest) = shells_of rest ++ shell_of f ∷ []

abbrev pub stacked_blocks : List Inside → List BlockValue
stacked_blocks [] = []
stacked_blocks (f ∷ rest) = stacked_blocks rest ++ blocks_of f.sealed.items

abbrev pub stacked_marks : List Inside → List Mark
stacked_marks [] = []
stacked_marks (f ∷ rest) = stacked_marks rest ++ marks_of f.sealed.items

-- behind the first files are those that were taken apart
pub record IsStack (first files : List FileValue) (shells : List Shell) (blocks : List BlockValue) (marks : List Mark) : Type 0 where
  pub apart : List Inside
  pub are_files : AllByRecursion IsFile apart
  pub files_are : first ++ map file_value apart ≡ files
  pub shells_are : shells ≡ shells_of apart
  pub blocks_are : blocks ≡ stacked_blocks apart
  pub marks_are : marks ≡ stacked_marks apart
