-- What a look-up finds, and what a read leaves.
use Rattle.std.proofs.Common.{◌≡◌, ℕ, ◌+◌, ◌<◌, List, Some, true, get_or, length, take, drop, drop-cons, sym, ◌∙◌, ap, refl, Vec, ◌++◌}
use Rattle.std.proofs.lemmas.List.{drop-drop, take-append-drop}
use Rattle.std.proofs.lemmas.Option.{slice_get-get_or}
use Rattle.std.specs.declared.alloc.Global.{Global}
use Rattle.std.specs.Str.{bytes_eq}
use Rattle.dia_edge.specs.Files.{RawFiles, files_of, held_under, bytes_at}
use Rattle.dia_edge.specs.Shelves.{GivesPrefix}

-- the first of the files that are left has the name
pub found_at : (files : RawFiles) (place : ℕ) (name : List ℕ) (file : List ℕ × Vec ℕ Global) → place < length files → file ≡ get_or files place file → bytes_eq file.0 name ≡ true → held_under (files_of (drop place files)) name ≡ Some (bytes_at files place)
found_at files place name file within is same =
    rw (drop-cons files place file within, slice_get-get_or files place file within, ← is, same) refl

-- of what was left, a prefix was given, and the others are left
pub gives_prefix : (bytes left piece : List ℕ) (from count : ℕ) → left ≡ drop from bytes → piece ≡ take count left → GivesPrefix (Some left) piece (Some (drop (from + count) bytes))
gives_prefix bytes left piece from count is prefix = (
  drop count left,
  sym (take-append-drop count left) ∙ ap (λ p. p ++ drop count left) (sym prefix),
  ap Some (sym (drop-drop count from bytes) ∙ ap (drop count) (sym is)),
)
