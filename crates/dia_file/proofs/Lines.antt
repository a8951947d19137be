-- The row of a line, in bytes.
use Rattle.std.proofs.Common.{◌≡◌, ℕ, ◌+◌, ◌≤◌, List, [], ◌∷◌, ◌++◌, length, refl, sym, ap, subst, ◌∙◌, append-nil, length-append, arith}
use Rattle.row_defs.specs.declared.kind.Kind.{Kind}
use Rattle.row_defs.specs.declared.kind.Kind.TheVariants.{Text}
use Rattle.row_defs.specs.Limits.{longest_text}
use Rattle.row_defs.specs.Rows.{text, IsRow, bytes_of_u32}
use Rattle.row_defs.specs.Pieces.{line_row}

-- the length of a line in two parts, and the parts, are a row of one text
pub line_is_row :
    (kinds : List Kind) (head prefix rest : List ℕ) (n : ℕ) → kinds ≡ Text ∷ [] → length prefix + length rest ≤ longest_text → n ≡ length prefix + length rest → head ≡ bytes_of_u32 n
    → IsRow kinds (head ++ (prefix ++ rest)) (line_row (prefix ++ rest))
line_is_row kinds head prefix rest n is short count spelled =
    let line = prefix ++ rest in
    let len : length line ≡ n = length-append prefix rest ∙ sym count in
    let Of : List Kind → Type 0 = λ ks. IsRow ks (head ++ line) (line_row line) in
    subst Of (sym is) (
      text line,
      [],
      head ++ line,
      [],
      (omega (arith, len, count, short), ap (λ (xs : List ℕ). xs ++ line) (spelled ∙ ap bytes_of_u32 (sym len))),
      (refl, refl),
      refl,
      sym (append-nil (head ++ line)),
    )
