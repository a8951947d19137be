-- A file's rows and bytes.
use Rattle.std.proofs.Common.{◌≡◌, ℕ, zero, suc, List, [], ◌∷◌, ◌++◌, refl, sym, ap, subst, ◌∙◌, append_assoc, append-nil, arith}
use Rattle.row_defs.specs.declared.kind.Kind.{Kind}
use Rattle.std.specs.List.{AllByRecursion}
use Rattle.row_defs.specs.Rows.{Row, Fits, IsRow}
use Rattle.block_pool.specs.Handles.{PoolName}
use Rattle.dia_file.specs.declared.sealed.Sealed.{Sealed}
use Rattle.dia_file.specs.Encoding.{spelled, encoded, AreOf, AllFit}
use Rattle.dia_file.specs.Pieces.{over, IsPiece, AreIn}
use Rattle.dia_file.specs.Frames.{pieces, blocks_of, AllSealedIn}
use Rattle.dia_file.specs.Files.{joined_blocks, AreFilled, rows_stored, IsStored}
use Rattle.dia_file.proofs.RowBytes.{encoded-append}
use Rattle.dia_file.proofs.PieceLemmas.{in_rows}
use Rattle.dia_item.proofs.LawLemmas.{field_fits}

pub stored_rows : (kinds : List Kind) (items : List Sealed) (n b : ℕ) (i : IsStored kinds items n b) → rows_stored kinds items ≡ i.rows_are
unfolding rows_stored
stored_rows kinds items n b i = in_rows kinds [] (pieces items) i.rows_are [] i.parts

one_piece : (kinds : List Kind) (begun bytes : List ℕ) (n : ℕ) (front : List Row) → IsPiece kinds begun (record { bytes = bytes; ends = n }) front → begun ++ bytes ≡ encoded front ++ over n (begun ++ bytes)
one_piece kinds begun bytes zero [] h = refl
one_piece kinds begun bytes zero (r ∷ rows) h = absurd (omega (arith, h.len))
one_piece kinds begun bytes (suc n) front h = h.bytes (omega arith) ∙ sym (append-nil (encoded front))

pub in_bytes : (kinds : List Kind) (begun : List ℕ) (items : List Sealed) (rows : List Row) (rest : List ℕ) → AreIn kinds begun (pieces items) rows rest → begun ++ joined_blocks (blocks_of items) ≡ encoded rows ++ rest
in_bytes kinds begun [] rows rest h = append-nil begun ∙ sym h.1 ∙ ap (λ (rs : List Row). encoded rs ++ rest) (sym h.0)
in_bytes kinds begun (x ∷ items) rows rest h =
    let more : List ℕ = joined_blocks (blocks_of items) in
    let bytes : List ℕ = x.block.bytes in
    let again : List ℕ = over x.ends (begun ++ bytes) in
    sym (append_assoc begun bytes more)
    ∙ ap (λ (xs : List ℕ). xs ++ more) (one_piece kinds begun bytes x.ends h.0 h.2)
    ∙ append_assoc (encoded h.0) again more
    ∙ ap (λ (xs : List ℕ). encoded h.0 ++ xs) (in_bytes kinds again items h.1 rest h.3)
    ∙ sym (append_assoc (encoded h.0) (encoded h.1) rest)
    ∙ ap (λ (xs : List ℕ). xs ++ rest) (sym (encoded-append h.0 h.1))
    ∙ ap (λ (rs : List Row). encoded rs ++ rest) (sym h.4)

pub stored_bytes : (kinds : List Kind) (items : List Sealed) (n b : ℕ) → IsStored kinds items n b → joined_blocks (blocks_of items) ≡ encoded (rows_stored kinds items)
stored_bytes kinds items n b i = in_bytes kinds [] items i.rows_are [] i.parts ∙ append-nil (encoded i.rows_are) ∙ ap (λ (rs : List Row). encoded rs) (sym (stored_rows kinds items n b i))

pub sealed_filled : (pool : PoolName) (items : List Sealed) → AllSealedIn pool items → AreFilled (blocks_of items)
sealed_filled pool [] h = tt
sealed_filled pool (x ∷ items) h = (h.0.some, sealed_filled pool items h.1)

row_fits : (kinds : List Kind) (bytes : List ℕ) (row : Row) → IsRow kinds bytes row → AllByRecursion Fits row
row_fits [] bytes row h = rw h.1 tt
row_fits (kind ∷ kinds) bytes row h = rw h.6 (field_fits kind h.2 h.0 h.4, row_fits kinds h.3 h.1 h.5)

rows_fit : (kinds : List Kind) (rows : List Row) → AreOf kinds rows → AllFit rows
rows_fit kinds [] h = tt
rows_fit kinds (row ∷ rows) h = (row_fits kinds (spelled row) row h.0, rows_fit kinds rows h.1)

pub stored_fit : (kinds : List Kind) (items : List Sealed) (n b : ℕ) → IsStored kinds items n b → AllFit (rows_stored kinds items)
stored_fit kinds items n b i = let Fit : List Row → Type 0 = λ rows. AllFit rows in subst Fit (sym (stored_rows kinds items n b i)) (rows_fit kinds i.rows_are i.are)
