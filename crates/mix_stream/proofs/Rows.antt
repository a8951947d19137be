-- Rows that are left of each sender.
use Rattle.std.proofs.Common.{◌≡◌, ℕ, ◌<◌, List, [], ◌∷◌, ◌++◌, length, take, refl, sym, ap, ◌∙◌, subst, arith}
use Rattle.std.proofs.lemmas.List.{take_at, append_cancel_left}
use Rattle.row_defs.specs.Rows.{Row, IsRow}
use Rattle.dia_item.proofs.LawLemmas.{no_prefixes}
use Rattle.dia_file.specs.Encoding.{spelled, encoded, AreOf}
use Rattle.mix_stream.specs.Reading.{Reading, StartsNoRow, bytes_of}
use Rattle.mix_stream.specs.Laws.{AreNotDamage, ComeInOrder}

pub come_in_order : ComeInOrder
come_in_order pool k row first rows a b told next are bytes =
    let left : spelled row ++ bytes_of k b ≡ spelled first ++ encoded rows = next.read.told told ∙ bytes in
    let same = no_prefixes a.kinds (spelled row) (bytes_of k b) (spelled first) (encoded rows) row first next.is_row are.0 left in
    (same.1, append_cancel_left (spelled first) (bytes_of k b) (encoded rows) (ap (λ (l : List ℕ). l ++ bytes_of k b) (sym same.0) ∙ left))

by_rows : (r : Reading) (k : ℕ) (rows : List Row) → AreOf r.kinds rows → bytes_of k r ≡ encoded rows → 0 < length (bytes_of k r) → StartsNoRow r.kinds (bytes_of k r) → ⊥
by_rows r k [] are bytes some starts = absurd (omega (arith, ap length bytes, some))
by_rows r k (first ∷ rows) are bytes some starts =
    let front : take (length (spelled first)) (bytes_of k r) ≡ spelled first = ap (take (length (spelled first))) bytes ∙ take_at (spelled first) (encoded rows) (length (spelled first)) refl in
    starts first (length (spelled first)) (subst (λ (l : List ℕ). IsRow r.kinds l first) (sym front) are.0)

pub not_damage : AreNotDamage
not_damage r are damaged = let rows = are damaged.0 in by_rows r damaged.0 rows.0 rows.1 rows.2 damaged.1 damaged.2
