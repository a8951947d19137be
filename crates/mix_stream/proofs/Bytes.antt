-- Rows at the beginning of bytes.
use Rattle.std.proofs.Common.{ℕ, zero, suc, ◌+◌, ◌<◌, ◌≤◌, List, [], ◌++◌, length, take, subst, length-append, lt_of_not-le, arith}
use Rattle.std.proofs.Math.Seq.{take-append-le}
use lib.ListN.{length-take}
use native.Mathlib.Decide.{dec_le}
use mathlib.Core.Logic.{dite}
use Rattle.row_defs.specs.Rows.{Row, IsRow}
use Rattle.row_defs.specs.declared.kind.Kind.{Kind}
use Rattle.dia_item.specs.Sizes.{longest_row}
use Rattle.dia_item.proofs.LawLemmas.{row_short}
use Rattle.dia_file.proofs.WriterLemmas.{row_some}
use Rattle.mix_stream.specs.Reading.{StartsNoRow}

pub row_positive : (kinds : List Kind) (n : ℕ) (bytes : List ℕ) (row : Row) → 0 < length kinds → IsRow kinds (take n bytes) row → 0 < n
row_positive kinds zero bytes row some h = absurd (omega (arith, row_some kinds [] row some h))
row_positive kinds (suc n) bytes row some h = omega arith

-- so many bytes that begin with no row begin with none whatever follows them
pub starts_none :
    (kinds : List Kind) (bytes more : List ℕ) → length kinds ≤ 6 → longest_row ≤ length bytes → longest_row < length bytes + length more
    → StartsNoRow kinds bytes → StartsNoRow kinds (bytes ++ more)
starts_none kinds bytes more few long longer none row n h = dite (dec_le n (length bytes))
    (λ le. none row n (subst (λ (l : List ℕ). IsRow kinds l row) (take-append-le n bytes more le) h))
    (λ no.
    let gt : length bytes < n = lt_of_not-le no in
    let short = row_short kinds (take n (bytes ++ more)) row h in
    let len = length-take n (bytes ++ more) in
    absurd (omega (arith, short, few, len, length-append bytes more)))
