use Rattle.std.proofs.Common.{◌≡◌, ◌∷◌, [], ap, ◌∙◌}
use Rattle.row_defs.specs.declared.kind.Kind.TheVariants.{Int, Text}
use Rattle.row_defs.specs.Rows.{kinds_of}
use Rattle.dia_item.specs.Lent.{row_in_ref}
use Rattle.row_tests.proofs.chain.a_sink_that_refuses_has_the_rows_before.Goals as goal

pub keeps_the_first-requires : goal.keeps_the_first-requires
keeps_the_first-requires g c =
    let kinds : kinds_of (row_in_ref c.row-in-loop-most.result) ≡ Text ∷ Int ∷ [] = ap kinds_of c.row-in-loop-most.ensures ∙ c.in_ok-row.ensures in
    (Text ∷ Int ∷ [], rw (kinds, c.in_ok-chain.ensures, c.in_ok-copy_ops.ensures, c.as_slice.ensures.value) c.in_ok-ops.ensures)

pub keeps_the_first-requires-in-loop-most : goal.keeps_the_first-requires-in-loop-most
keeps_the_first-requires-in-loop-most g c =
    let kinds : kinds_of (row_in_ref c.row-in-loop-most-2.result) ≡ Text ∷ Int ∷ [] = ap kinds_of c.row-in-loop-most-2.ensures ∙ c.in_ok-row.ensures in
    (Text ∷ Int ∷ [], (Text ∷ Int ∷ [], rw kinds c.in_ok-both.ensures.first, c.in_ok-both.ensures.second))
