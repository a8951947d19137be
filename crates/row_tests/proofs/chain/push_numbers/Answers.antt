use Rattle.std.proofs.Common.{◌≡◌, ◌∷◌, [], ◌++◌, refl, ap, ◌∙◌}
use Rattle.row_defs.specs.declared.kind.Kind.TheVariants.{Int}
use Rattle.row_defs.specs.Rows.{int, Row, kinds_of}
use Rattle.dia_item.specs.Lent.{row_in_ref}
use Rattle.row_tests.proofs.chain.push_numbers.Goals as goal

pub push-requires-clause-fits : goal.push-requires-clause-fits
push-requires-clause-fits g c =
    let kinds : kinds_of (row_in_ref c.row.result) ≡ Int ∷ [] =
    ap kinds_of (c.row.ensures ∙ c.push_int.ensures ∙ ap (λ (row : Row). row ++ int c.loop-n.n ∷ []) c.clear.ensures) in
    (Int ∷ [], rw kinds c.loop-n.invariant.fits, refl)
