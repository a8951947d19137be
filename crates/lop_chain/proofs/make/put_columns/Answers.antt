use Rattle.std.proofs.Common.{rules, sym, ◌∙◌, ap, ◌++◌, ◌∷◌, [], take, slice_set}
use Rattle.std.proofs.lemmas.Option.{slice_get-get_or}
use Rattle.row_defs.specs.Rows.{Row, int}
use Rattle.dia_item.specs.Fields.{cell_of}
use Rattle.dia_item.specs.Lent.{row_in_ref}
use Rattle.dia_item.specs.declared.field.Field.{Field}
use Rattle.lop_chain.proofs.SetLemmas.{set_here, set_elsewhere}
use Rattle.lop_chain.proofs.make.put_columns.Goals as goal
use Rattle.lop_chain.proofs.make.put_columns.Goals.{then-i-column, else-i-column}

pub loop-i-preserved : goal.loop-i-preserved
loop-i-preserved c =
    let done = take c.loop-i.i (slice_set (row_in_ref c.args.row.now) c.args.column (cell_of c.args.field)) in
    let pushed = c.push_field.ensures ∙ ap (λ (xs : Row). xs ++ cell_of c.if-i-column.next ∷ []) c.loop-i.invariant in
    elim c.if-i-column.branch [
      | then-i-column w ↦
          pushed ∙ ap (λ (f : Field). done ++ cell_of f ∷ []) w.next-is
          ∙ sym (set_here (row_in_ref c.args.row.now) c.args.column c.loop-i.i _ (cell_of c.args.field) (slice_get-get_or (row_in_ref c.args.row.now) c.loop-i.i (int 0) (search rules)) w.if-i-column.true)
      | else-i-column w ↦
          pushed ∙ ap (λ (f : Field). done ++ cell_of f ∷ []) w.next-is
          ∙ sym (set_elsewhere (row_in_ref c.args.row.now) c.args.column c.loop-i.i _ (cell_of c.args.field) w.field-next.ensures.value w.if-i-column.false)
    ]
