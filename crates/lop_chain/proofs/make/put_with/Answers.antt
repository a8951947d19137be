use Rattle.std.proofs.Common.{sym, ◌∙◌}
use Rattle.dia_item.specs.Fields.{cell_of}
use Rattle.dia_item.specs.Lent.{row_in_ref}
use Rattle.lop_chain.proofs.SetLemmas.{set_only}
use Rattle.lop_chain.proofs.make.put_with.Goals as goal

pub returns-then-columns-eq1 : goal.returns-then-columns-eq1
returns-then-columns-eq1 c =
    c.row.ensures
    ∙ c.set_field.ensures
    ∙ set_only (row_in_ref c.args.row.now) c.args.column (cell_of c.args.field) (sym c.columns.ensures.len ∙ c.if-columns-eq1.true) c.requires.column
