use Rattle.std.proofs.Common.{◌≡◌, rules, ap, ◌∙◌}
use Rattle.row_defs.specs.Rows.{kinds_of}
use Rattle.dia_item.specs.Lent.{row_in_ref}
use Rattle.lop_chain.specs.Ops.{values_of}
use Rattle.lop_chain.specs.Columns.{columns_in}
use Rattle.lop_chain.specs.OpLemmas.{values_kinds}
use Rattle.lop_chain.proofs.columns.put_values.Goals as goal

pub returns-in-Numbers-clause-kinds : goal.returns-in-Numbers-clause-kinds
returns-in-Numbers-clause-kinds c =
    let row = row_in_ref c.args.row.now in
    let exprs = columns_in c.args.columns.now in
    let made : c.put_numbers.new.into ≡ values_of exprs row = search rules in
    ap kinds_of made ∙ values_kinds row exprs c.requires.0

pub returns-in-Any-clause-kinds : goal.returns-in-Any-clause-kinds
returns-in-Any-clause-kinds c =
    let row = row_in_ref c.args.row.now in
    let exprs = columns_in c.args.columns.now in
    let made : c.put_any.new.into ≡ values_of exprs row = search rules in
    ap kinds_of made ∙ values_kinds row exprs c.requires.0
