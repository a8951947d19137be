use Rattle.row_defs.specs.LocalOps.{rows_through}
use Rattle.dia_item.specs.Lent.{row_in_ref}
use Rattle.lop_chain.specs.Chains.{chain_ops}
use Rattle.lop_chain.specs.Through.{TookSome-from}
use Rattle.dia_edge.proofs.Results.{IfErr-map}
use Rattle.scatter.proofs.steps.push_from.Goals as goal

pub returns-clause-err : goal.returns-clause-err
returns-clause-err g c =
    IfErr-map c.push_row.result _ _
    (λ e some. TookSome-from g.S.RowSink g.met.S.RowSink.refused_from c.args.sink.now c.push_row.new.sink c.args.began.value c.args.desk.now c.push_row.new.desk (rows_through (chain_ops c.args.chain.now) (row_in_ref c.args.row)) e c.requires.onto some)
    c.push_row.ensures.err
