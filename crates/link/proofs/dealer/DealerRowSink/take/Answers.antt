use Rattle.std.proofs.Common.{sym}
use Rattle.row_defs.specs.Rows.{kinds_of}
use Rattle.dia_item.specs.Lent.{row_in_ref}
use Rattle.link.specs.contracts.dealer.DealerRowSink.F-Fn.{words}
use Rattle.link.proofs.Taking.{accepts_by, took_of_kinds, still_accepts, accepted_then}
use Rattle.link.proofs.dealer.DealerRowSink.take.Goals as goal

pub take-requires-clause-kinds : goal.take-requires-clause-kinds
take-requires-clause-kinds g c =
    let fn = words g.row.D g.row.F g.row.P g.F.Fn in
    accepts_by fn.pre fn.post g.P.Post c.args.self.now c.self.inside.scatter (kinds_of (row_in_ref c.args.row)) (sym c.self.view_is) c.requires.kinds

pub returns-clause-took : goal.returns-clause-took
returns-clause-took g c =
    let fn = words g.row.D g.row.F g.row.P g.F.Fn in
    took_of_kinds fn.pre fn.post g.P.Post c.self.inside.scatter c.args.self.now c.take.new.self (row_in_ref c.args.row) c.bytes-bytes.result.now c.take.result c.self.view_is c.requires.kinds c.bytes-bytes.ensures.row
    c.take.ensures.accepts c.take.ensures.took

pub returns-clause-accepts : goal.returns-clause-accepts
returns-clause-accepts g c =
    let fn = words g.row.D g.row.F g.row.P g.F.Fn in
    still_accepts fn.pre fn.post g.P.Post c.self.inside.scatter c.args.self.now c.take.new.self c.take.result c.self.view_is c.take.ensures.accepts

pub returns-clause-accepted : goal.returns-clause-accepted
returns-clause-accepted g c =
    let fn = words g.row.D g.row.F g.row.P g.F.Fn in
    accepted_then fn.pre fn.post g.P.Post c.self.inside.scatter c.args.self.now c.take.new.self c.take.result c.self.view_is c.take.ensures.accepted
