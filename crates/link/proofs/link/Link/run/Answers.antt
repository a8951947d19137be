use Rattle.lop_chain.specs.Ops.{ops_in}
use Rattle.lop_chain.specs.Operands.{root_in}
use Rattle.scatter.specs.Stocks.{lines_of}
use Rattle.scatter.proofs.Hands.{follow_refl}
use Rattle.link.proofs.Sent.{joined_sent}
use Rattle.link.proofs.link.Link.run.Goals as goal

pub returns-in_default-clause-joined : goal.returns-in_default-clause-joined
returns-in_default-clause-joined g c = joined_sent (lines_of c.args.stock.now) c.args.stock.now.workers (root_in c.args.operand.now.root) c.args.self.last (ops_in c.args.operand.now.chain.items) c.joined.ensures

pub returns-in_default-clause-follows : goal.returns-in_default-clause-follows
returns-in_default-clause-follows g c = follow_refl c.args.hands.now.items
