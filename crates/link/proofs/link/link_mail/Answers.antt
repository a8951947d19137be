use Rattle.lop_chain.specs.Ops.{ops_in}
use Rattle.lop_chain.specs.Operands.{root_in}
use Rattle.scatter.specs.Stocks.{lines_of}
use Rattle.scatter.proofs.Hands.{follow_refl}
use Rattle.link.proofs.Sent.{joined_sent}
use Rattle.link.proofs.link.link_mail.Goals as goal

pub returns-in-Err-clause-joined : goal.returns-in-Err-clause-joined
returns-in-Err-clause-joined g c = joined_sent (lines_of c.args.stock.now) c.args.stock.now.workers (root_in c.args.operand.now.root) c.args.last (ops_in c.args.operand.now.chain.items) c.joined.ensures

pub returns-in-Err-clause-follows : goal.returns-in-Err-clause-follows
returns-in-Err-clause-follows g c = follow_refl c.args.hands.now.items

pub link_ready-requires-clause-routes : goal.link_ready-requires-clause-routes
link_ready-requires-clause-routes g c = λ κs lives. rw c.of-routes_were.ensures c.requires.routes
