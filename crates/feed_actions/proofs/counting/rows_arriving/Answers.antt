use Rattle.scatter.proofs.Hands.{follow_refl}
use Rattle.feed_actions.proofs.counting.rows_arriving.Goals as goal

pub returns-in-Err-clause-follows : goal.returns-in-Err-clause-follows
returns-in-Err-clause-follows g c = follow_refl c.args.hands.now.items
