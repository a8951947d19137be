use Rattle.scatter.proofs.Hands.{follow_refl, permits_refl}
use Rattle.actions.proofs.checking.check_few.Goals as goal

pub returns-in-Ok-clause-permits : goal.returns-in-Ok-clause-permits
returns-in-Ok-clause-permits g c = permits_refl c.args.hands.now.items

pub returns-in-Ok-clause-follows : goal.returns-in-Ok-clause-follows
returns-in-Ok-clause-follows g c = follow_refl c.args.hands.now.items

pub returns-in-Err-clause-follows : goal.returns-in-Err-clause-follows
returns-in-Err-clause-follows g c = follow_refl c.args.hands.now.items

pub returns-in-AtMost-clause-permits : goal.returns-in-AtMost-clause-permits
returns-in-AtMost-clause-permits g c = permits_refl c.args.hands.now.items

pub returns-in-AtMost-clause-follows : goal.returns-in-AtMost-clause-follows
returns-in-AtMost-clause-follows g c = follow_refl c.args.hands.now.items
