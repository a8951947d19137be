use Rattle.scatter.proofs.Hands.{follow_refl, permits_refl}
use Rattle.scatter.proofs.clearing.leave_unread.Goals as goal

pub returns-in_default-clause-permits : goal.returns-in_default-clause-permits
returns-in_default-clause-permits g c = permits_refl c.args.hands.now.items

pub returns-in_default-clause-follows : goal.returns-in_default-clause-follows
returns-in_default-clause-follows g c = follow_refl c.args.hands.now.items

pub returns-in_default-2-clause-permits : goal.returns-in_default-2-clause-permits
returns-in_default-2-clause-permits g c = permits_refl c.args.hands.now.items

pub returns-in_default-2-clause-follows : goal.returns-in_default-2-clause-follows
returns-in_default-2-clause-follows g c = follow_refl c.args.hands.now.items
