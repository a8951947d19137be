use Rattle.scatter.proofs.Hands.{follow_refl}
use Rattle.sent_mail.proofs.settling.settle_sent.Goals as goal

pub returns-in_default-clause-follows : goal.returns-in_default-clause-follows
returns-in_default-clause-follows g c = follow_refl c.args.hands.now.items
