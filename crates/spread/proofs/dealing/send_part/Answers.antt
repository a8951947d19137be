use Rattle.spread.proofs.BlocksSent.{spelled_of}
use Rattle.spread.proofs.dealing.send_part.Goals as goal

pub returns-then-count-ge-MOST_PACKETS-clause-spelled : goal.returns-then-count-ge-MOST_PACKETS-clause-spelled
returns-then-count-ge-MOST_PACKETS-clause-spelled g c = spelled_of c.args.part c.part.inside c.part.view_is c.part.invariant c.blocks-count.ensures.joined c.blocks-count.ensures.filled

pub returns-in_err-room-clause-spelled : goal.returns-in_err-room-clause-spelled
returns-in_err-room-clause-spelled g c = spelled_of c.args.part c.part.inside c.part.view_is c.part.invariant c.blocks-count.ensures.joined c.blocks-count.ensures.filled

pub returns-clause-spelled : goal.returns-clause-spelled
returns-clause-spelled g c = spelled_of c.args.part c.part.inside c.part.view_is c.part.invariant c.blocks-count.ensures.joined c.blocks-count.ensures.filled
