use Rattle.std.proofs.Common.{rules, ◌≡◌, length}
use Rattle.scatter.proofs.Mailing.{for_each_hand, carried_same}
use Rattle.scatter.proofs.Hands.{follow_refl, permits_refl}
use Rattle.scatter.proofs.net.HomeNet.carry.Goals as goal

pub returns-clause-pools : goal.returns-clause-pools
returns-clause-pools g c =
    let long : length c.args.boxes.items ≡ length c.args._hands.now.items = search rules in
    for_each_hand c.args._hands.now.items c.args.boxes.items c.requires.fits long c.requires.own

pub returns-clause-carried : goal.returns-clause-carried
returns-clause-carried g c = λ told. carried_same c.args._hands.now.items c.args.boxes.items

pub returns-clause-follows : goal.returns-clause-follows
returns-clause-follows g c = follow_refl c.args._hands.now.items

pub returns-clause-permits : goal.returns-clause-permits
returns-clause-permits g c = permits_refl c.args._hands.now.items
