use Rattle.scatter.proofs.Hands.{follow_refl}
use Rattle.spread.proofs.Carried.{all_first}
use Rattle.spread.proofs.carrying.deal_out.Goals as goal

pub returns-in_default-clause-follows : goal.returns-in_default-clause-follows
returns-in_default-clause-follows g c = follow_refl c.args.hands.now.items

pub returns-clause-follows : goal.returns-clause-follows
returns-clause-follows g c = follow_refl c.args.hands.now.items

pub carry_parts-requires-clause-own : goal.carry_parts-requires-clause-own
carry_parts-requires-clause-own g c = all_first c.args.hands.now.items c.args.file c.in-Ok-split_blocks.parts.items c.requires.own (c.in-Ok-split_blocks.ensures.own c.requires.own.hand.pool c.requires.own.own)
