use Rattle.std.proofs.Common.{rules, Some}
use Rattle.turn_table.proofs.Keeps.{takes_turn, took_one, has_slot}
use Rattle.turn_table.proofs.turn.Turn.take.Goals as goal

pub reach-requires-clause-allowed : goal.reach-requires-clause-allowed
reach-requires-clause-allowed g c = takes_turn g.S.Shared.plain g.S.Shared.holds

pub exchange-home-requires : goal.exchange-home-requires
exchange-home-requires g c = let t = c.reach.ensures.told in let is = took_one g.S.Shared.plain g.S.Shared.holds _ _ _ _ c.requires.idle t.1 in (search rules, (Some t.0, has_slot g.S.Shared.plain g.S.Shared.holds _ _ _ _ is))
