use Rattle.turn_table.proofs.Keeps.{closes_turn}
use Rattle.turn_table.proofs.turn.Turn.close.Goals as goal

pub reach-requires-clause-allowed : goal.reach-requires-clause-allowed
reach-requires-clause-allowed g c = closes_turn g.S.Shared.plain g.S.Shared.holds
