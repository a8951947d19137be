use Rattle.std.proofs.Common.{rules, arith}
use Rattle.turn_table.proofs.Keeps.{marks}
use Rattle.turn_table.proofs.turn.Turn.reach.Goals as goal

pub compare_exchange-requires : goal.compare_exchange-requires
compare_exchange-requires g c = (search rules, search rules, c.requires.allowed _ _ _ _ marks)

pub swap-requires : goal.swap-requires
swap-requires g c = (search rules, search rules, c.requires.allowed _ _ _ (λ _. 2) (λ _. omega arith))
