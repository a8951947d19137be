use Rattle.std.proofs.Common.{◌-◌}
use Rattle.pool_tests.proofs.turn.counter.Counter.part.Given as goal

abbrev pub ghosts-cut_off : goal.ghosts-cut_off
ghosts-cut_off a = record { kept = λ share. share - a.amount; given = λ _. a.amount }
