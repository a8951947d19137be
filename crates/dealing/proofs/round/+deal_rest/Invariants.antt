use Rattle.std.proofs.Common.{length}
use Rattle.dealing.proofs.round.+deal_rest.Given as goal

abbrev pub decreases-deal_rest : goal.decreases-deal_rest
decreases-deal_rest g l = length l.rest.operands.now
