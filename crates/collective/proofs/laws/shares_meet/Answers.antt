use Rattle.collective.proofs.ShareLaws.{without_gap}
use Rattle.collective.proofs.laws.shares_meet.Goals as goal

pub returns : goal.returns
returns c = without_gap
