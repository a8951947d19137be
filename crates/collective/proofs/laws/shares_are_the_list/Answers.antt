use Rattle.collective.proofs.ShareLaws.{shares_joined}
use Rattle.collective.proofs.laws.shares_are_the_list.Goals as goal

pub returns : goal.returns
returns g c = shares_joined
