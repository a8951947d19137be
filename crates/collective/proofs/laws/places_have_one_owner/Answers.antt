use Rattle.collective.proofs.ShareLaws.{its_owner}
use Rattle.collective.proofs.laws.places_have_one_owner.Goals as goal

pub returns : goal.returns
returns c = its_owner
