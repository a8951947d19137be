use Rattle.place_shares.proofs.Joining.{parts_are_numbered}
use Rattle.place_shares.proofs.parts_are_numbered.Goals as goal

pub returns : goal.returns
returns c = parts_are_numbered
