use Rattle.place_shares.proofs.Joining.{are_owned}
use Rattle.place_shares.proofs.positions_are_owned.Goals as goal

pub returns : goal.returns
returns c = are_owned
