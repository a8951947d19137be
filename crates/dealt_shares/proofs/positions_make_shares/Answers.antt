use Rattle.dealt_shares.proofs.Owning.{shares_come}
use Rattle.dealt_shares.proofs.positions_make_shares.Goals as goal

pub returns : goal.returns
returns c = shares_come
