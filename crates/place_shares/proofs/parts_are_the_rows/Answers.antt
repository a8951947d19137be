use Rattle.place_shares.proofs.Joining.{parts_are_rows}
use Rattle.place_shares.proofs.parts_are_the_rows.Goals as goal

pub returns : goal.returns
returns c = parts_are_rows
