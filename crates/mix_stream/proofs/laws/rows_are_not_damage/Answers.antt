use Rattle.mix_stream.proofs.Rows.{not_damage}
use Rattle.mix_stream.proofs.laws.rows_are_not_damage.Goals as goal

pub returns : goal.returns
returns c = not_damage
