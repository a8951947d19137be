use Rattle.mix_stream.proofs.Rising.{by_rank}
use Rattle.mix_stream.proofs.laws.rows_come_by_rank.Goals as goal

pub returns : goal.returns
returns c = by_rank
