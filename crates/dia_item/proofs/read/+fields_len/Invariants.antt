use Rattle.std.proofs.Common.{length}
use Rattle.dia_item.proofs.read.+fields_len.Given as goal

abbrev pub decreases-fields_len : goal.decreases-fields_len
decreases-fields_len l = length l.kinds.now
