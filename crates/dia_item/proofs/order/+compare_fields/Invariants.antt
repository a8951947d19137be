use Rattle.std.proofs.Common.{length}
use Rattle.dia_item.proofs.order.+compare_fields.Given as goal

abbrev pub decreases-compare_fields : goal.decreases-compare_fields
decreases-compare_fields l = length l.kinds.now
