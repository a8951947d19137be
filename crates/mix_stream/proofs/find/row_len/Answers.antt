use Rattle.std.proofs.Common.{◌<◌, length, List, subst}
use Rattle.row_defs.specs.declared.kind.Kind.{Kind}
use Rattle.dia_item.specs.KindList.{kind_list}
use Rattle.mix_stream.proofs.Bytes.{row_positive}
use Rattle.mix_stream.proofs.find.row_len.Goals as goal

pub returns-in-Some-clause-len : goal.returns-in-Some-clause-len
returns-in-Some-clause-len c =
    let some : 0 < length (kind_list c.args.kinds.now) = subst (λ (l : List Kind). 0 < length l) c.list-list.ensures.list c.list-list.ensures.some in
    (row_positive (kind_list c.args.kinds.now) c.in-Some.n c.args.bytes.now _ some c.in-Some.ensures.found, c.in-Some.ensures.len)
