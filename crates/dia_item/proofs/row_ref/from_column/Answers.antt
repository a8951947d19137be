use Rattle.std.proofs.Common.{◌≡◌, take, get_or, refl, arith, length-take-le}
use Rattle.row_defs.specs.declared.kind.Kind.TheVariants.{Int}
use Rattle.dia_item.proofs.Walking.{has_next, from_next, kind_taken}
use Rattle.dia_item.proofs.row_ref.from_column.Goals as goal

pub loop-kind-init : goal.loop-kind-init
loop-kind-init c = record { has = c.requires.is; row = refl }

pub split_field-requires : goal.split_field-requires
split_field-requires c =
    let i = c.args.i in let k = c.loop-kind.kind-index in
    let all = length-take-le i c.args.kinds.now c.requires.within in
    rw (kind_taken c.args.kinds.now i k (omega arith)) (has_next c.args.kinds.now c.args.bytes.now k c.loop-kind.rest.now (omega arith) c.loop-kind.invariant)

pub loop-kind-preserved : goal.loop-kind-preserved
loop-kind-preserved c =
    let i = c.args.i in let k = c.loop-kind.kind-index in
    let all = length-take-le i c.args.kinds.now c.requires.within in
    let kind : get_or (take i c.args.kinds.now) k Int ≡ get_or c.args.kinds.now k Int = kind_taken c.args.kinds.now i k (omega arith) in
    rw (c.split_field.ensures.rest, kind) (from_next c.args.kinds.now c.args.bytes.now k c.loop-kind.rest.now (omega arith) c.loop-kind.invariant)
