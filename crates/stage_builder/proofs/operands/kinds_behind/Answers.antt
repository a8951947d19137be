use Rattle.std.proofs.Common.{◌≡◌, ◌<◌, ◌≤◌, List, length, map, sym, subst}
use Rattle.std.specs.List.{filter_map}
use Rattle.row_defs.specs.declared.kind.Kind.{Kind}
use Rattle.row_defs.specs.Values.{expr_kind}
use Rattle.row_defs.specs.LocalOps.{IsSoundOp}
use Rattle.dia_expr.specs.Exprs.{expr_in}
use Rattle.dia_item.specs.KindList.{kind_list}
use Rattle.lop_chain.specs.Ops.{op_in}
use Rattle.lop_chain.specs.declared.script_op.ScriptOp.{ScriptOp}
use Rattle.stage_builder.proofs.OperandLemmas.{map_kinds}
use Rattle.stage_builder.proofs.operands.kinds_behind.Goals as goal

count : (c : goal.After-as_slice-in-Map) → (0 < length c.as_slice-in-Map.result.now) × (length c.as_slice-in-Map.result.now ≤ 6)
count c =
    let kinds = kind_list c.args.of.now in
    let Sound : ScriptOp → Type 0 = λ op. IsSoundOp kinds (op_in op) in
    let items = c.in_ok-kinds-in-Map.ensures in
    let list : c.as_slice-in-Map.result.now ≡ filter_map (expr_kind kinds) (map expr_in c.in-Map.exprs.items) = cc (items, c.as_slice-in-Map.ensures.value, c.as_slice.ensures.value) in
    let Fit : List Kind → Type 0 = λ ks. (0 < length ks) × (length ks ≤ 6) in
    subst Fit (sym list) (map_kinds kinds (map expr_in c.in-Map.exprs.items) (subst Sound c.in-Map.is c.requires))

pub of-requires-clause-some : goal.of-requires-clause-some
of-requires-clause-some c = (count c).0

pub of-requires-clause-most : goal.of-requires-clause-most
of-requires-clause-most c = (count c).1
