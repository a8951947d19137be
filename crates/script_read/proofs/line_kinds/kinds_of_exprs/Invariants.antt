use Rattle.std.proofs.Common.{◌≡◌, ◌++◌, map, drop}
use Rattle.std.specs.List.{filter_map}
use Rattle.row_defs.specs.Values.{expr_kind}
use Rattle.dia_item.specs.KindList.{kind_list}
use Rattle.dia_expr.specs.Exprs.{expr_in}
use Rattle.script_read.proofs.line_kinds.kinds_of_exprs.Given as goal

abbrev pub invariant-loop-expr : goal.invariant-loop-expr
invariant-loop-expr l =
    l.kinds.items ++ filter_map (expr_kind (kind_list l.of)) (map expr_in (drop l.expr-index l.exprs))
    ≡ filter_map (expr_kind (kind_list l.of)) (map expr_in l.exprs)
