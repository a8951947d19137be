use Rattle.std.proofs.Common.{◌≡◌, drop, map, is_none}
use Rattle.std.specs.List.{list_any}
use Rattle.row_defs.specs.Values.{expr_kind}
use Rattle.dia_expr.specs.Exprs.{expr_in}
use Rattle.dia_item.specs.KindList.{kind_list}
use Rattle.script_read.proofs.causes.is_any_without_kind.Given as goal

abbrev pub invariant-loop-expr : goal.invariant-loop-expr
invariant-loop-expr l =
    list_any (λ e. is_none (expr_kind (kind_list l.kinds) e)) (map expr_in (drop l.expr-index l.exprs))
    ≡ list_any (λ e. is_none (expr_kind (kind_list l.kinds) e)) (map expr_in l.exprs)
