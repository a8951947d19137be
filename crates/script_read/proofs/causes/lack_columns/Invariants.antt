use Rattle.std.proofs.Common.{◌≡◌, drop, map}
use Rattle.script_defs.specs.Reading.{lack_columns}
use Rattle.dia_expr.specs.Exprs.{expr_in}
use Rattle.dia_item.specs.KindList.{kind_list}
use Rattle.script_read.proofs.causes.lack_columns.Given as goal

abbrev pub invariant-loop-expr : goal.invariant-loop-expr
invariant-loop-expr l =
    lack_columns (kind_list l.kinds) (map expr_in (drop l.expr-index l.exprs)) ≡ lack_columns (kind_list l.kinds) (map expr_in l.exprs)
