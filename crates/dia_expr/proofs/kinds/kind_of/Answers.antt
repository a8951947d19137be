use Rattle.std.proofs.Common.{rules, ◌≡◌, sym, true, length}
use Rattle.row_defs.specs.Values.{lacks_column}
use Rattle.dia_item.specs.KindList.{kind_list}
use Rattle.dia_expr.specs.Exprs.{expr_in}
use Rattle.dia_expr.proofs.KindLemmas.{no_kind}
use Rattle.dia_expr.proofs.kinds.kind_of.Goals as goal

pub returns-then-lacks_column-clause-kind : goal.returns-then-lacks_column-clause-kind
returns-then-lacks_column-clause-kind c =
    let lacks : lacks_column (length (kind_list c.args.kinds.now)) (expr_in c.args.expr.now) ≡ true = search rules in
    sym (no_kind (kind_list c.args.kinds.now) (expr_in c.args.expr.now) lacks)
