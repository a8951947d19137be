use Rattle.std.proofs.Common.{◌≡◌, length, ap, ◌∙◌, arith}
use Rattle.std.proofs.lemmas.List.{length-map}
use Rattle.dia_expr.specs.Exprs.{expr_in}
use Rattle.script_read.proofs.Counting.{length-filter_map}
use Rattle.script_read.proofs.line_kinds.row_kinds.Goals as goal

pub returns-clause-some : goal.returns-clause-some
returns-clause-some c =
    let whole : length c.in_ok-kinds.kinds.items ≡ length c.args.exprs.now =
    ap length c.in_ok-kinds.ensures ∙ length-filter_map _ _ c.requires.kinds ∙ length-map c.args.exprs.now expr_in in
    omega arith
