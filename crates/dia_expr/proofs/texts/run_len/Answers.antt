use Rattle.std.proofs.Common.{rules, ◌≡◌, false, get_or, drop, suc, drop-cons, add-one}
use Rattle.row_defs.specs.Texts.{is_blank}
use Rattle.dia_expr.proofs.WordLemmas.{AreNoBlanks-more}
use Rattle.dia_expr.proofs.texts.run_len.Goals as goal

pub loop-n-preserved : goal.loop-n-preserved
loop-n-preserved c =
    let text = c.args.text.now in
    let blank : is_blank (get_or text c.loop-n.n 0) ≡ false = search rules in
    rw add-one (AreNoBlanks-more c.loop-n.n text (get_or text c.loop-n.n 0) (drop (suc c.loop-n.n) text) (drop-cons text c.loop-n.n 0 c.loop-n-test.true) c.loop-n.invariant blank)
