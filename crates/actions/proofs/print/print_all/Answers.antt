use Rattle.std.proofs.Common.{List, ℕ, sym, subst}
use Rattle.lop_chain.specs.Operands.{root_in}
use Rattle.lop_chain.specs.Ops.{ops_in}
use Rattle.scatter.specs.Stocks.{lines_of}
use Rattle.scatter.specs.Told.{AreTold, arriving}
use Rattle.feed_actions.specs.declared.action.ActErr.{ActErr}
use Rattle.feed_print.specs.Printing.{texts_of_rows}
use Rattle.actions.specs.Printing.{PrintedAll, NotAllPrinted}
use Rattle.actions.specs.Acting.{ActStopped}
use Rattle.actions.proofs.Stops.{flushed_stops, print_stops}
use Rattle.actions.proofs.print.print_all.Goals as goal

pub returns-in-Ok-clause-refused : goal.returns-in-Ok-clause-refused
returns-in-Ok-clause-refused g c =
    let root = root_in c.args.operand.now.root in
    let ops = ops_in c.args.operand.now.chain.items in
    let lines = lines_of c.args.stock.now in
    let hands = c.args.hands.now.items in
    let P : List ℕ → Type 0 = λ waits. PrintedAll g.S.Sink (AreTold root hands) (arriving lines root ops) c.args.out.now c.print_root.new.out waits c.print_root.new.buffer in
    let p : P c.args.buffer.now = c.in-Ok.ensures.prints in
    flushed_stops g.S.Sink lines root ops hands c.print_root.new.hands.items c.args.out.now c.requires.few c.print_root.new.out c.flush.new.out c.print_root.new.buffer c.flush.new.buffer
    c.flush.result (subst P c.requires.empty p) c.flush.ensures.puts c.flush.ensures.count

pub returns-in-Err-clause-refused : goal.returns-in-Err-clause-refused
returns-in-Err-clause-refused g c =
    let root = root_in c.args.operand.now.root in
    let ops = ops_in c.args.operand.now.chain.items in
    let lines = lines_of c.args.stock.now in
    let hands = c.args.hands.now.items in
    let later = c.print_root.new.hands.items in
    let e = c.in-Err.refusal in
    let P : List ℕ → Type 0 = λ waits. NotAllPrinted g.S.Sink (AreTold root hands) (arriving lines root ops) hands c.args.out.now waits e later c.print_root.new.out c.print_root.new.buffer in
    let p : P c.args.buffer.now = c.in-Err.ensures.prints in
    let Q : ActErr → Type 0 = λ x. ActStopped g.S.Sink lines root ops texts_of_rows hands later c.args.out.now c.print_root.new.out x in
    subst Q (sym c.refusal_to_print.ensures) (print_stops g.S.Sink lines root ops hands later c.args.out.now c.requires.few c.print_root.new.out c.print_root.new.buffer e (subst P c.requires.empty p))
