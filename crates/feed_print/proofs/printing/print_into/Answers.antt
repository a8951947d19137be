use Rattle.feed_print.proofs.Prints.{all_prints}
use Rattle.feed_print.proofs.printing.print_into.Goals as goal

pub returns-clause-prints : goal.returns-clause-prints
returns-clause-prints g c =
    all_prints g.S.Sink _ (λ s. s.out.now) (λ s. s.buffer.now) (λ s t rows p. p) (λ s a row e t b p. p) c.args.feed.now c.push_all.new.feed c.args.printer.now c.push_all.new.sink
    c.args.hand.now c.push_all.new.hand c.push_all.result c.push_all.ensures.sent c.push_all.ensures.unsent
