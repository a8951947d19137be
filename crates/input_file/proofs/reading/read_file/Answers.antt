use Rattle.input_file.proofs.Writings.{disk_fault}
use Rattle.input_file.proofs.reading.read_file.Goals as goal

pub returns-in-Err-clause-disk : goal.returns-in-Err-clause-disk
returns-in-Err-clause-disk g c =
    rw c.from.ensures (disk_fault _ (λ s t a b line e h. h) c.read_input-read.new.taker c.in-Err.refusal c.args.hand.now c.read_input-read.new.desk c.cancel.new.hand c.in-Err.ensures.own c.cancel.ensures.follows)
