use Rattle.script_read.proofs.line.line_read.Goals as goal

pub kinds_of_form-requires : goal.kinds_of_form-requires
kinds_of_form-requires c = rw c.in-Line.is at c.requires.tells
