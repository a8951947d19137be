use Rattle.script_read.specs.Sentences.{words_in}
use Rattle.script_read.proofs.Printables.{first_printable}
use Rattle.script_read.proofs.line.state.Goals as goal

pub name_of-requires : goal.name_of-requires
name_of-requires c = rw c.first_word.ensures (first_printable (words_in c.args.args.now) c.requires.texts)
