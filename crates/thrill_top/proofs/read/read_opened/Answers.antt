use Rattle.std.proofs.Common.{rules, ap, ◌∙◌, take}
use Rattle.thrill_top.specs.declared.read.TheConstants.{ASKED}
use Rattle.thrill_top.proofs.ReadLemmas.{asked_bytes, whole_prefix}
use Rattle.thrill_top.proofs.read.read_opened.Goals as goal

pub returns-in-Ok-clause-bytes : goal.returns-in-Ok-clause-bytes
returns-in-Ok-clause-bytes g c =
    asked_bytes (g.N.Shelf.left c.args.shelf.now) c.fill_buffer.new.buffer c.truncate.new.self.items c.in-Ok.total ASKED c.in-Ok.ensures.bytes
    (c.truncate.ensures.items ∙ ap (take c.in-Ok.total) (whole_prefix c.fill_buffer.new.buffer _ c.in_ok-bytes.bytes.len (search rules))) (search rules)
