use Rattle.dia_file.proofs.Stacking.{stacked_more}
use Rattle.dia_file.proofs.weigh.take_all_apart.Goals as goal

pub loop-file-preserved : goal.loop-file-preserved
loop-file-preserved c = stacked_more c.loop-file.files.items c.pop.new.self.items c.args.files.items c.in-Some.file c.loop-file.shells.items c.push.new.self.items c.in_ok-shell.shell _ _ _ _
    c.loop-file.invariant c.in-Some.ensures.items c.in_ok-shell.ensures c.in_ok-push.ensures.items
