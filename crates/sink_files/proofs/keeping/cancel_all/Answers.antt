use Rattle.sink_files.proofs.Lists.{back_follows}
use Rattle.sink_files.proofs.keeping.cancel_all.Goals as goal

pub returns : goal.returns
returns g c =
    rw (← c.replace-moved.ensures.value)
    (back_follows c.args.sinks.items c.replace-moved.result.items c.end_all-ended.result.hands.items c.end_all-ended.ensures.hands)
