use Rattle.std.proofs.Common.{arith, subst, ap}
use Rattle.std.specs.Prelude.{IsSome}
use Rattle.std.proofs.lemmas.List.Sums.{sum_by_more}
use Rattle.std.proofs.lemmas.List.Elements.{All-more}
use Rattle.sink_files.specs.Ending.{part_rows}
use Rattle.sink_files.proofs.keeping.whole.Goals as goal

pub loop-part-preserved : goal.loop-part-preserved
loop-part-preserved c =
    let i = c.loop-part.invariant in
    let part = c.part-item.result in
    let n = c.loop-part.part-index in
    let below = c.loop-part-test.true in
    let ok = c.in_ok-room.ensures.ok in
    let same = ap part_rows c.part-item.is in
    let more = sum_by_more part_rows c.args.parts.now n part below in
    record {
      room = omega (arith, i.room, ok.1, same, more);
      there = All-more IsSome c.args.parts.now n part below i.there (subst IsSome c.part-item.is ok.0);
    }
