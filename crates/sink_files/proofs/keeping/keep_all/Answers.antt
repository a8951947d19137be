use Rattle.std.proofs.Common.{◌<◌, ◌≤◌, inl, inr, sym, subst, arith}
use Rattle.std.specs.List.{sum_by}
use Rattle.row_defs.specs.Limits.{most_rows}
use Rattle.scatter.specs.Phases.{AllThree}
use Rattle.scatter.proofs.Threes.{three_long}
use Rattle.scatter.proofs.Hands.{cleared_follow, follow_trans}
use Rattle.sink_files.specs.Ending.{IsBack, IsPartFrom, rows_taken}
use Rattle.sink_files.specs.Keeping.{KeepRefused}
use Rattle.sink_files.proofs.Lists.{back_follows, parts_in, files_from, parts_few, parts_all}
use Rattle.sink_files.proofs.keeping.keep_all.Goals as goal

pub files_in-requires-clause-room : goal.files_in-requires-clause-room
files_in-requires-clause-room g c =
    let end = c.end_all-ended in
    let long = three_long IsPartFrom c.args.sinks.items end.result.hands.items end.result.parts.items end.ensures.parts in
    let room = c.requires.room.for_files in
    (c.requires.room.no_files, omega (arith, long.1, room))

pub clear_parts-requires-clause-own : goal.clear_parts-requires-clause-own
clear_parts-requires-clause-own g c =
    let end = c.end_all-ended in
    parts_in c.args.sinks.items end.result.hands.items end.result.parts.items end.ensures.parts

pub clear_parts-requires-clause-room : goal.clear_parts-requires-clause-room
clear_parts-requires-clause-room g c =
    let end = c.end_all-ended in
    let long = three_long IsBack c.args.sinks.items c.replace-moved.result.items end.result.hands.items end.ensures.hands in
    let room = c.requires.room.for_cleared in
    (c.requires.room.no_cleared, omega (arith, long.1, room))

pub returns-in-Ok-clause-files : goal.returns-in-Ok-clause-files
returns-in-Ok-clause-files g c =
    let end = c.end_all-ended in
    files_from c.args.sinks.items end.result.hands.items c.files_in.result.items
    (subst (λ parts. AllThree IsPartFrom c.args.sinks.items end.result.hands.items parts) (sym c.files_in.ensures) end.ensures.parts)

pub returns-in-Ok-clause-few : goal.returns-in-Ok-clause-few
returns-in-Ok-clause-few g c =
    let end = c.end_all-ended in
    let there = rw c.as_slice.ensures.value at c.in-Ok.ensures.there in
    let few = rw c.as_slice.ensures.value at c.in-Ok.ensures.few in
    subst (λ n. n ≤ most_rows) (parts_all c.args.sinks.items end.result.hands.items end.result.parts.items end.ensures.parts there) few

pub returns-in-Ok-clause-follows : goal.returns-in-Ok-clause-follows
returns-in-Ok-clause-follows g c =
    let end = c.end_all-ended in
    rw (← c.replace-moved.ensures.value) (back_follows c.args.sinks.items c.replace-moved.result.items end.result.hands.items end.ensures.hands)

pub returns-in-Err-clause-refused : goal.returns-in-Err-clause-refused
returns-in-Err-clause-refused g c =
    let end = c.end_all-ended in
    let few = parts_few c.args.sinks.items end.result.hands.items end.result.parts.items end.ensures.parts in
    let why = rw c.as_slice.ensures.value at c.in-Err.ensures.refused in
    let Why = KeepRefused c.args.sinks.items in
    elim why [
      | inl is ↦ subst Why (sym is) tt
      | inr many ↦ let more : most_rows < sum_by rows_taken c.args.sinks.items = omega (arith, many.1, few) in subst Why (sym many.0) more
    ]

pub returns-in-Err-clause-follows : goal.returns-in-Err-clause-follows
returns-in-Err-clause-follows g c =
    let end = c.end_all-ended in
    let ended = back_follows c.args.sinks.items c.replace-moved.result.items end.result.hands.items end.ensures.hands in
    rw (← c.replace-moved.ensures.value) (follow_trans c.replace-moved.result.items end.result.hands.items c.clear_parts.result.items ended (cleared_follow end.result.parts.items end.result.hands.items c.clear_parts.result.items c.clear_parts.ensures))
