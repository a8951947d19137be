use Rattle.std.proofs.Common.{◌<◌, List, Option, Some, map, length, sym, subst, arith}
use Rattle.std.specs.Prelude.{All}
use Rattle.std.proofs.lemmas.Slice.Zip.{AllZip-long}
use Rattle.block_pool.specs.Handles.{Follows}
use Rattle.block_pool.specs.Workers.{new_pool}
use Rattle.dia_file.specs.Files.{FileValue}
use Rattle.scatter.specs.Lines.{LineValue}
use Rattle.scatter.specs.Nets.{AreOfOnePool}
use Rattle.scatter.specs.Stocks.{IsPartOf}
use Rattle.sink_files.proofs.Lists.{all_some}
use Rattle.exchange_tests.proofs.Boxed.{three_own, still_three}
use Rattle.exchange_tests.proofs.Spread.{of_first, of_one_pool}
use Rattle.exchange_tests.proofs.spreading.parts_of.Goals as goal

pub spread-requires-clause-file : goal.spread-requires-clause-file
spread-requires-clause-file g c = λ κs within.
    let n = c.requires.len in
    let some : 0 < length c.args.hands.now.items = omega (arith, n, c.args.hands.now.ok) in
    of_first (new_pool c.args.pool.now 28 4096) c.args.hands.now.items c.args.file c.requires.hands some c.requires.file

pub spread-requires-clause-fits : goal.spread-requires-clause-fits
spread-requires-clause-fits g c = λ κs within.
    let one : AreOfOnePool c.args.hands.now.items = record { pool = new_pool c.args.pool.now 28 4096; all = λ k d below. (c.requires.hands k d below).0 } in one

pub take-requires : goal.take-requires
take-requires g c =
    let s = c.in-Ok-spread.ensures.spread in
    record {
      line = record { kinds = c.args.file.kinds; parts = map (λ (part : FileValue). Some part) s.parts };
      there = s.line.here;
      whole = all_some s.parts;
    }

pub returns-in-Ok-spread-clause-own : goal.returns-in-Ok-spread-clause-own
returns-in-Ok-spread-clause-own g c = three_own (new_pool c.args.pool.now 28 4096) c.args.hands.now.items c.spread.new.hands.items c.requires.hands c.spread.ensures.follows

pub returns-in-Ok-spread-clause-len : goal.returns-in-Ok-spread-clause-len
returns-in-Ok-spread-clause-len g c =
    let same = AllZip-long Follows c.args.hands.now.items c.spread.new.hands.items c.spread.ensures.follows in
    let n = c.requires.len in
    omega (arith, same, n, c.args.hands.now.ok, c.spread.new.hands.ok)

pub returns-in-Ok-spread-clause-hands : goal.returns-in-Ok-spread-clause-hands
returns-in-Ok-spread-clause-hands g c =
    still_three (new_pool c.args.pool.now 28 4096) c.args.hands.now.items c.spread.new.hands.items c.requires.hands c.spread.ensures.follows c.in-Ok-spread.ensures.permits

pub returns-in-Ok-spread-clause-parts : goal.returns-in-Ok-spread-clause-parts
returns-in-Ok-spread-clause-parts g c =
    let s = c.in-Ok-spread.ensures.spread in
    let pool = new_pool c.args.pool.now 28 4096 in
    let line : LineValue = record { kinds = c.args.file.kinds; parts = map (λ (part : FileValue). Some part) s.parts } in
    let All-parts : List (Option FileValue) → Type 0 = λ parts. All (IsPartOf pool) parts in
    subst All-parts (sym (c.take.ensures.parts line s.line.here)) (of_one_pool pool c.args.hands.now.items s.parts c.requires.hands s.own)

pub returns-clause-own : goal.returns-clause-own
returns-clause-own g c = three_own (new_pool c.args.pool.now 28 4096) c.args.hands.now.items c.spread.new.hands.items c.requires.hands c.spread.ensures.follows

pub returns-clause-len : goal.returns-clause-len
returns-clause-len g c =
    let same = AllZip-long Follows c.args.hands.now.items c.spread.new.hands.items c.spread.ensures.follows in
    let n = c.requires.len in
    omega (arith, same, n, c.args.hands.now.ok, c.spread.new.hands.ok)
