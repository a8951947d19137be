use Rattle.std.proofs.Common.{◌∙◌, arith}
use Rattle.std.proofs.lemmas.Slice.Zip.{AllZip-long}
use Rattle.block_pool.specs.Handles.{Follows}
use Rattle.block_pool.specs.Workers.{new_pool}
use Rattle.scatter.specs.Stocks.{lines_of}
use Rattle.stock_tests.proofs.WorkedFiles.{all_own, still_hands, still_stocked}
use Rattle.stock_tests.proofs.placing.cache_odd.Goals as goal

pub returns-in-Ok-run-clause-own : goal.returns-in-Ok-run-clause-own
returns-in-Ok-run-clause-own g c = all_own (new_pool c.args.pool.now 28 4096) c.args.hands.now.items c.run.new.hands.items c.requires.hands c.run.ensures.follows

pub returns-in-Ok-run-clause-hands : goal.returns-in-Ok-run-clause-hands
returns-in-Ok-run-clause-hands g c =
    still_hands (new_pool c.args.pool.now 28 4096) c.args.hands.now.items c.run.new.hands.items c.requires.hands c.run.ensures.follows c.in-Ok-run.ensures.permits

pub returns-in-Ok-run-clause-len : goal.returns-in-Ok-run-clause-len
returns-in-Ok-run-clause-len g c =
    let same = AllZip-long Follows c.args.hands.now.items c.run.new.hands.items c.run.ensures.follows in
    let n = c.requires.len.0 in
    (omega arith, c.run.ensures.workers ∙ c.requires.len.1)

pub returns-in-Ok-run-clause-stocked : goal.returns-in-Ok-run-clause-stocked
returns-in-Ok-run-clause-stocked g c = λ kept.
    still_stocked c.args.hands.now.items c.run.new.hands.items 3 c.in-Ok.operand.root c.in-Ok.operand.last (lines_of c.args.stock.now) (lines_of c.run.new.stock)
    c.run.ensures.follows c.in-Ok.ensures.root c.in-Ok-run.ensures.lines (c.in-Ok.ensures.last ∙ kept) c.requires.stocked

pub returns-clause-own : goal.returns-clause-own
returns-clause-own g c = all_own (new_pool c.args.pool.now 28 4096) c.args.hands.now.items c.run.new.hands.items c.requires.hands c.run.ensures.follows

pub returns-clause-len : goal.returns-clause-len
returns-clause-len g c =
    let same = AllZip-long Follows c.args.hands.now.items c.run.new.hands.items c.run.ensures.follows in
    let n = c.requires.len.0 in
    (omega arith, c.run.ensures.workers ∙ c.requires.len.1)
