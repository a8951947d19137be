use Rattle.std.proofs.Common.{arith}
use Rattle.std.proofs.lemmas.Slice.Zip.{AllZip-long}
use Rattle.block_pool.specs.Handles.{Follows}
use Rattle.block_pool.specs.Workers.{new_pool}
use Rattle.exchange_tests.proofs.Boxed.{all_own}
use Rattle.exchange_tests.proofs.receiving.keep_all.Goals as goal

pub returns-in_default-2-clause-own : goal.returns-in_default-2-clause-own
returns-in_default-2-clause-own g c = all_own (new_pool c.args.pool.now 28 4096) c.fill.new.hands.items c.receive-answer.new.hands.items c.fill.ensures.hands c.receive-answer.ensures.follows

pub returns-in_default-2-clause-len : goal.returns-in_default-2-clause-len
returns-in_default-2-clause-len g c =
    let same = AllZip-long Follows c.fill.new.hands.items c.receive-answer.new.hands.items c.receive-answer.ensures.follows in
    let n = c.fill.ensures.len in
    omega arith

pub returns-clause-own : goal.returns-clause-own
returns-clause-own g c = all_own (new_pool c.args.pool.now 28 4096) c.fill.new.hands.items c.receive-answer.new.hands.items c.fill.ensures.hands c.receive-answer.ensures.follows

pub returns-clause-len : goal.returns-clause-len
returns-clause-len g c =
    let same = AllZip-long Follows c.fill.new.hands.items c.receive-answer.new.hands.items c.receive-answer.ensures.follows in
    let n = c.fill.ensures.len in
    omega arith
