use Rattle.std.proofs.Common.{arith}
use Rattle.std.proofs.lemmas.Slice.Zip.{AllZip-long}
use Rattle.block_pool.specs.Handles.{Follows}
use Rattle.block_pool.specs.Workers.{new_pool}
use Rattle.exchange_tests.proofs.Boxed.{all_own}
use Rattle.exchange_tests.proofs.linking.exchange.Goals as goal

pub returns-in-Ok-Some-Some-clause-own : goal.returns-in-Ok-Some-Some-clause-own
returns-in-Ok-Some-Some-clause-own g c = all_own (new_pool c.args.pool.now 28 4096) c.link_numbers.new.hands.items c.receive-answer.new.hands.items c.in-Ok-link_numbers.ensures.hands c.receive-answer.ensures.follows

pub returns-in-Ok-Some-Some-clause-len : goal.returns-in-Ok-Some-Some-clause-len
returns-in-Ok-Some-Some-clause-len g c =
    let same = AllZip-long Follows c.link_numbers.new.hands.items c.receive-answer.new.hands.items c.receive-answer.ensures.follows in
    let n = c.link_numbers.ensures.len in
    omega (arith, same, n, c.link_numbers.new.hands.ok, c.receive-answer.new.hands.ok)

pub returns-clause-own : goal.returns-clause-own
returns-clause-own g c = all_own (new_pool c.args.pool.now 28 4096) c.link_numbers.new.hands.items c.receive-answer.new.hands.items c.in-Ok-link_numbers.ensures.hands c.receive-answer.ensures.follows

pub returns-clause-len : goal.returns-clause-len
returns-clause-len g c =
    let same = AllZip-long Follows c.link_numbers.new.hands.items c.receive-answer.new.hands.items c.receive-answer.ensures.follows in
    let n = c.link_numbers.ensures.len in
    omega (arith, same, n, c.link_numbers.new.hands.ok, c.receive-answer.new.hands.ok)
