use Rattle.std.proofs.Common.{arith}
use Rattle.std.proofs.lemmas.Slice.Zip.{AllZip-long}
use Rattle.block_pool.specs.Handles.{Follows}
use Rattle.block_pool.specs.Workers.{new_pool}
use Rattle.scatter.specs.Carrying.{AreForHand}
use Rattle.scatter.specs.Nets.{AreOfOnePool}
use Rattle.dia_edge.proofs.Results.{IfOk-map, OnOk-map}
use Rattle.exchange_tests.proofs.Boxed.{three_own, still_three, of_hands}
use Rattle.exchange_tests.proofs.linking.link_numbers.Goals as goal

pub run-requires-clause-fits : goal.run-requires-clause-fits
run-requires-clause-fits g c = λ κs lives.
    let one : AreOfOnePool c.args.hands.now.items = record { pool = new_pool c.args.pool.now 28 4096; all = λ k d below. (c.requires.hands k d below).0 } in one

pub returns-clause-own : goal.returns-clause-own
returns-clause-own g c = three_own (new_pool c.args.pool.now 28 4096) c.args.hands.now.items c.run.new.hands.items c.requires.hands c.run.ensures.follows

pub returns-clause-len : goal.returns-clause-len
returns-clause-len g c =
    let same = AllZip-long Follows c.args.hands.now.items c.run.new.hands.items c.run.ensures.follows in
    let n = c.requires.len.0 in
    omega (arith, same, n, c.args.hands.now.ok, c.run.new.hands.ok)

pub returns-clause-hands : goal.returns-clause-hands
returns-clause-hands g c =
    OnOk-map c.run.result _ _ (λ same. still_three (new_pool c.args.pool.now 28 4096) c.args.hands.now.items c.run.new.hands.items c.requires.hands c.run.ensures.follows same) c.run.ensures.permits

pub returns-clause-boxes : goal.returns-clause-boxes
returns-clause-boxes g c =
    let own = three_own (new_pool c.args.pool.now 28 4096) c.args.hands.now.items c.run.new.hands.items c.requires.hands c.run.ensures.follows in
    IfOk-map c.run.result _ _ (λ boxes fit. of_hands (new_pool c.args.pool.now 28 4096) c.run.new.hands.items boxes.items own fit) c.run.ensures.pools

pub returns-clause-count : goal.returns-clause-count
returns-clause-count g c =
    let same = AllZip-long Follows c.args.hands.now.items c.run.new.hands.items c.run.ensures.follows in
    let n = c.requires.len.0 in
    IfOk-map c.run.result _ _ (λ boxes fit. let long = AllZip-long AreForHand c.run.new.hands.items boxes.items fit in omega (arith, same, n, long, c.args.hands.now.ok, boxes.ok)) c.run.ensures.pools
