use Rattle.std.proofs.Common.{rules, ◌≡◌, length, arith}
use Rattle.std.proofs.lemmas.Slice.Zip.{AllZip-long}
use Rattle.block_pool.specs.Handles.{HandValue, Follows}
use Rattle.block_pool.specs.Workers.{new_pool}
use Rattle.stock_tests.specs.Rounds.{IsAble}
use Rattle.hand_phase.proofs.Zips.{zip_each}
use Rattle.stock_tests.proofs.Rounds.{each_able, each_own}
use Rattle.stock_tests.proofs.hands.run_three.Goals as goal

pub run_hands-answer-requires-clause-ready : goal.run_hands-answer-requires-clause-ready
run_hands-answer-requires-clause-ready g c =
    let long : length c.args.works.items ≡ length c.args.hands.items = search rules in
    let able = each_able (new_pool c.args.pool.now 45 4096) (omega arith) c.args.hands.items c.requires.hands in
    λ κs lives. zip_each IsAble c.args.works.items c.args.hands.items long able

pub returns-clause-own : goal.returns-clause-own
returns-clause-own g c =
    each_own (new_pool c.args.pool.now 45 4096) c.args.hands.items c.run_hands-answer.new.hands.items c.requires.hands c.run_hands-answer.ensures.follows

pub returns-clause-count : goal.returns-clause-count
returns-clause-count g c =
    let long = AllZip-long (λ (a b : HandValue). Follows a b) c.args.hands.items c.run_hands-answer.new.hands.items c.run_hands-answer.ensures.follows in
    search rules
