use Rattle.std.proofs.Common.{[], ◌∷◌, arith}
use Rattle.row_defs.specs.declared.kind.Kind.TheVariants.{Int}
use Rattle.block_pool.specs.Workers.{new_pool}
use Rattle.stock_tests.proofs.Rounds.{each_own}
use Rattle.stock_tests.proofs.acting.act_with.Goals as goal
use Rattle.scatter.proofs.Hands.{follow_count}

pub act-requires-clause-actable : goal.act-requires-clause-actable
act-requires-clause-actable g c = λ κs lives. (Int ∷ [], c.requires.sound, c.requires.actable)

pub returns-clause-own : goal.returns-clause-own
returns-clause-own g c = each_own (new_pool c.args.pool.now 448 4096) c.args.hands.now.items c.act.new.hands.items c.requires.hands c.act.ensures.follows

pub returns-clause-len : goal.returns-clause-len
returns-clause-len g c =
    let same = follow_count c.args.hands.now.items c.act.new.hands.items c.act.ensures.follows in
    let n = c.requires.len in
    omega arith
