use Rattle.std.proofs.Common.{[], ◌∷◌, refl, sym, subst, arith}
use Rattle.row_defs.specs.declared.kind.Kind.TheVariants.{Int}
use Rattle.row_defs.specs.LocalOps.{AreSoundOps}
use Rattle.block_pool.specs.Workers.{new_pool}
use Rattle.stock_tests.proofs.Rounds.{each_own}
use Rattle.lop_chain.specs.Operands.{root_in}
use Rattle.lop_chain.specs.Ops.{ops_in}
use Rattle.lop_chain.specs.declared.operand.Root.{Root}
use Rattle.scatter.specs.Lines.{root_kinds}
use Rattle.scatter.specs.Stocks.{lines_of}
use Rattle.stock_tests.proofs.adding.put.Goals as goal
use Rattle.scatter.proofs.Hands.{follow_count}

pub size-requires-clause-sound : goal.size-requires-clause-sound
size-requires-clause-sound g c = λ κs lives.
    let P : Root → Type 0 = λ root. AreSoundOps (root_kinds (lines_of c.in-Ok.stock) (root_in root)) (ops_in c.args.operand.now.chain.items) (Int ∷ []) in
    (Int ∷ [], subst P (sym c.requires.root.1) c.requires.sound)

pub returns-in-Size-clause-own : goal.returns-in-Size-clause-own
returns-in-Size-clause-own g c = each_own (new_pool c.args.pool.now 448 4096) c.args.hands.now.items c.size.new.hands.items c.requires.hands c.size.ensures.follows

pub returns-in-Size-clause-len : goal.returns-in-Size-clause-len
returns-in-Size-clause-len g c =
    let same = follow_count c.args.hands.now.items c.size.new.hands.items c.size.ensures.follows in
    let n = c.requires.len in
    omega arith

pub sum-requires-clause-sound : goal.sum-requires-clause-sound
sum-requires-clause-sound g c = λ κs lives.
    let P : Root → Type 0 = λ root. AreSoundOps (root_kinds (lines_of c.in-Ok.stock) (root_in root)) (ops_in c.args.operand.now.chain.items) (Int ∷ []) in
    (Int ∷ [], subst P (sym c.requires.root.1) c.requires.sound, refl)

pub returns-clause-own : goal.returns-clause-own
returns-clause-own g c = each_own (new_pool c.args.pool.now 448 4096) c.args.hands.now.items c.sum.new.hands.items c.requires.hands c.sum.ensures.follows

pub returns-clause-len : goal.returns-clause-len
returns-clause-len g c =
    let same = follow_count c.args.hands.now.items c.sum.new.hands.items c.sum.ensures.follows in
    let n = c.requires.len in
    omega arith
