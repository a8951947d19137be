use Rattle.std.proofs.Common.{[], ◌∷◌, sym, subst, arith}
use Rattle.row_defs.specs.declared.kind.Kind.TheVariants.{Int}
use Rattle.row_defs.specs.LocalOps.{AreSoundOps}
use Rattle.block_pool.specs.Workers.{new_pool}
use Rattle.stock_tests.proofs.Rounds.{each_own}
use Rattle.lop_chain.specs.Operands.{root_in}
use Rattle.lop_chain.specs.Ops.{ops_in}
use Rattle.lop_chain.specs.declared.operand.Root.{Root}
use Rattle.scatter.specs.Lines.{root_kinds}
use Rattle.scatter.specs.Stocks.{lines_of}
use Rattle.stock_tests.proofs.counting.count.Goals as goal
use Rattle.scatter.proofs.Hands.{follow_count}

pub rows_by_rank-requires-clause-sound : goal.rows_by_rank-requires-clause-sound
rows_by_rank-requires-clause-sound g c = λ κs lives.
    let P : Root → Type 0 = λ root. AreSoundOps (root_kinds (lines_of c.in-Ok.stock) (root_in root)) (ops_in c.args.operand.now.chain.items) (Int ∷ []) in
    (Int ∷ [], subst P (sym c.requires.root.1) c.requires.sound)

pub returns-clause-own : goal.returns-clause-own
returns-clause-own g c = each_own (new_pool c.args.pool.now 448 4096) c.args.hands.now.items c.rows_by_rank.new.hands.items c.requires.hands c.rows_by_rank.ensures.follows

pub returns-clause-len : goal.returns-clause-len
returns-clause-len g c =
    let same = follow_count c.args.hands.now.items c.rows_by_rank.new.hands.items c.rows_by_rank.ensures.follows in
    let n = c.requires.len in
    omega arith
