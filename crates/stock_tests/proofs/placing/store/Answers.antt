use Rattle.std.proofs.Common.{◌≡◌, ℕ, ◌∙◌, length, subst, arith}
use Rattle.std.proofs.lemmas.Slice.Zip.{AllZip-long}
use Rattle.dia_item.specs.KindList.{kind_list}
use Rattle.block_pool.specs.Handles.{Follows}
use Rattle.block_pool.specs.Workers.{new_pool}
use Rattle.lop_chain.specs.declared.operand.Root.{Root}
use Rattle.lop_chain.specs.Operands.{root_in}
use Rattle.scatter.specs.Stocks.{lines_of}
use Rattle.scatter.specs.Phases.{IsUsed, pools_of}
use Rattle.stock_tests.proofs.WorkedFiles.{all_own, still_hands, none_in, put_stocked}
use Rattle.stock_tests.proofs.placing.store.Goals as goal

pub returns-in-Err-clause-own : goal.returns-in-Err-clause-own
returns-in-Err-clause-own g c = all_own (new_pool c.args.pool.now 28 4096) c.args.hands.now.items c.run.new.hands.items c.requires.hands c.run.ensures.follows

pub returns-in-Err-clause-len : goal.returns-in-Err-clause-len
returns-in-Err-clause-len g c =
    let same = AllZip-long Follows c.args.hands.now.items c.run.new.hands.items c.run.ensures.follows in
    let n = c.requires.len.0 in
    (omega arith, c.run.ensures.workers ∙ c.requires.len.1)

pub returns-in-Ok-put-clause-own : goal.returns-in-Ok-put-clause-own
returns-in-Ok-put-clause-own g c = all_own (new_pool c.args.pool.now 28 4096) c.args.hands.now.items c.run.new.hands.items c.requires.hands c.run.ensures.follows

pub returns-in-Ok-put-clause-hands : goal.returns-in-Ok-put-clause-hands
returns-in-Ok-put-clause-hands g c =
    still_hands (new_pool c.args.pool.now 28 4096) c.args.hands.now.items c.run.new.hands.items c.requires.hands c.run.ensures.follows c.in-Ok.ensures.permits

pub returns-in-Ok-put-clause-len : goal.returns-in-Ok-put-clause-len
returns-in-Ok-put-clause-len g c =
    let same = AllZip-long Follows c.args.hands.now.items c.run.new.hands.items c.run.ensures.follows in
    let n = c.requires.len.0 in
    (omega arith, c.put.ensures.workers ∙ c.run.ensures.workers ∙ c.requires.len.1)

pub returns-in-Ok-put-clause-stocked : goal.returns-in-Ok-put-clause-stocked
returns-in-Ok-put-clause-stocked g c =
    let before = lines_of c.args.stock.now in
    let then = lines_of c.run.new.stock in
    let hands = c.args.hands.now.items in
    let files = c.in-Ok.files.items in
    let used : (m : ℕ) → then m ≡ before m = subst (λ (r : Root). IsUsed before (root_in r) c.numbers-operand.result.last then) c.numbers-operand.ensures.root c.in-Ok.ensures.lines in
    let long : length files ≡ 2 = let n = c.in-Ok.ensures.count in let two = c.requires.len.1 in omega arith in
    put_stocked hands c.run.new.hands.items 3 (kind_list c.numbers-operand.result.kinds) files then (lines_of c.put.new.self) c.run.ensures.follows c.numbers-operand.ensures.kinds long c.in-Ok.ensures.kinds
    c.in-Ok-put.ensures.lines (c.in-Ok-put.ensures.pools (pools_of hands) (none_in (pools_of hands) before then c.requires.none used) c.in-Ok.ensures.own)

pub returns-clause-own : goal.returns-clause-own
returns-clause-own g c = all_own (new_pool c.args.pool.now 28 4096) c.args.hands.now.items c.run.new.hands.items c.requires.hands c.run.ensures.follows

pub returns-clause-len : goal.returns-clause-len
returns-clause-len g c =
    let same = AllZip-long Follows c.args.hands.now.items c.run.new.hands.items c.run.ensures.follows in
    let n = c.requires.len.0 in
    (omega arith, c.put.ensures.workers ∙ c.run.ensures.workers ∙ c.requires.len.1)
