use Rattle.std.proofs.Common.{◌≡◌, ◌+◌, ℕ, sum, arith, ap, subst, sym, ◌∙◌}
use Rattle.std.specs.Prelude.{All}
use Rattle.dia_item.specs.KindList.{kind_list}
use Rattle.scatter.specs.Lines.{Lines}
use Rattle.scatter.specs.Stocks.{lines_of}
use Rattle.scatter.proofs.Hands.{follow_refl, follow_trans, permits_refl, permits_trans, follow_count}
use Rattle.lop_chain.specs.Operands.{operand_in}
use Rattle.dealing.specs.Operands.{operands_in, IsFed, IsCounted}
use Rattle.dealing.proofs.First.{fed_first}
use Rattle.dealt_files.specs.Counted.{AreCounted}
use Rattle.dealt_files.proofs.Totals.{permit_still, own_still, counted_more, many, fault_later}
use Rattle.dealt_files.proofs.counting.+count_rows.Goals as goal

pub returns-in_default-clause-permits : goal.returns-in_default-clause-permits
returns-in_default-clause-permits g n c = permits_refl c.args.hands.now.items

pub returns-in_default-clause-follows : goal.returns-in_default-clause-follows
returns-in_default-clause-follows g n c = follow_refl c.args.hands.now.items

pub rows_by_rank-requires-clause-root : goal.rows_by_rank-requires-clause-root
rows_by_rank-requires-clause-root g n c = λ κs lives. (fed_first _ _ _ c.in-Some.ensures.cases.0 (kind_list c.args.kinds) (lines_of c.args.stock.now) c.requires.fed).0.root

pub rows_by_rank-requires-clause-sound : goal.rows_by_rank-requires-clause-sound
rows_by_rank-requires-clause-sound g n c = λ κs lives.
    (kind_list c.args.kinds, (fed_first _ _ _ c.in-Some.ensures.cases.0 (kind_list c.args.kinds) (lines_of c.args.stock.now) c.requires.fed).0.sound)

pub count_rows-requires-clause-few : goal.count_rows-requires-clause-few
count_rows-requires-clause-few g n c = λ κs lives.
    let same = follow_count c.args.hands.now.items c.rows_by_rank.new.hands.items c.rows_by_rank.ensures.follows in
    let few = c.requires.few in
    let a = c.args.hands.now.ok in
    let b = c.rows_by_rank.new.hands.ok in
    omega (arith, same, few, a, b)

pub count_rows-requires-clause-long : goal.count_rows-requires-clause-long
count_rows-requires-clause-long g n c = λ κs lives.
    let same = follow_count c.args.hands.now.items c.rows_by_rank.new.hands.items c.rows_by_rank.ensures.follows in
    let long = c.requires.long in
    let workers = c.rows_by_rank.ensures.workers in
    let a = c.args.hands.now.ok in
    let b = c.rows_by_rank.new.hands.ok in
    omega (arith, same, long, workers, a, b)

pub count_rows-requires-clause-fed : goal.count_rows-requires-clause-fed
count_rows-requires-clause-fed g n c = λ κs lives.
    subst (λ (l : Lines). All (IsFed (kind_list c.args.kinds) l) (operands_in c.in-Some.operands.now)) (sym c.rows_by_rank.ensures.lines)
    (fed_first _ _ _ c.in-Some.ensures.cases.0 (kind_list c.args.kinds) (lines_of c.args.stock.now) c.requires.fed).1

pub count_rows-requires-clause-own : goal.count_rows-requires-clause-own
count_rows-requires-clause-own g n c = λ κs lives.
    own_still c.args.hands.now.items c.rows_by_rank.new.hands.items (lines_of c.args.stock.now) (lines_of c.rows_by_rank.new.stock) c.rows_by_rank.ensures.follows c.rows_by_rank.ensures.lines c.requires.own

pub count_rows-requires-clause-permits : goal.count_rows-requires-clause-permits
count_rows-requires-clause-permits g n c = λ κs lives. permit_still c.args.hands.now.items c.rows_by_rank.new.hands.items c.in-Ok.ensures.permits c.requires.permits

pub returns-in-Err-count_rows-clause-refused : goal.returns-in-Err-count_rows-clause-refused
returns-in-Err-count_rows-clause-refused g n c =
    fault_later _ _ _ c.in-Some.ensures.cases.0 (lines_of c.args.stock.now) (lines_of c.rows_by_rank.new.stock) c.rows_by_rank.ensures.lines c.args.stock.now.workers
    c.args.hands.now.items c.rows_by_rank.new.hands.items c.rows_by_rank.ensures.follows c.count_rows.new.hands.items c.in-Err-count_rows.fault c.in-Err-count_rows.ensures.refused

pub returns-in-Err-count_rows-clause-follows : goal.returns-in-Err-count_rows-clause-follows
returns-in-Err-count_rows-clause-follows g n c = follow_trans c.args.hands.now.items c.rows_by_rank.new.hands.items c.count_rows.new.hands.items c.rows_by_rank.ensures.follows c.count_rows.ensures.follows

pub returns-in-Err-few-clause-follows : goal.returns-in-Err-few-clause-follows
returns-in-Err-few-clause-follows g n c = follow_trans c.args.hands.now.items c.rows_by_rank.new.hands.items c.count_rows.new.hands.items c.rows_by_rank.ensures.follows c.count_rows.ensures.follows

pub returns-in_default-insert-clause-follows : goal.returns-in_default-insert-clause-follows
returns-in_default-insert-clause-follows g n c = follow_trans c.args.hands.now.items c.rows_by_rank.new.hands.items c.count_rows.new.hands.items c.rows_by_rank.ensures.follows c.count_rows.ensures.follows

pub returns-clause-follows : goal.returns-clause-follows
returns-clause-follows g n c = follow_trans c.args.hands.now.items c.rows_by_rank.new.hands.items c.count_rows.new.hands.items c.rows_by_rank.ensures.follows c.count_rows.ensures.follows

pub returns-clause-permits : goal.returns-clause-permits
returns-clause-permits g n c = permits_trans c.args.hands.now.items c.rows_by_rank.new.hands.items c.count_rows.new.hands.items c.in-Ok.ensures.permits c.in-Ok-count_rows.ensures.permits

pub returns-in-Err-few-clause-refused : goal.returns-in-Err-few-clause-refused
returns-in-Err-few-clause-refused g n c =
    let is = c.in-Some.ensures.cases.0 in
    let o = operand_in c.in-Some.operand.now in
    let ns = c.in-Ok.counts in
    let here : IsCounted (lines_of c.args.stock.now) c.args.stock.now.workers c.args.hands.now.items o ns = record {
      long = let len = c.in-Ok.ensures.len in let ok = ns.ok in omega (arith, len, ok);
      told = c.in-Ok.ensures.counts;
    } in
    let rest = c.in-Ok-count_rows.ensures.counted in
    let sum_is : c.total_of.result ≡ sum ns.items = c.total_of.ensures ∙ ap sum c.as_slice.ensures.value in
    let more = c.in-Err-few.ensures.many in
    many _ _ _ is (lines_of c.args.stock.now) (lines_of c.rows_by_rank.new.stock) c.rows_by_rank.ensures.lines c.args.stock.now.workers c.args.hands.now.items c.rows_by_rank.new.hands.items c.rows_by_rank.ensures.follows
    c.rows_by_rank.ensures.joined ns here c.in-Ok-count_rows.rest.total rest.arrive (omega (arith, more, sum_is))

pub returns-clause-counted : goal.returns-clause-counted
returns-clause-counted g n c =
    let is = c.in-Some.ensures.cases.0 in
    let o = operand_in c.in-Some.operand.now in
    let ns = c.in-Ok.counts in
    let lines = lines_of c.args.stock.now in
    let workers = c.args.stock.now.workers in
    let hands = c.args.hands.now.items in
    let ops = operands_in c.args.operands.now in
    let here : IsCounted lines workers hands o ns = record {
      long = let len = c.in-Ok.ensures.len in let ok = ns.ok in omega (arith, len, ok);
      told = c.in-Ok.ensures.counts;
    } in
    let sum_is : c.total_of.result ≡ sum ns.items = c.total_of.ensures ∙ ap sum c.as_slice.ensures.value in
    let ok = c.in-Ok-few.ensures.ok in
    let is_total = ok.0 in
    let few = ok.1 in
    let total : c.in-Ok-few.total ≡ sum ns.items + c.in-Ok-count_rows.rest.total = omega (arith, is_total, sum_is) in
    let rest = subst (λ (w : ℕ). AreCounted (lines_of c.rows_by_rank.new.stock) w c.rows_by_rank.new.hands.items (operands_in c.in-Some.operands.now) c.in-Ok-count_rows.rest.each.items c.in-Ok-count_rows.rest.total)
    c.rows_by_rank.ensures.workers c.in-Ok-count_rows.ensures.counted in
    rw c.in-Ok-insert.ensures.items (rw total
    (counted_more _ _ _ is lines (lines_of c.rows_by_rank.new.stock) c.rows_by_rank.ensures.lines workers hands c.rows_by_rank.new.hands.items c.rows_by_rank.ensures.follows
    c.rows_by_rank.ensures.joined ns here c.in-Ok-count_rows.rest.each.items c.in-Ok-count_rows.rest.total rest (omega (arith, is_total, sum_is, few))))
