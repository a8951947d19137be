use Rattle.std.proofs.Common.{◌≤◌, List, length, sym, subst}
use Rattle.row_defs.specs.Limits.{most_rows}
use Rattle.row_defs.specs.Rows.{Row}
use Rattle.dia_edge.specs.Sinks.{TookAll}
use Rattle.lop_chain.specs.Operands.{root_in}
use Rattle.lop_chain.specs.Ops.{ops_in}
use Rattle.scatter.specs.Stocks.{lines_of, AreInPools}
use Rattle.scatter.specs.Phases.{pools_of}
use Rattle.dia_edge.proofs.Results.{IfErr-map, OnOk-map}
use Rattle.feed_print.specs.Printing.{texts_of_rows}
use Rattle.actions.specs.Acting.{ActStopped}
use Rattle.scatter.proofs.SameLines.{each_line, arriving_still, pools_still, same_pools, still_permits, told_still, told_back}
use Rattle.actions.proofs.Stops.{stops_since}
use Rattle.actions.proofs.print.print.Goals as goal
use Rattle.scatter.proofs.Hands.{follow_trans, permits_trans}

pub print_all-requires-clause-own : goal.print_all-requires-clause-own
print_all-requires-clause-own g c =
    let lines = lines_of c.args.stock.now in
    let mid = lines_of c.check_few.new.stock in
    let hands = c.args.hands.now.items in
    let met = c.check_few.new.hands.items in
    let same = each_line lines mid (root_in c.args.operand.now.root) c.check_few.ensures.lines in
    subst (λ pools. AreInPools pools mid) (sym (same_pools hands met c.check_few.ensures.follows)) (pools_still lines mid same (pools_of hands) c.requires.own)

pub print_all-requires-clause-permits : goal.print_all-requires-clause-permits
print_all-requires-clause-permits g c = still_permits c.args.hands.now.items c.check_few.new.hands.items c.in-Ok.ensures.permits c.requires.permits

pub print_all-requires-clause-few : goal.print_all-requires-clause-few
print_all-requires-clause-few g c = λ told.
    let root = root_in c.args.operand.now.root in
    let lines = lines_of c.args.stock.now in
    let mid = lines_of c.check_few.new.stock in
    let same = each_line lines mid root c.check_few.ensures.lines in
    subst (λ (rows : List Row). length rows ≤ most_rows) (sym (arriving_still lines mid same root (ops_in c.args.operand.now.chain.items)))
    (c.in-Ok.ensures.few (told_back root c.args.hands.now.items c.check_few.new.hands.items c.check_few.ensures.follows told))

pub returns-in-Ok-clause-text : goal.returns-in-Ok-clause-text
returns-in-Ok-clause-text g c =
    let root = root_in c.args.operand.now.root in
    let lines = lines_of c.args.stock.now in
    let mid = lines_of c.check_few.new.stock in
    let same = each_line lines mid root c.check_few.ensures.lines in
    OnOk-map c.print_all.result _ _ (λ text told.
    subst (λ (rows : List Row). TookAll (g.S.Sink.taken c.args.out.now) (texts_of_rows rows) (g.S.Sink.taken c.print_all.new.out)) (arriving_still lines mid same root (ops_in c.args.operand.now.chain.items))
    (text (told_still root c.args.hands.now.items c.check_few.new.hands.items c.check_few.ensures.follows told))) c.print_all.ensures.text

pub returns-in-Ok-clause-permits : goal.returns-in-Ok-clause-permits
returns-in-Ok-clause-permits g c =
    OnOk-map c.print_all.result _ _ (λ permits. permits_trans c.args.hands.now.items c.check_few.new.hands.items c.print_all.new.hands.items c.in-Ok.ensures.permits permits) c.print_all.ensures.permits

pub returns-in-Ok-clause-refused : goal.returns-in-Ok-clause-refused
returns-in-Ok-clause-refused g c =
    let root = root_in c.args.operand.now.root in
    let ops = ops_in c.args.operand.now.chain.items in
    let lines = lines_of c.args.stock.now in
    let mid = lines_of c.check_few.new.stock in
    let same = each_line lines mid root c.check_few.ensures.lines in
    IfErr-map c.print_all.result _ (ActStopped g.S.Sink lines root ops texts_of_rows c.args.hands.now.items c.print_all.new.hands.items c.args.out.now c.print_all.new.out)
    (λ e stop. stops_since g.S.Sink root ops texts_of_rows lines mid same c.args.hands.now.items c.check_few.new.hands.items c.print_all.new.hands.items c.check_few.ensures.follows
    c.args.out.now c.print_all.new.out e stop) c.print_all.ensures.refused

pub returns-in-Ok-clause-follows : goal.returns-in-Ok-clause-follows
returns-in-Ok-clause-follows g c = follow_trans c.args.hands.now.items c.check_few.new.hands.items c.print_all.new.hands.items c.check_few.ensures.follows c.print_all.ensures.follows
