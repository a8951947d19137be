use Rattle.std.proofs.Common.{◌≡◌, ◌≤◌, ◌∙◌, ℕ, length, vec_len, sym, subst, ap, arith}
use Rattle.row_defs.specs.Limits.{most_rows}
use Rattle.dia_item.specs.KindList.{kind_list}
use Rattle.lop_chain.specs.Operands.{root_in}
use Rattle.lop_chain.specs.Ops.{ops_in}
use Rattle.file_sink.specs.Sinks.{KeepsFile}
use Rattle.scatter.specs.Stocks.{lines_of}
use Rattle.scatter.proofs.Threes.{three_long}
use Rattle.scatter.proofs.Hands.{follow_refl, follow_trans}
use Rattle.scatter.proofs.Threes.{zip_long}
use Rattle.sink_files.specs.Ending.{IsFileFrom}
use Rattle.sink_files.specs.Rooms.{IsRoomFor}
use Rattle.sink_files.proofs.Taking.{fresh_long, can_cancel}
use Rattle.sink_files.proofs.Files.{files_rows, files_kinds, files_own, taken_is}
use Rattle.place_node.specs.Placing.{node_refusal}
use Rattle.place_node.proofs.Placed.{refused_later, placed_rows, placed_kinds, placed_ends, placed_permits, refused_by, refused_end}
use Rattle.place_node.proofs.caching.cache.Goals as goal

pub returns-in-Err-clause-follows : goal.returns-in-Err-clause-follows
returns-in-Err-clause-follows g c = follow_refl c.args.hands.now.items

pub keep_all-requires-clause-own : goal.keep_all-requires-clause-own
keep_all-requires-clause-own g c =
    let stock = c.args.stock.now in
    let operand = c.args.operand.now in
    let fresh = rw c.deref.ensures.value at c.in-Ok.ensures.fresh in
    placed_ends _ (λ s t rows p. p) (λ s a row e u b p. p) (lines_of stock) stock.workers (root_in operand.root) c.args.operand.now.last (ops_in operand.chain.items) (kind_list operand.kinds)
    c.in-Ok.ready.1.items c.args.hands.now.items c.place_phase.new.sinks.items c.place_phase.new.hands.items c.joined.ensures fresh (λ s d p. p) (λ s p. p) c.in-Ok-place_phase.ensures.sent

pub cancel_all-requires-clause-own : goal.cancel_all-requires-clause-own
cancel_all-requires-clause-own g c =
    let fresh = rw c.deref.ensures.value at c.in-Ok.ensures.fresh in
    can_cancel (kind_list c.args.operand.now.kinds) c.in-Ok.ready.1.items c.place_phase.new.sinks.items c.args.hands.now.items c.place_phase.new.hands.items
    fresh c.in-Err-place_phase.ensures.stays c.in-Err-place_phase.ensures.follows

pub cancel_all-requires-clause-room : goal.cancel_all-requires-clause-room
cancel_all-requires-clause-room g c =
    let long = zip_long KeepsFile c.in-Ok.ready.1.items c.place_phase.new.sinks.items c.in-Err-place_phase.ensures.stays in
    let same : vec_len c.in-Ok.ready.1 ≡ vec_len c.place_phase.new.sinks = omega (arith, long) in
    subst (λ (n : ℕ). IsRoomFor n c.in-Ok.ready.0) same c.in-Ok.ensures.room

pub returns-in-Ok-keep_all-clause-count : goal.returns-in-Ok-keep_all-clause-count
returns-in-Ok-keep_all-clause-count g c =
    let ss = c.in-Ok.ready.1.items in
    let ts = c.place_phase.new.sinks.items in
    let end = c.keep_all.new.hands.items in
    let fresh = rw c.deref.ensures.value at c.in-Ok.ensures.fresh in
    let one = fresh_long (kind_list c.args.operand.now.kinds) ss c.args.hands.now.items fresh in
    let two = zip_long KeepsFile ss ts c.in-Ok-place_phase.ensures.stays in
    let hands = c.requires.long in
    let three = three_long IsFileFrom ts end c.in-Ok-keep_all.files.items c.in-Ok-keep_all.ensures.files in
    omega (arith, one, two, hands, three.1)

pub returns-in-Ok-keep_all-clause-own : goal.returns-in-Ok-keep_all-clause-own
returns-in-Ok-keep_all-clause-own g c =
    let hands = c.args.hands.now.items in
    let end = c.keep_all.new.hands.items in
    let later = follow_trans hands c.place_phase.new.hands.items end c.in-Ok-place_phase.ensures.follows c.in-Ok-keep_all.ensures.follows in
    files_own c.place_phase.new.sinks.items hands end c.in-Ok-keep_all.files.items later c.in-Ok-keep_all.ensures.files

pub returns-in-Ok-keep_all-clause-kinds : goal.returns-in-Ok-keep_all-clause-kinds
returns-in-Ok-keep_all-clause-kinds g c =
    let stock = c.args.stock.now in
    let operand = c.args.operand.now in
    let kinds = kind_list operand.kinds in
    let ts = c.place_phase.new.sinks.items in
    let fresh = rw c.deref.ensures.value at c.in-Ok.ensures.fresh in
    let are = placed_kinds _ (λ s t rows p. p) (λ s a row e u b p. p) (lines_of stock) stock.workers (root_in operand.root) c.args.operand.now.last (ops_in operand.chain.items) kinds
    c.in-Ok.ready.1.items c.args.hands.now.items ts c.place_phase.new.hands.items c.joined.ensures fresh c.in-Ok-place_phase.ensures.sent in
    files_kinds kinds ts c.keep_all.new.hands.items c.in-Ok-keep_all.files.items are c.in-Ok-keep_all.ensures.files

pub returns-in-Ok-keep_all-clause-rows : goal.returns-in-Ok-keep_all-clause-rows
returns-in-Ok-keep_all-clause-rows g c = λ told.
    let stock = c.args.stock.now in
    let operand = c.args.operand.now in
    let ts = c.place_phase.new.sinks.items in
    let fresh = rw c.deref.ensures.value at c.in-Ok.ensures.fresh in
    let rows = placed_rows _ (λ s t rows p. p) (λ s a row e u b p. p) (lines_of stock) stock.workers (root_in operand.root) c.args.operand.now.last (ops_in operand.chain.items) (kind_list operand.kinds)
    c.in-Ok.ready.1.items c.args.hands.now.items ts c.place_phase.new.hands.items c.joined.ensures fresh c.in-Ok-place_phase.ensures.sent in
    files_rows ts c.keep_all.new.hands.items c.in-Ok-keep_all.files.items c.in-Ok-keep_all.ensures.files ∙ rows told

pub returns-in-Ok-keep_all-clause-few : goal.returns-in-Ok-keep_all-clause-few
returns-in-Ok-keep_all-clause-few g c =
    let ts = c.place_phase.new.sinks.items in
    let rows = files_rows ts c.keep_all.new.hands.items c.in-Ok-keep_all.files.items c.in-Ok-keep_all.ensures.files in
    subst (λ (n : ℕ). n ≤ most_rows) (taken_is ts ∙ ap length (sym rows)) c.in-Ok-keep_all.ensures.few

pub returns-in-Ok-keep_all-clause-permits : goal.returns-in-Ok-keep_all-clause-permits
returns-in-Ok-keep_all-clause-permits g c =
    let stock = c.args.stock.now in
    let operand = c.args.operand.now in
    let fresh = rw c.deref.ensures.value at c.in-Ok.ensures.fresh in
    placed_permits _ (λ s t rows p. p) (λ s a row e u b p. p) (lines_of stock) stock.workers (root_in operand.root) c.args.operand.now.last (ops_in operand.chain.items) (kind_list operand.kinds)
    c.in-Ok.ready.1.items c.args.hands.now.items c.place_phase.new.sinks.items c.place_phase.new.hands.items c.joined.ensures fresh (λ s t a b p. p) c.keep_all.new.hands.items c.in-Ok-place_phase.ensures.sent
    c.in-Ok-keep_all.ensures.permits

pub returns-in-Ok-keep_all-clause-follows : goal.returns-in-Ok-keep_all-clause-follows
returns-in-Ok-keep_all-clause-follows g c =
    follow_trans c.args.hands.now.items c.place_phase.new.hands.items c.keep_all.new.hands.items c.in-Ok-place_phase.ensures.follows c.in-Ok-keep_all.ensures.follows

pub returns-in-Err-keep_all-clause-refused : goal.returns-in-Err-keep_all-clause-refused
returns-in-Err-keep_all-clause-refused g c =
    let stock = c.args.stock.now in
    let operand = c.args.operand.now in
    let fresh = rw c.deref.ensures.value at c.in-Ok.ensures.fresh in
    rw c.refusal_of_keeping.ensures
    (refused_end _ (λ s t rows p. p) (λ s a row e u b p. p) (lines_of stock) stock.workers (root_in operand.root) c.args.operand.now.last (ops_in operand.chain.items) (kind_list operand.kinds)
    c.in-Ok.ready.1.items c.args.hands.now.items c.place_phase.new.sinks.items c.place_phase.new.hands.items c.joined.ensures fresh c.in-Err-keep_all.refusal c.keep_all.new.hands.items
    c.in-Ok-place_phase.ensures.sent c.in-Err-keep_all.ensures.refused)

pub returns-in-Err-keep_all-clause-follows : goal.returns-in-Err-keep_all-clause-follows
returns-in-Err-keep_all-clause-follows g c =
    follow_trans c.args.hands.now.items c.place_phase.new.hands.items c.keep_all.new.hands.items c.in-Ok-place_phase.ensures.follows c.in-Err-keep_all.ensures.follows

pub returns-in-Err-place_phase-clause-refused : goal.returns-in-Err-place_phase-clause-refused
returns-in-Err-place_phase-clause-refused g c =
    let stock = c.args.stock.now in
    let operand = c.args.operand.now in
    let lines = lines_of stock in
    let root = root_in operand.root in
    let ops = ops_in operand.chain.items in
    let hands = c.args.hands.now.items in
    let now = c.place_phase.new.hands.items in
    let e = c.in-Err-place_phase.fault in
    let fresh = rw c.deref.ensures.value at c.in-Ok.ensures.fresh in
    let why = refused_by _ (λ s t rows p. p) (λ s a row e u b p. p) lines stock.workers root c.args.operand.now.last ops (kind_list operand.kinds)
    c.in-Ok.ready.1.items hands c.place_phase.new.sinks.items now c.joined.ensures fresh e c.in-Err-place_phase.ensures.stopped in
    rw c.refusal_of.ensures (refused_later lines root ops hands now c.cancel_all.new.hands.items (node_refusal e) c.cancel_all.ensures why)

pub returns-in-Err-place_phase-clause-follows : goal.returns-in-Err-place_phase-clause-follows
returns-in-Err-place_phase-clause-follows g c =
    follow_trans c.args.hands.now.items c.place_phase.new.hands.items c.cancel_all.new.hands.items c.in-Err-place_phase.ensures.follows c.cancel_all.ensures
