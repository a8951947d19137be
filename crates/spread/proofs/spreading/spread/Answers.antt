use Rattle.std.proofs.Common.{◌<◌, ◌∙◌, List, Some, map, length, refl, sym, subst, arith}
use Rattle.std.specs.Prelude.{All}
use Rattle.std.specs.List.{AllZip}
use Rattle.row_defs.specs.declared.kind.Kind.{Kind}
use Rattle.dia_item.specs.KindList.{kind_list}
use Rattle.block_pool.specs.Handles.{PoolName}
use Rattle.dia_file.specs.Files.{FileValue, IsFileOf}
use Rattle.scatter.specs.Lines.{LineValue, Lines, HasKinds, Sets}
use Rattle.scatter.specs.Stocks.{lines_of, AreInPools}
use Rattle.scatter.specs.Phases.{pools_of}
use Rattle.scatter.proofs.Hands.{follow_trans, follow_count, permits_trans}
use Rattle.scatter.proofs.SameLines.{same_pools}
use Rattle.spread.specs.Dealing.{IsDealtOut}
use Rattle.spread.proofs.LineSpread.{two_still, some_of, files_long, kinds_first, rows_spread, refused_receiving}
use Rattle.spread.proofs.spreading.spread.Goals as goal

pub received-requires-clause-permits : goal.received-requires-clause-permits
received-requires-clause-permits g c κs within = two_still c.args.hands.now.items c.deal_out.new.hands.items c.in-Ok.ensures.permits c.requires.permits

pub returns-in-Err-received-clause-refused : goal.returns-in-Err-received-clause-refused
returns-in-Err-received-clause-refused g c =
    let hands = c.args.hands.now.items in
    let mid = c.deal_out.new.hands.items in
    let carries = g.X.Net.tells c.args.stock.now.net in
    let kinds = kind_list c.kinds-kinds.result in
    let dealt = subst (λ (ks : List Kind). IsDealtOut ks c.args.file.rows carries hands c.in-Ok.boxes.items) (sym c.kinds-kinds.ensures) c.in-Ok.ensures.dealt in
    rw c.refusal_of_receiving.ensures
    (refused_receiving kinds c.args.file.rows carries hands mid c.in-Ok.boxes.items c.deal_out.ensures.follows dealt c.args.file (g.X.Net.faults c.args.stock.now.net) (g.X.Net.faults c.deal_out.new.stock.net)
    c.received.new.hands.items c.in-Err-received.fault refl c.in-Err-received.ensures.refused)

pub returns-in-Err-received-clause-follows : goal.returns-in-Err-received-clause-follows
returns-in-Err-received-clause-follows g c =
    follow_trans c.args.hands.now.items c.deal_out.new.hands.items c.received.new.hands.items c.deal_out.ensures.follows c.received.ensures.follows

pub put-requires-clause-count : goal.put-requires-clause-count
put-requires-clause-count g c =
    let hands = c.args.hands.now.items in
    let mid = c.deal_out.new.hands.items in
    let files = files_long mid c.in-Ok-received.files.items c.in-Ok-received.ensures.own in
    let later = follow_count hands mid c.deal_out.ensures.follows in
    let want = c.requires.long in
    let workers = c.deal_out.ensures.workers in
    omega (arith, files, later, want, workers)

pub put-requires-clause-kinds : goal.put-requires-clause-kinds
put-requires-clause-kinds g c =
    let hands = c.args.hands.now.items in
    let mid = c.deal_out.new.hands.items in
    let kinds = kind_list c.kinds-kinds.result in
    let files = c.in-Ok-received.files.items in
    let long = files_long mid files c.in-Ok-received.ensures.own in
    let later = follow_count hands mid c.deal_out.ensures.follows in
    let there = some_of hands c.requires.file.hand c.requires.file.at in
    let some : 0 < length files = omega (arith, long, later, there) in
    let first = kinds_first kinds files some c.in-Ok-received.ensures.kinds in
    subst (λ (ks : List Kind). All (HasKinds ks) files) (sym first) c.in-Ok-received.ensures.kinds

pub returns-in-Ok-put-clause-spread : goal.returns-in-Ok-put-clause-spread
returns-in-Ok-put-clause-spread g c =
    let hands = c.args.hands.now.items in
    let mid = c.deal_out.new.hands.items in
    let carries = g.X.Net.tells c.args.stock.now.net in
    let kinds = kind_list c.kinds-kinds.result in
    let dealt = subst (λ (ks : List Kind). IsDealtOut ks c.args.file.rows carries hands c.in-Ok.boxes.items) (sym c.kinds-kinds.ensures) c.in-Ok.ensures.dealt in
    let files = c.in-Ok-received.files.items in
    let long = files_long mid files c.in-Ok-received.ensures.own in
    let later = follow_count hands mid c.deal_out.ensures.follows in
    let there = some_of hands c.requires.file.hand c.requires.file.at in
    let some : 0 < length files = omega (arith, long, later, there) in
    let first = kinds_first kinds files some c.in-Ok-received.ensures.kinds in
    let now = lines_of c.put.new.self in
    let line : List Kind → LineValue = λ ks. record { kinds = ks; parts = map (λ (f : FileValue). Some f) files } in
    let Now : List Kind → Type 0 = λ ks. Sets (lines_of c.deal_out.new.stock) c.args.line (Some (line ks)) now in
    let Then : Lines → Type 0 = λ lines. Sets lines c.args.line (Some (line c.args.file.kinds)) now in
    record {
      parts = files;
      own = subst (λ (pools : List PoolName). AllZip IsFileOf pools files) (same_pools hands mid c.deal_out.ensures.follows) c.in-Ok-received.ensures.own;
      rows = rows_spread kinds c.args.file.rows carries hands mid c.in-Ok.boxes.items c.deal_out.ensures.follows dealt files c.in-Ok-received.ensures.rows;
      few = c.in-Ok-received.ensures.few;
      line = subst Then c.deal_out.ensures.lines (subst Now (first ∙ c.kinds-kinds.ensures) c.in-Ok-put.ensures.lines);
    }

pub returns-in-Ok-put-clause-own : goal.returns-in-Ok-put-clause-own
returns-in-Ok-put-clause-own g c =
    let hands = c.args.hands.now.items in
    let mid = c.deal_out.new.hands.items in
    let files = c.in-Ok-received.files.items in
    let pools = pools_of hands in
    let own = subst (λ (ps : List PoolName). AllZip IsFileOf ps files) (same_pools hands mid c.deal_out.ensures.follows) c.in-Ok-received.ensures.own in
    c.in-Ok-put.ensures.pools pools (subst (λ (lines : Lines). AreInPools pools lines) (sym c.deal_out.ensures.lines) c.requires.own) own

pub returns-in-Ok-put-clause-permits : goal.returns-in-Ok-put-clause-permits
returns-in-Ok-put-clause-permits g c =
    permits_trans c.args.hands.now.items c.deal_out.new.hands.items c.received.new.hands.items c.in-Ok.ensures.permits c.in-Ok-received.ensures.permits

pub returns-in-Ok-put-clause-follows : goal.returns-in-Ok-put-clause-follows
returns-in-Ok-put-clause-follows g c =
    follow_trans c.args.hands.now.items c.deal_out.new.hands.items c.received.new.hands.items c.deal_out.ensures.follows c.received.ensures.follows

pub returns-in-Err-put-clause-follows : goal.returns-in-Err-put-clause-follows
returns-in-Err-put-clause-follows g c =
    follow_trans c.args.hands.now.items c.deal_out.new.hands.items c.received.new.hands.items c.deal_out.ensures.follows c.received.ensures.follows
