use Rattle.std.proofs.Common.{◌≡◌, ℕ, List, length, arith, ap, subst, sym, ◌∙◌}
use Rattle.std.specs.Prelude.{All, Vec}
use Rattle.std.specs.List.{AllZip}
use Rattle.std.specs.declared.alloc.Global.{Global}
use Rattle.std.proofs.lemmas.Slice.Zip.{AllZip-long}
use Rattle.collective.proofs.ShareLaws.{shares_joined}
use Rattle.dia_item.specs.KindList.{kind_list}
use Rattle.block_pool.specs.Handles.{PoolName}
use Rattle.dia_file.specs.Files.{IsFileOf}
use Rattle.scatter.specs.Carrying.{AreForHand}
use Rattle.scatter.specs.Lines.{Lines}
use Rattle.scatter.specs.Stocks.{lines_of}
use Rattle.scatter.proofs.Hands.{follow_trans, permits_trans, follow_count, all_tell}
use Rattle.scatter.proofs.Threes.{three_long}
use Rattle.arrival_files.specs.Receiving.{HasRowsOf}
use Rattle.link.specs.Linking.{HasFrames}
use Rattle.dealing.specs.Operands.{operands_in, IsCounted, AreUsed, AreSomeUsed, arriving_all}
use Rattle.dealing.specs.Deals.{HoldShares}
use Rattle.dealing.specs.Refusals.{DealRefused}
use Rattle.dealing.proofs.First.{none_used}
use Rattle.dealing.proofs.Composed.{as_good, frames_still}
use Rattle.dealt_files.proofs.Totals.{own_still, same_pools, each_after, two_permits}
use Rattle.dealt_files.proofs.Joining.{all_rows, all_held}
use Rattle.dealt_files.proofs.Faults.{used_some, link_fault, receive_fault}
use Rattle.dealt_files.proofs.files.dealt_files.Goals as goal

pub returns-in-Err-clause-left : goal.returns-in-Err-clause-left
returns-in-Err-clause-left g c =
    let lines = lines_of c.args.stock.now in
    let ops = operands_in c.args.operands.now in
    subst (λ (l : Lines). AreSomeUsed lines ops l) (sym c.count_rows.ensures.lines) (none_used lines ops)

pub net_fits-requires-clause-good : goal.net_fits-requires-clause-good
net_fits-requires-clause-good g c = rw c.of-began.ensures (as_good c.args.hands.now.items c.count_rows.new.hands.items c.count_rows.ensures.follows c.in-Ok.ensures.permits)

pub deal-requires-clause-few : goal.deal-requires-clause-few
deal-requires-clause-few g c = λ κs lives.
    let same = follow_count c.args.hands.now.items c.count_rows.new.hands.items c.count_rows.ensures.follows in
    let few = c.requires.few in
    let a = c.args.hands.now.ok in
    let b = c.count_rows.new.hands.ok in
    omega (arith, same, few, a, b)

pub deal-requires-clause-long : goal.deal-requires-clause-long
deal-requires-clause-long g c = λ κs lives.
    let same = follow_count c.args.hands.now.items c.count_rows.new.hands.items c.count_rows.ensures.follows in
    let long = c.requires.long in
    let workers = c.count_rows.ensures.workers in
    let a = c.args.hands.now.ok in
    let b = c.count_rows.new.hands.ok in
    omega (arith, same, long, workers, a, b)

pub deal-requires-clause-counted : goal.deal-requires-clause-counted
deal-requires-clause-counted g c = λ κs lives.
    let lines = lines_of c.args.stock.now in
    let now = lines_of c.count_rows.new.stock in
    let workers = c.args.stock.now.workers in
    let hs = c.args.hands.now.items in
    let bs = c.count_rows.new.hands.items in
    let ops = operands_in c.args.operands.now in
    let each = c.in-Ok.ensures.counted.each in
    subst (λ (w : ℕ). AllZip (IsCounted now w bs) ops c.as_slice.result.now) (sym c.count_rows.ensures.workers)
    (subst (λ (l : List (Vec ℕ Global)). AllZip (IsCounted now workers bs) ops l) (sym c.as_slice.ensures.value)
    (each_after lines now c.count_rows.ensures.lines workers hs bs c.count_rows.ensures.follows ops c.in-Ok.counts.each.items each))

pub deal-requires-clause-own : goal.deal-requires-clause-own
deal-requires-clause-own g c = λ κs lives.
    own_still c.args.hands.now.items c.count_rows.new.hands.items (lines_of c.args.stock.now) (lines_of c.count_rows.new.stock) c.count_rows.ensures.follows c.count_rows.ensures.lines c.requires.own

pub deal-requires-clause-permits : goal.deal-requires-clause-permits
deal-requires-clause-permits g c = λ κs lives.
    subst (λ (w : ℕ). All (HasFrames w) c.count_rows.new.hands.items) (sym c.count_rows.ensures.workers)
    (frames_still c.args.stock.now.workers c.args.hands.now.items c.count_rows.new.hands.items c.count_rows.ensures.follows c.in-Ok.ensures.permits c.requires.permits)

pub returns-in-Err-deal-clause-follows : goal.returns-in-Err-deal-clause-follows
returns-in-Err-deal-clause-follows g c = follow_trans c.args.hands.now.items c.count_rows.new.hands.items c.deal.new.hands.items c.count_rows.ensures.follows c.deal.ensures.follows

pub received-requires-clause-few : goal.received-requires-clause-few
received-requires-clause-few g c = λ κs lives.
    let same = follow_count c.args.hands.now.items c.deal.new.hands.items (follow_trans c.args.hands.now.items c.count_rows.new.hands.items c.deal.new.hands.items c.count_rows.ensures.follows c.deal.ensures.follows) in
    let few = c.requires.few in
    let a = c.args.hands.now.ok in
    let b = c.deal.new.hands.ok in
    omega (arith, same, few, a, b)

pub received-requires-clause-permits : goal.received-requires-clause-permits
received-requires-clause-permits g c = λ κs lives.
    let workers = c.args.stock.now.workers in
    two_permits workers c.deal.new.hands.items c.requires.some
    (frames_still workers c.args.hands.now.items c.deal.new.hands.items
    (follow_trans c.args.hands.now.items c.count_rows.new.hands.items c.deal.new.hands.items c.count_rows.ensures.follows c.deal.ensures.follows)
    (permits_trans c.args.hands.now.items c.count_rows.new.hands.items c.deal.new.hands.items c.in-Ok.ensures.permits c.in-Ok-deal.ensures.permits) c.requires.permits)

pub returns-in-Ok-received-clause-own : goal.returns-in-Ok-received-clause-own
returns-in-Ok-received-clause-own g c =
    subst (λ (ps : List PoolName). AllZip IsFileOf ps c.in-Ok-received.files.items)
    (same_pools c.args.hands.now.items c.deal.new.hands.items (follow_trans c.args.hands.now.items c.count_rows.new.hands.items c.deal.new.hands.items c.count_rows.ensures.follows c.deal.ensures.follows))
    c.in-Ok-received.ensures.own

pub returns-in-Ok-received-clause-permits : goal.returns-in-Ok-received-clause-permits
returns-in-Ok-received-clause-permits g c =
    permits_trans c.args.hands.now.items c.deal.new.hands.items c.received.new.hands.items
    (permits_trans c.args.hands.now.items c.count_rows.new.hands.items c.deal.new.hands.items c.in-Ok.ensures.permits c.in-Ok-deal.ensures.permits) c.in-Ok-received.ensures.permits

pub returns-in-Ok-received-clause-follows : goal.returns-in-Ok-received-clause-follows
returns-in-Ok-received-clause-follows g c =
    follow_trans c.args.hands.now.items c.deal.new.hands.items c.received.new.hands.items
    (follow_trans c.args.hands.now.items c.count_rows.new.hands.items c.deal.new.hands.items c.count_rows.ensures.follows c.deal.ensures.follows) c.received.ensures.follows

pub returns-clause-follows : goal.returns-clause-follows
returns-clause-follows g c =
    follow_trans c.args.hands.now.items c.deal.new.hands.items c.received.new.hands.items
    (follow_trans c.args.hands.now.items c.count_rows.new.hands.items c.deal.new.hands.items c.count_rows.ensures.follows c.deal.ensures.follows) c.received.ensures.follows

pub returns-clause-left : goal.returns-clause-left
returns-clause-left g c =
    let ops = operands_in c.args.operands.now in
    let now = lines_of c.deal.new.stock in
    used_some (lines_of c.args.stock.now) ops now (subst (λ (l : Lines). AreUsed l ops now) c.count_rows.ensures.lines c.in-Ok-deal.ensures.lines)

pub returns-in-Err-deal-clause-refused : goal.returns-in-Err-deal-clause-refused
returns-in-Err-deal-clause-refused g c =
    let h = subst (λ n. DealRefused (g.X.Net.tells n) (g.X.Net.faults n) (g.X.Net.faults c.deal.new.stock.net) c.count_rows.new.hands.items c.deal.new.hands.items c.in-Err-deal.fault) c.count_rows.ensures.net c.in-Err-deal.ensures.refused in
    rw c.refusal_of_link.ensures
    (link_fault (lines_of c.args.stock.now) (operands_in c.args.operands.now) (g.X.Net.tells c.args.stock.now.net) (g.X.Net.faults c.args.stock.now.net) (g.X.Net.faults c.deal.new.stock.net)
    c.args.hands.now.items c.count_rows.new.hands.items c.deal.new.hands.items c.count_rows.ensures.follows c.in-Err-deal.fault h)

pub returns-in-Ok-received-clause-rows : goal.returns-in-Ok-received-clause-rows
returns-in-Ok-received-clause-rows g c = λ carried tells.
    let kinds = kind_list c.args.kinds in
    let workers = c.args.stock.now.workers in
    let ops = operands_in c.args.operands.now in
    let rows = arriving_all (lines_of c.args.stock.now) ops in
    let boxes = c.in-Ok-deal.boxes.items in
    let files = c.in-Ok-received.files.items in
    let hands = c.deal.new.hands.items in
    let follows = follow_trans c.args.hands.now.items c.count_rows.new.hands.items hands c.count_rows.ensures.follows c.deal.ensures.follows in
    let held : HoldShares kinds workers rows boxes =
    subst (λ (l : Lines). HoldShares kinds workers (arriving_all l ops) boxes) c.count_rows.ensures.lines
    (subst (λ (w : ℕ). HoldShares kinds w (arriving_all (lines_of c.count_rows.new.stock) ops) boxes) c.count_rows.ensures.workers
    (c.in-Ok-deal.ensures.shares (ap g.X.Net.tells c.count_rows.ensures.net ∙ carried) (all_tell c.args.hands.now.items c.count_rows.new.hands.items c.count_rows.ensures.follows tells))) in
    let same = follow_count c.args.hands.now.items hands follows in
    let of_hands = AllZip-long AreForHand hands boxes c.in-Ok-deal.ensures.pools in
    let three = three_long (HasRowsOf kinds) hands boxes files c.in-Ok-received.ensures.rows in
    let n = c.requires.long in
    let a = c.args.hands.now.ok in
    let long : length boxes ≡ workers = omega (arith, same, of_hands, n, a) in
    let count : length files ≡ workers = omega (arith, same, three, n, a) in
    all_rows kinds workers rows (shares_joined rows workers c.requires.some) hands boxes files long count (all_tell c.args.hands.now.items hands follows tells) held c.in-Ok-received.ensures.rows

pub returns-clause-refused : goal.returns-clause-refused
returns-clause-refused g c =
    let kinds = kind_list c.args.kinds in
    let workers = c.args.stock.now.workers in
    let ops = operands_in c.args.operands.now in
    let rows = arriving_all (lines_of c.args.stock.now) ops in
    let boxes = c.in-Ok-deal.boxes.items in
    let hands = c.deal.new.hands.items in
    let follows = follow_trans c.args.hands.now.items c.count_rows.new.hands.items hands c.count_rows.ensures.follows c.deal.ensures.follows in
    let same = follow_count c.args.hands.now.items hands follows in
    let of_hands = AllZip-long AreForHand hands boxes c.in-Ok-deal.ensures.pools in
    let n = c.requires.long in
    let a = c.args.hands.now.ok in
    let long : length boxes ≡ workers = omega (arith, same, of_hands, n, a) in
    rw c.refusal_of_receiving.ensures
    (receive_fault (lines_of c.args.stock.now) ops (g.X.Net.tells c.args.stock.now.net) (g.X.Net.faults c.args.stock.now.net) (g.X.Net.faults c.deal.new.stock.net)
    c.args.hands.now.items hands c.received.new.hands.items follows kinds boxes
    (λ carried tells. all_held kinds workers rows (shares_joined rows workers c.requires.some) boxes long
    (subst (λ (l : Lines). HoldShares kinds workers (arriving_all l ops) boxes) c.count_rows.ensures.lines
    (subst (λ (w : ℕ). HoldShares kinds w (arriving_all (lines_of c.count_rows.new.stock) ops) boxes) c.count_rows.ensures.workers
    (c.in-Ok-deal.ensures.shares (ap g.X.Net.tells c.count_rows.ensures.net ∙ carried) (all_tell c.args.hands.now.items c.count_rows.new.hands.items c.count_rows.ensures.follows tells)))))
    c.in-Err-received.fault c.in-Err-received.ensures.refused)
