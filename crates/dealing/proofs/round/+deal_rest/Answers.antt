use Rattle.std.proofs.Common.{◌≡◌, ◌+◌, ◌≤◌, ◌^◌, ◌++◌, ℕ, List, length, sum, arith, ap, subst, sym, ◌∙◌, inl}
use Rattle.std.specs.Prelude.{All}
use Rattle.std.specs.List.{AllZip}
use Rattle.std.proofs.lemmas.Slice.Zip.{AllZip-long}
use Rattle.dia_edge.proofs.Results.{IfOk-map, IfErr-map, OnOk-map}
use Rattle.row_defs.specs.Rows.{Row}
use Rattle.dia_item.specs.KindList.{kind_list}
use Rattle.scatter.specs.Carrying.{AreForHand}
use Rattle.scatter.specs.Stocks.{lines_of}
use Rattle.scatter.specs.Told.{arriving}
use Rattle.scatter.proofs.Threes.{three_long}
use Rattle.link.specs.Linking.{HasFrames}
use Rattle.dealt_shares.specs.Dealings.{Dealing}
use Rattle.dealing.specs.Boxes.{HasCome, IsMerged}
use Rattle.dealing.specs.Deals.{IsDealt, IsDealtByAll}
use Rattle.scatter.proofs.Hands.{follow_refl, follow_trans, permits_refl, permits_trans, follow_count, all_tell}
use Rattle.lop_chain.specs.Operands.{root_in, operand_in}
use Rattle.dealing.specs.Operands.{operands_in, arriving_all, IsCounted, count_all}
use Rattle.dealing.proofs.Linked.{told_by}
use Rattle.dealing.proofs.First.{fed_first, in_turn_first, counted_first, ranks_first, arriving_first, some_first, count_first, none_dealt}
use Rattle.dealing.proofs.Leaving.{all_fed, all_arriving, all_counted, own_later}
use Rattle.dealing.proofs.Held.{merged_own}
use Rattle.dealing.proofs.Composed.{as_good, frames_still, refused_later, dealt_more}
use Rattle.dealing.proofs.round.+deal_rest.Goals as goal

pub returns-in_default-clause-dealt : goal.returns-in_default-clause-dealt
returns-in_default-clause-dealt g n c = λ carried tells came long come.
    none_dealt (kind_list c.args.rest.kinds) c.args.rest.at.total c.args.stock.now.workers c.args.rest.at.before (lines_of c.args.stock.now) c.args.hands.now.items
    c.args.rest.operands.now c.args.rest.counts.now came c.args.into.items c.in_default.ensures.cases c.requires.counted come

pub returns-in_default-clause-permits : goal.returns-in_default-clause-permits
returns-in_default-clause-permits g n c = permits_refl c.args.hands.now.items

pub returns-in_default-clause-follows : goal.returns-in_default-clause-follows
returns-in_default-clause-follows g n c = follow_refl c.args.hands.now.items

pub deal-requires-clause-root : goal.deal-requires-clause-root
deal-requires-clause-root g n c = λ κs lives. (fed_first _ _ _ c.in-Some.ensures.cases.0 (kind_list c.args.rest.kinds) (lines_of c.args.stock.now) c.requires.fed).0.root

pub deal-requires-clause-sound : goal.deal-requires-clause-sound
deal-requires-clause-sound g n c = λ κs lives.
    let fed = (fed_first _ _ _ c.in-Some.ensures.cases.0 (kind_list c.args.rest.kinds) (lines_of c.args.stock.now) c.requires.fed).0 in
    rw fed.kinds_are fed.sound

pub returns-in-Err-clause-left : goal.returns-in-Err-clause-left
returns-in-Err-clause-left g n c = some_first _ _ _ c.in-Some.ensures.cases.0 (lines_of c.args.stock.now) (lines_of c.deal.new.stock) c.in-Err.ensures.left

pub net_fits-requires-clause-good : goal.net_fits-requires-clause-good
net_fits-requires-clause-good g n c = rw c.of-began.ensures (as_good c.args.hands.now.items c.deal.new.hands.items c.deal.ensures.follows c.in-Ok.ensures.permits)

pub merge_all-requires : goal.merge_all-requires
merge_all-requires g n c =
    let boxes = AllZip-long AreForHand c.deal.new.hands.items c.in-Ok.boxes.items c.in-Ok.ensures.pools in
    let hands = follow_count c.args.hands.now.items c.deal.new.hands.items c.deal.ensures.follows in
    let long = c.requires.long in
    let a = c.in-Ok.boxes.ok in
    let b = c.deal.new.hands.ok in
    let d = c.args.hands.now.ok in
    let e = c.args.into.ok in
    record { long = omega (arith, boxes, hands, long, a, b, d, e) }

pub returns-in_default-merge_all-clause-left : goal.returns-in_default-merge_all-clause-left
returns-in_default-merge_all-clause-left g n c = some_first _ _ _ c.in-Some.ensures.cases.0 (lines_of c.args.stock.now) (lines_of c.deal.new.stock) (inl c.in-Ok.ensures.lines)

pub deal_rest-requires-clause-long : goal.deal_rest-requires-clause-long
deal_rest-requires-clause-long g n c = λ κs lives.
    let hands = follow_count c.args.hands.now.items c.deal.new.hands.items c.deal.ensures.follows in
    let merged = (three_long (IsMerged c.args.rest.senders) c.args.into.items c.in-Ok.boxes.items c.in-Ok-merge_all.merged.items c.in-Ok-merge_all.ensures).1 in
    let long = c.requires.long in
    let workers = c.deal.ensures.workers in
    let a = c.in-Ok-merge_all.merged.ok in
    let b = c.deal.new.hands.ok in
    let d = c.args.hands.now.ok in
    let e = c.args.into.ok in
    (omega (arith, hands, long, workers, b, d), omega (arith, merged, long, workers, a, e))

pub deal_rest-requires-clause-fed : goal.deal_rest-requires-clause-fed
deal_rest-requires-clause-fed g n c = λ κs lives.
    let is = c.in-Some.ensures.cases.0 in
    let lines = lines_of c.args.stock.now in
    let kinds = kind_list c.args.rest.kinds in
    all_fed lines (lines_of c.deal.new.stock) (operand_in c.in-Some.operand.now) c.in-Ok.ensures.lines kinds (operands_in c.in-Some.operands.now)
    (in_turn_first _ _ _ is c.requires.in_turn).0 (fed_first _ _ _ is kinds lines c.requires.fed).1

pub deal_rest-requires-clause-counted : goal.deal_rest-requires-clause-counted
deal_rest-requires-clause-counted g n c = λ κs lives.
    let is = c.in-Some.ensures.cases.0 in
    let lines = lines_of c.args.stock.now in
    let now = lines_of c.deal.new.stock in
    let workers = c.args.stock.now.workers in
    let hands = c.args.hands.now.items in
    let bs = c.deal.new.hands.items in
    let ops = operands_in c.in-Some.operands.now in
    let counts = c.in-Some-split_first.counts.now in
    let both = counted_first _ _ _ is lines workers hands _ c.in-Some-split_first.count.now counts c.in-Some-split_first.ensures.cases.0 c.requires.counted in
    subst (λ (w : ℕ). AllZip (IsCounted now w bs) ops counts) (sym c.deal.ensures.workers)
    (all_counted lines now (operand_in c.in-Some.operand.now) c.in-Ok.ensures.lines workers hands bs c.deal.ensures.follows ops counts (in_turn_first _ _ _ is c.requires.in_turn).0 both.1)

pub deal_rest-requires-clause-own : goal.deal_rest-requires-clause-own
deal_rest-requires-clause-own g n c = λ κs lives.
    own_later c.args.hands.now.items c.deal.new.hands.items (lines_of c.args.stock.now) (lines_of c.deal.new.stock) (root_in c.in-Some.operand.now.root) c.in-Some.operand.now.last
    c.deal.ensures.follows c.in-Ok.ensures.lines c.requires.own

pub deal_rest-requires-clause-permits : goal.deal_rest-requires-clause-permits
deal_rest-requires-clause-permits g n c = λ κs lives.
    subst (λ (w : ℕ). All (HasFrames w) c.deal.new.hands.items) (sym c.deal.ensures.workers)
    (frames_still c.args.stock.now.workers c.args.hands.now.items c.deal.new.hands.items c.deal.ensures.follows c.in-Ok.ensures.permits c.requires.permits)

pub deal_rest-requires-clause-pools : goal.deal_rest-requires-clause-pools
deal_rest-requires-clause-pools g n c = λ κs lives.
    merged_own c.args.rest.senders c.args.hands.now.items c.deal.new.hands.items c.args.into.items c.in-Ok.boxes.items c.in-Ok-merge_all.merged.items
    c.deal.ensures.follows c.requires.pools c.in-Ok.ensures.pools c.in-Ok-merge_all.ensures

pub returns-clause-dealt : goal.returns-clause-dealt
returns-clause-dealt g n c =
    let is = c.in-Some.ensures.cases.0 in
    let lines = lines_of c.args.stock.now in
    let now = lines_of c.deal.new.stock in
    let kinds = kind_list c.args.rest.kinds in
    let total = c.args.rest.at.total in
    let before = c.args.rest.at.before in
    let by = c.args.rest.senders in
    let workers = c.args.stock.now.workers in
    let hands = c.args.hands.now.items in
    let o = operand_in c.in-Some.operand.now in
    let ops = operands_in c.in-Some.operands.now in
    let counts = c.in-Some-split_first.counts.now in
    let ns = c.in-Some-split_first.count.now in
    let counts_are = c.in-Some-split_first.ensures.cases.0 in
    let both = counted_first _ _ _ is lines workers hands _ ns counts counts_are c.requires.counted in
    let fed = (fed_first _ _ _ is kinds lines c.requires.fed).0 in
    let leaves = (in_turn_first _ _ _ is c.requires.in_turn).0 in
    let boxes_one = c.in-Ok.boxes.items in
    let merged = c.in-Ok-merge_all.merged.items in
    let rows = arriving lines o.root o.chain in
    let others = arriving_all lines ops in
    let more = count_all counts in
    let count = sum ns.items in
    let first_is : c.as_slice.result.now ≡ ns.items = c.as_slice.ensures.value in
    let total_is : c.total_of.result ≡ count = c.total_of.ensures ∙ ap sum c.as_slice-2.ensures.value in
    let ranks = c.requires.ranks in
    let ranks_are = ranks_first _ _ _ is workers in
    let few : by + workers ≤ 2 ^ 32 = omega (arith, ranks, ranks_are) in
    IfOk-map c.deal_rest.result _ _ (λ boxes d carried tells came long come.
    let one : IsDealtByAll kinds total workers before count rows boxes_one =
    subst (λ ks. IsDealtByAll ks total workers before count rows boxes_one) fed.kinds_are
    (subst (λ (l : List ℕ). IsDealtByAll o.kinds total workers before (sum l) rows boxes_one) first_is
    (c.in-Ok.ensures.dealt carried tells (first_is ∙ both.0.told (told_by o.root hands tells)))) in
    let rest : (all : List Dealing) → length all ≡ by + workers → HasCome kinds all merged → IsDealt kinds total workers (before + count) more all others boxes.items = λ all number h.
    subst (λ (l : List Row). IsDealt kinds total workers (before + count) more all l boxes.items) (all_arriving lines now o c.in-Ok.ensures.lines ops leaves)
    (subst (λ (m : ℕ). IsDealt kinds total workers (before + m) more all (arriving_all now ops) boxes.items) total_is
    (subst (λ (w : ℕ). IsDealt kinds total w (before + c.total_of.result) more all (arriving_all now ops) boxes.items) c.deal.ensures.workers
    (d (c.in-Ok.ensures.tells carried) (all_tell hands c.deal.new.hands.items c.deal.ensures.follows tells) all (number ∙ ap (λ (w : ℕ). by + w) (sym c.requires.workers)) h))) in
    let whole : IsDealt kinds total workers before (count + more) came (rows ++ others) boxes.items =
    dealt_more kinds total workers before count more by came rows others c.args.into.items boxes_one merged boxes.items one c.in-Ok-merge_all.ensures long few come rest in
    subst (λ (m : ℕ). IsDealt kinds total workers before m came (arriving_all lines (operands_in c.args.rest.operands.now)) boxes.items) (sym (count_first _ ns counts counts_are))
    (subst (λ (l : List Row). IsDealt kinds total workers before (count + more) came l boxes.items) (sym (arriving_first _ _ _ is lines)) whole)) c.deal_rest.ensures.dealt

pub returns-clause-permits : goal.returns-clause-permits
returns-clause-permits g n c =
    OnOk-map c.deal_rest.result _ _ (λ permits. permits_trans c.args.hands.now.items c.deal.new.hands.items c.deal_rest.new.hands.items c.in-Ok.ensures.permits permits) c.deal_rest.ensures.permits

pub returns-clause-refused : goal.returns-clause-refused
returns-clause-refused g n c =
    IfErr-map c.deal_rest.result _ _ (λ e h. refused_later (g.X.Net.tells c.args.stock.now.net) (g.X.Net.tells c.deal.new.stock.net)
    (g.X.Net.faults c.args.stock.now.net) (g.X.Net.faults c.deal.new.stock.net) (g.X.Net.faults c.deal_rest.new.stock.net)
    c.args.hands.now.items c.deal.new.hands.items c.deal_rest.new.hands.items e c.in-Ok.ensures.tells c.deal.ensures.counts c.deal.ensures.follows h) c.deal_rest.ensures.refused

pub returns-clause-follows : goal.returns-clause-follows
returns-clause-follows g n c =
    follow_trans c.args.hands.now.items c.deal.new.hands.items c.deal_rest.new.hands.items c.deal.ensures.follows c.deal_rest.ensures.follows
