use Rattle.std.proofs.Common.{◌≡◌, ◌∙◌, ℕ, List, length, refl, sym, ap, subst, arith}
use Rattle.std.specs.Prelude.{All, ◌↔◌}
use Rattle.block_pool.specs.Handles.{HandValue}
use Rattle.scatter.proofs.Hands.{follow_trans, permits_trans, follow_count}
use Rattle.scatter.specs.Carrying.{NotCarried}
use Rattle.link.specs.Linking.{CanRoute, rows_sent}
use Rattle.sent_mail.proofs.Mailed.{none_taken, as_good}
use Rattle.link.proofs.Mailed.{new_posts}
use Rattle.link.proofs.Refused.{refused_by, refused_net}
use Rattle.link.proofs.Linked.{took_none, may_finish, permits_again, ends_left, all_sent_own, linked}
use Rattle.scatter.specs.Told.{AreTold}
use Rattle.dia_item.specs.KindList.{kind_list}
use Rattle.lop_chain.specs.Ops.{ops_in}
use Rattle.lop_chain.specs.Operands.{root_in}
use Rattle.scatter.specs.Stocks.{lines_of}
use Rattle.multiplexer.specs.contracts.post.SendEndPost.TheImpl as post
use Rattle.scatter.proofs.Threes.{three_long}
use Rattle.link.specs.contracts.link.link_ready.F-Fn.{words}
use Rattle.link.specs.Scattering.{IsReadyScatter}
use Rattle.link.proofs.Sent.{joined_sent}
use Rattle.link.proofs.Senders.{fresh_ready}
use Rattle.link.proofs.link.link_ready.Goals as goal

pub send_phase-requires-clause-long : goal.send_phase-requires-clause-long
send_phase-requires-clause-long g c = λ κs lives.
    let m = c.requires.ready in
    let fresh = (three_long _ c.args.routes.value.items m.sends c.args.ready.dealers.items m.fresh).1 in
    let n = c.requires.long in
    let ok = c.args.ready.dealers.ok in
    let routes_ok = c.args.routes.value.ok in
    (n.0, omega (arith, fresh, n, ok, routes_ok))

pub send_phase-requires-clause-ready : goal.send_phase-requires-clause-ready
send_phase-requires-clause-ready g c = λ κs lives.
    let fn = words g.row.R g.row.G g.row.D g.row.X g.row.F g.F.Fn in
    let m = c.requires.ready in
    let kinds = kind_list c.args.operand.now.kinds in
    let n = c.requires.long.0 in
    let l = c.requires.mail in
    let same : length c.args.mail.value.mail ≡ c.args.stock.now.workers = omega (arith, n, l) in
    let can = subst (λ (w : ℕ). All (CanRoute fn.pre fn.post kinds w) c.args.routes.value.items) (sym same) c.requires.routes in
    subst (λ (w : ℕ). All (IsReadyScatter post.ghosts fn.pre fn.post kinds w) c.args.ready.dealers.items) same
    (fresh_ready post.ghosts fn.pre fn.post kinds (length c.args.mail.value.mail) c.args.routes.value.items m.sends c.args.ready.dealers.items m.fresh
    (new_posts post.ghosts (λ s. refl) (λ s. refl) c.args.mail.value.mail m.sends m.new_sends) can)

pub returns-in-Err-clause-joined : goal.returns-in-Err-clause-joined
returns-in-Err-clause-joined g c = joined_sent (lines_of c.args.stock.now) c.args.stock.now.workers (root_in c.args.operand.now.root) c.args.last (ops_in c.args.operand.now.chain.items) c.joined.ensures

pub returns-in_default-finish_all-clause-joined : goal.returns-in_default-finish_all-clause-joined
returns-in_default-finish_all-clause-joined g c = joined_sent (lines_of c.args.stock.now) c.args.stock.now.workers (root_in c.args.operand.now.root) c.args.last (ops_in c.args.operand.now.chain.items) c.joined.ensures

pub returns-in-Ok-settle_sent-clause-joined : goal.returns-in-Ok-settle_sent-clause-joined
returns-in-Ok-settle_sent-clause-joined g c = joined_sent (lines_of c.args.stock.now) c.args.stock.now.workers (root_in c.args.operand.now.root) c.args.last (ops_in c.args.operand.now.chain.items) c.joined.ensures

pub returns-clause-joined : goal.returns-clause-joined
returns-clause-joined g c = joined_sent (lines_of c.args.stock.now) c.args.stock.now.workers (root_in c.args.operand.now.root) c.args.last (ops_in c.args.operand.now.chain.items) c.joined.ensures

pub returns-in_default-finish_all-clause-follows : goal.returns-in_default-finish_all-clause-follows
returns-in_default-finish_all-clause-follows g c =
    follow_trans c.args.hands.now.items c.send_phase.new.hands.items c.finish_all.new.hands.items c.send_phase.ensures.follows c.finish_all.ensures.follows

pub settle_sent-requires-clause-none : goal.settle_sent-requires-clause-none
settle_sent-requires-clause-none g c = none_taken c.args.mail.value.mail c.args.ready.recvs.items c.requires.ready.new_recvs

pub returns-in-Ok-settle_sent-clause-follows : goal.returns-in-Ok-settle_sent-clause-follows
returns-in-Ok-settle_sent-clause-follows g c =
    follow_trans c.args.hands.now.items c.finish_all.new.hands.items c.settle_sent.new.hands.items
    (follow_trans c.args.hands.now.items c.send_phase.new.hands.items c.finish_all.new.hands.items c.send_phase.ensures.follows c.finish_all.ensures.follows) c.settle_sent.ensures.follows

pub returns-clause-follows : goal.returns-clause-follows
returns-clause-follows g c =
    follow_trans c.args.hands.now.items c.finish_all.new.hands.items c.settle_sent.new.hands.items
    (follow_trans c.args.hands.now.items c.send_phase.new.hands.items c.finish_all.new.hands.items c.send_phase.ensures.follows c.finish_all.ensures.follows) c.settle_sent.ensures.follows

pub finish_all-requires-clause-own : goal.finish_all-requires-clause-own
finish_all-requires-clause-own g c =
    let fn = words g.row.R g.row.G g.row.D g.row.X g.row.F g.F.Fn in
    let m = c.requires.ready in
    let mail = c.args.mail.value.mail in
    may_finish post.ghosts fn.pre fn.post (kind_list c.args.operand.now.kinds) (length mail) _ (λ s t rows h. h) (λ s d h. h) (λ s t a b h. h) c.args.routes.value.items m.sends _
    c.args.ready.dealers.items c.args.hands.now.items c.send_phase.new.dealers.items c.send_phase.new.hands.items m.fresh (new_posts post.ghosts (λ s. refl) (λ s. refl) mail m.sends m.new_sends) c.in_default.ensures.sent

pub net_fits-requires-clause-good : goal.net_fits-requires-clause-good
net_fits-requires-clause-good g c =
    let fn = words g.row.R g.row.G g.row.D g.row.X g.row.F g.F.Fn in
    let m = c.requires.ready in
    let mail = c.args.mail.value.mail in
    let same = permits_again post.ghosts fn.pre fn.post (kind_list c.args.operand.now.kinds) (length mail) _ (λ s t rows h. h) (λ s d h. h) (λ s t a b h. h) c.args.routes.value.items m.sends _
    c.args.ready.dealers.items c.args.hands.now.items c.send_phase.new.dealers.items c.send_phase.new.hands.items m.fresh (new_posts post.ghosts (λ s. refl) (λ s. refl) mail m.sends m.new_sends) c.in_default.ensures.sent
    c.finish_all.new.hands.items c.in-Ok.ensures.freed in
    rw c.of-began.ensures
    (as_good c.args.hands.now.items c.finish_all.new.hands.items
    (follow_trans c.args.hands.now.items c.send_phase.new.hands.items c.finish_all.new.hands.items c.send_phase.ensures.follows c.finish_all.ensures.follows) same)

pub settle_sent-requires-clause-ends : goal.settle_sent-requires-clause-ends
settle_sent-requires-clause-ends g c =
    let m = c.requires.ready in
    let mail = c.args.mail.value.mail in
    ends_left post.ghosts (λ s. refl) (λ s. refl) (λ s. refl) (kind_list c.args.operand.now.kinds) (length mail) c.args.routes.value.items m.sends c.args.ready.dealers.items c.send_phase.new.dealers.items
    c.send_phase.new.hands.items c.finish_all.new.hands.items c.in-Ok.sends.items m.fresh (new_posts post.ghosts (λ s. refl) (λ s. refl) mail m.sends m.new_sends) c.send_phase.ensures.stays c.in-Ok.ensures.sent
    mail c.args.ready.recvs.items m.new_sends m.new_recvs

pub settle_sent-requires-clause-own : goal.settle_sent-requires-clause-own
settle_sent-requires-clause-own g c =
    let m = c.requires.ready in
    let mail = c.args.mail.value.mail in
    all_sent_own post.ghosts (λ s. refl) (λ s. refl) (λ s. refl) (kind_list c.args.operand.now.kinds) (length mail) c.args.routes.value.items m.sends c.args.ready.dealers.items c.send_phase.new.dealers.items
    c.send_phase.new.hands.items c.finish_all.new.hands.items c.in-Ok.sends.items m.fresh (new_posts post.ghosts (λ s. refl) (λ s. refl) mail m.sends m.new_sends) c.send_phase.ensures.stays c.in-Ok.ensures.sent
    c.finish_all.ensures.follows

pub settle_sent-requires-clause-count : goal.settle_sent-requires-clause-count
settle_sent-requires-clause-count g c =
    let recvs = c.requires.ready.new_recvs.count in
    let hands = follow_count c.args.hands.now.items c.finish_all.new.hands.items (follow_trans c.args.hands.now.items c.send_phase.new.hands.items c.finish_all.new.hands.items c.send_phase.ensures.follows c.finish_all.ensures.follows) in
    let mail = c.requires.mail in
    let long = c.requires.long.0 in
    let workers = c.send_phase.ensures.workers in
    let a = c.args.ready.recvs.ok in
    let b = c.args.hands.now.ok in
    let d = c.finish_all.new.hands.ok in
    (omega (arith, recvs, mail, long, workers, a), omega (arith, hands, long, workers, b, d))

pub returns-in-Ok-settle_sent-clause-linked : goal.returns-in-Ok-settle_sent-clause-linked
returns-in-Ok-settle_sent-clause-linked g c =
    let fn = words g.row.R g.row.G g.row.D g.row.X g.row.F g.F.Fn in
    let m = c.requires.ready in
    let mail = c.args.mail.value.mail in
    linked post.ghosts (λ s. refl) (λ s. refl) (λ s. refl) fn.pre fn.post (kind_list c.args.operand.now.kinds) (length mail) _ (λ s t rows h. h) (λ s d h. h) c.args.routes.value.items m.sends
    (lines_of c.args.stock.now) c.args.stock.now.workers (root_in c.args.operand.now.root) c.args.last (ops_in c.args.operand.now.chain.items)
    c.args.ready.dealers.items c.args.hands.now.items c.send_phase.new.dealers.items c.send_phase.new.hands.items m.fresh (new_posts post.ghosts (λ s. refl) (λ s. refl) mail m.sends m.new_sends) c.in_default.ensures.sent
    c.in-Ok.sends.items (g.X.Net.tells c.args.stock.now.net) c.finish_all.new.hands.items c.in-Ok-settle_sent.boxes.items c.in-Ok.ensures.sent
    (λ carried. c.in-Ok-settle_sent.ensures.mixes (ap g.X.Net.tells c.send_phase.ensures.net ∙ carried))
    (follow_trans c.args.hands.now.items c.send_phase.new.hands.items c.finish_all.new.hands.items c.send_phase.ensures.follows c.finish_all.ensures.follows)

pub returns-in-Ok-settle_sent-clause-permits : goal.returns-in-Ok-settle_sent-clause-permits
returns-in-Ok-settle_sent-clause-permits g c =
    let fn = words g.row.R g.row.G g.row.D g.row.X g.row.F g.F.Fn in
    let m = c.requires.ready in
    let mail = c.args.mail.value.mail in
    let same = permits_again post.ghosts fn.pre fn.post (kind_list c.args.operand.now.kinds) (length mail) _ (λ s t rows h. h) (λ s d h. h) (λ s t a b h. h) c.args.routes.value.items m.sends _
    c.args.ready.dealers.items c.args.hands.now.items c.send_phase.new.dealers.items c.send_phase.new.hands.items m.fresh (new_posts post.ghosts (λ s. refl) (λ s. refl) mail m.sends m.new_sends) c.in_default.ensures.sent
    c.finish_all.new.hands.items c.in-Ok.ensures.freed in
    permits_trans c.args.hands.now.items c.finish_all.new.hands.items c.settle_sent.new.hands.items same c.in-Ok-settle_sent.ensures.permits

pub returns-in-Ok-settle_sent-clause-fits : goal.returns-in-Ok-settle_sent-clause-fits
returns-in-Ok-settle_sent-clause-fits g c = subst (λ n. (list : List HandValue) → g.X.Net.fits c.settle_sent.new.stock.net list ↔ g.X.Net.fits n list) c.send_phase.ensures.net c.settle_sent.ensures.fits

pub returns-clause-fits : goal.returns-clause-fits
returns-clause-fits g c = subst (λ n. (list : List HandValue) → g.X.Net.fits c.settle_sent.new.stock.net list ↔ g.X.Net.fits n list) c.send_phase.ensures.net c.settle_sent.ensures.fits

pub returns-in-Err-clause-refused : goal.returns-in-Err-clause-refused
returns-in-Err-clause-refused g c =
    let fn = words g.row.R g.row.G g.row.D g.row.X g.row.F g.F.Fn in
    let m = c.requires.ready in
    let kinds = kind_list c.args.operand.now.kinds in
    let sent = rows_sent (lines_of c.args.stock.now) c.args.stock.now.workers (root_in c.args.operand.now.root) (ops_in c.args.operand.now.chain.items) in
    let told = AreTold (root_in c.args.operand.now.root) c.args.hands.now.items in
    let tells = g.X.Net.tells c.args.stock.now.net in
    let faults = g.X.Net.faults c.args.stock.now.net in
    let hands = c.args.hands.now.items in
    let now = c.send_phase.new.hands.items in
    let no = refused_by post.ghosts fn.post _ (λ s t rows h. h) (λ s a row e u b h. h) (lines_of c.args.stock.now) c.args.stock.now.workers (root_in c.args.operand.now.root) c.args.last (ops_in c.args.operand.now.chain.items)
    c.args.ready.dealers.items hands c.send_phase.new.dealers.items now (took_none post.ghosts kinds (length c.args.mail.value.mail) c.args.routes.value.items m.sends c.args.ready.dealers.items m.fresh) tells faults
    c.in-Err.fault c.in-Err.ensures.stopped in
    rw c.refusal_of_phase.ensures (rw c.send_phase.ensures.net no)

pub returns-clause-refused : goal.returns-clause-refused
returns-clause-refused g c =
    let sent = rows_sent (lines_of c.args.stock.now) c.args.stock.now.workers (root_in c.args.operand.now.root) (ops_in c.args.operand.now.chain.items) in
    let told = AreTold (root_in c.args.operand.now.root) c.args.hands.now.items in
    let later = follow_trans c.args.hands.now.items c.send_phase.new.hands.items c.finish_all.new.hands.items c.send_phase.ensures.follows c.finish_all.ensures.follows in
    let h = subst (λ n. NotCarried (g.X.Net.tells n) (g.X.Net.faults n) (g.X.Net.faults c.settle_sent.new.stock.net) c.finish_all.new.hands.items c.settle_sent.new.hands.items c.in-Err-settle_sent.fault) c.send_phase.ensures.net c.in-Err-settle_sent.ensures.refused in
    rw c.refusal_of_net.ensures
    (refused_net sent told (g.X.Net.tells c.args.stock.now.net) (g.X.Net.faults c.args.stock.now.net) (g.X.Net.faults c.settle_sent.new.stock.net) c.args.hands.now.items c.finish_all.new.hands.items c.settle_sent.new.hands.items
    c.in-Err-settle_sent.fault later h)
