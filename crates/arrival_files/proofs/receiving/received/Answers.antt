use Rattle.std.proofs.Common.{◌≡◌, ◌≤◌, ◌∙◌, ℕ, length, vec_len, sym, subst, ap, arith}
use Rattle.row_defs.specs.Limits.{most_rows}
use Rattle.dia_item.specs.KindList.{kind_list}
use Rattle.file_sink.specs.Sinks.{KeepsFile}
use Rattle.scatter.proofs.Hands.{follow_refl, follow_trans}
use Rattle.scatter.proofs.Threes.{zip_long}
use Rattle.sink_files.specs.Rooms.{IsRoomFor}
use Rattle.sink_files.proofs.Taking.{can_cancel}
use Rattle.sink_files.proofs.Files.{files_rows, files_kinds, files_own, taken_is}
use Rattle.arrival_files.specs.Receiving.{fault_of_phase}
use Rattle.arrival_files.proofs.FilesReceived.{refused_later, received_rows, received_kinds, received_ends, received_permits, refused_by, refused_end}
use Rattle.arrival_files.proofs.receiving.received.Goals as goal

pub returns-in-Err-clause-follows : goal.returns-in-Err-clause-follows
returns-in-Err-clause-follows g c = follow_refl c.args.hands.now.items

pub keep_all-requires-clause-own : goal.keep_all-requires-clause-own
keep_all-requires-clause-own g c =
    let fresh = rw c.deref.ensures.value at c.in-Ok.ensures.fresh in
    received_ends _ (λ s t rows p. p) (λ s a row e u b p. p) (kind_list c.args.kinds) c.args.boxes.items c.in-Ok.ready.1.items c.args.hands.now.items
    c.receive_phase.new.sinks.items c.receive_phase.new.hands.items fresh (λ s d p. p) (λ s p. p) c.in-Ok-receive_phase.ensures.received

pub cancel_all-requires-clause-own : goal.cancel_all-requires-clause-own
cancel_all-requires-clause-own g c =
    let fresh = rw c.deref.ensures.value at c.in-Ok.ensures.fresh in
    can_cancel (kind_list c.args.kinds) c.in-Ok.ready.1.items c.receive_phase.new.sinks.items c.args.hands.now.items c.receive_phase.new.hands.items
    fresh c.in-Err-receive_phase.ensures.stays c.in-Err-receive_phase.ensures.follows

pub cancel_all-requires-clause-room : goal.cancel_all-requires-clause-room
cancel_all-requires-clause-room g c =
    let long = zip_long KeepsFile c.in-Ok.ready.1.items c.receive_phase.new.sinks.items c.in-Err-receive_phase.ensures.stays in
    let same : vec_len c.in-Ok.ready.1 ≡ vec_len c.receive_phase.new.sinks = omega (arith, long) in
    subst (λ (n : ℕ). IsRoomFor n c.in-Ok.ready.0) same c.in-Ok.ensures.room

pub returns-in-Ok-keep_all-clause-own : goal.returns-in-Ok-keep_all-clause-own
returns-in-Ok-keep_all-clause-own g c =
    let hands = c.args.hands.now.items in
    let end = c.keep_all.new.hands.items in
    let later = follow_trans hands c.receive_phase.new.hands.items end c.in-Ok-receive_phase.ensures.follows c.in-Ok-keep_all.ensures.follows in
    files_own c.receive_phase.new.sinks.items hands end c.in-Ok-keep_all.files.items later c.in-Ok-keep_all.ensures.files

pub returns-in-Ok-keep_all-clause-kinds : goal.returns-in-Ok-keep_all-clause-kinds
returns-in-Ok-keep_all-clause-kinds g c =
    let ts = c.receive_phase.new.sinks.items in
    let fresh = rw c.deref.ensures.value at c.in-Ok.ensures.fresh in
    let are = received_kinds _ (λ s t rows p. p) (λ s a row e u b p. p) (kind_list c.args.kinds) c.args.boxes.items c.in-Ok.ready.1.items c.args.hands.now.items
    ts c.receive_phase.new.hands.items fresh c.in-Ok-receive_phase.ensures.received in
    files_kinds (kind_list c.args.kinds) ts c.keep_all.new.hands.items c.in-Ok-keep_all.files.items are c.in-Ok-keep_all.ensures.files

pub returns-in-Ok-keep_all-clause-rows : goal.returns-in-Ok-keep_all-clause-rows
returns-in-Ok-keep_all-clause-rows g c =
    let fresh = rw c.deref.ensures.value at c.in-Ok.ensures.fresh in
    received_rows _ (λ s t rows p. p) (λ s a row e u b p. p) (kind_list c.args.kinds) c.args.boxes.items c.in-Ok.ready.1.items c.args.hands.now.items
    c.receive_phase.new.sinks.items c.receive_phase.new.hands.items fresh c.keep_all.new.hands.items c.in-Ok-keep_all.files.items c.in-Ok-receive_phase.ensures.received c.in-Ok-keep_all.ensures.files

pub returns-in-Ok-keep_all-clause-few : goal.returns-in-Ok-keep_all-clause-few
returns-in-Ok-keep_all-clause-few g c =
    let ts = c.receive_phase.new.sinks.items in
    let rows = files_rows ts c.keep_all.new.hands.items c.in-Ok-keep_all.files.items c.in-Ok-keep_all.ensures.files in
    subst (λ (n : ℕ). n ≤ most_rows) (taken_is ts ∙ ap length (sym rows)) c.in-Ok-keep_all.ensures.few

pub returns-in-Ok-keep_all-clause-permits : goal.returns-in-Ok-keep_all-clause-permits
returns-in-Ok-keep_all-clause-permits g c =
    let fresh = rw c.deref.ensures.value at c.in-Ok.ensures.fresh in
    received_permits _ (λ s t rows p. p) (λ s a row e u b p. p) (kind_list c.args.kinds) c.args.boxes.items c.in-Ok.ready.1.items c.args.hands.now.items
    c.receive_phase.new.sinks.items c.receive_phase.new.hands.items fresh (λ s t a b p. p) c.keep_all.new.hands.items c.in-Ok-receive_phase.ensures.received c.in-Ok-keep_all.ensures.permits

pub returns-in-Ok-keep_all-clause-follows : goal.returns-in-Ok-keep_all-clause-follows
returns-in-Ok-keep_all-clause-follows g c =
    follow_trans c.args.hands.now.items c.receive_phase.new.hands.items c.keep_all.new.hands.items c.in-Ok-receive_phase.ensures.follows c.in-Ok-keep_all.ensures.follows

pub returns-in-Err-keep_all-clause-refused : goal.returns-in-Err-keep_all-clause-refused
returns-in-Err-keep_all-clause-refused g c =
    let fresh = rw c.deref.ensures.value at c.in-Ok.ensures.fresh in
    rw c.refusal_of_keeping.ensures
    (refused_end _ (λ s t rows p. p) (λ s a row e u b p. p) (kind_list c.args.kinds) c.args.boxes.items c.in-Ok.ready.1.items c.args.hands.now.items
    c.receive_phase.new.sinks.items c.receive_phase.new.hands.items fresh c.in-Err-keep_all.refusal c.keep_all.new.hands.items
    c.in-Ok-receive_phase.ensures.received c.in-Err-keep_all.ensures.refused)

pub returns-in-Err-keep_all-clause-follows : goal.returns-in-Err-keep_all-clause-follows
returns-in-Err-keep_all-clause-follows g c =
    follow_trans c.args.hands.now.items c.receive_phase.new.hands.items c.keep_all.new.hands.items c.in-Ok-receive_phase.ensures.follows c.in-Err-keep_all.ensures.follows

pub returns-in-Err-receive_phase-clause-refused : goal.returns-in-Err-receive_phase-clause-refused
returns-in-Err-receive_phase-clause-refused g c =
    let kinds = kind_list c.args.kinds in
    let boxes = c.args.boxes.items in
    let hands = c.args.hands.now.items in
    let now = c.receive_phase.new.hands.items in
    let e = c.in-Err-receive_phase.fault in
    let fresh = rw c.deref.ensures.value at c.in-Ok.ensures.fresh in
    let why = refused_by _ (λ s t rows p. p) (λ s a row e u b p. p) kinds boxes c.in-Ok.ready.1.items hands c.receive_phase.new.sinks.items now fresh e c.in-Err-receive_phase.ensures.stopped in
    rw c.refusal_of_phase.ensures (refused_later kinds boxes hands now c.cancel_all.new.hands.items (fault_of_phase e) c.cancel_all.ensures why)

pub returns-in-Err-receive_phase-clause-follows : goal.returns-in-Err-receive_phase-clause-follows
returns-in-Err-receive_phase-clause-follows g c =
    follow_trans c.args.hands.now.items c.receive_phase.new.hands.items c.cancel_all.new.hands.items c.in-Err-receive_phase.ensures.follows c.cancel_all.ensures
