use Rattle.std.proofs.Common.{◌≡◌, ◌+◌, ◌-◌, ◌++◌, ℕ, List, Err, refl, ap, ◌∙◌, arith, rules, length}
use Rattle.dia_item.specs.KindList.{kind_list}
use Rattle.dia_file.proofs.PlaceLemmas.{few_kinds, gathered_placed, gathered_moved}
use Rattle.dia_file.proofs.Gathering.{room_read, room_fits, was_gathered}
use Rattle.dia_file.proofs.moves.gather.Goals as goal

pub returns-in_err-make_room-clause-refused : goal.returns-in_err-make_room-clause-refused
returns-in_err-make_room-clause-refused g c =
    let e = c.in_err-make_room.field-0.0 in
    let same : c.from_residual.result ≡ Err e = search rules in
    rw same (room_read e c.args.hand.now c.args.hand.now c.args.place.now.kept c.in-Some.len c.in_err-make_room.ensures.refused
    (λ told. room_fits (kind_list c.args.kinds.now) c.args.hand.now.pool c.args.place.now c.in-Some.len (few_kinds c.args.kinds.now) c.requires.placed
    (record { shown = c.requires.hidden; here = c.requires.read }) (omega arith) c.in-Some.ensures.long c.requires.told told))

pub returns-clause-placed : goal.returns-clause-placed
returns-clause-placed g c =
    let was = was_gathered c.args.hand.now.pool c.args.place.now (record c.args.place.now { ring = c.leave.new.ring; ahead = c.args.place.now.ahead - 1; buffer = c.append.new.buffer; kept = c.args.place.now.kept + c.in-Some.len }) c.in_ok-held.held c.pin_first.new.ring c.in-Some.len c.bytes.result.now
    c.requires.placed (record { shown = c.requires.hidden; here = c.requires.read }) (omega arith) c.in_ok-held.ensures.taken c.in_ok-held.ensures.len c.pin_first.ensures.capacity c.in_ok-held.ensures.shown
    c.in-Some.ensures.long c.in_ok-make_room.ensures.fits c.leave.ensures.items c.leave.ensures.len c.leave.ensures.capacity refl refl (record { shown = c.requires.hidden; here = c.requires.read }) refl refl
    (c.append.ensures.items ∙ ap (λ (xs : List ℕ). xs ++ c.bytes.result.now) c.make_room.ensures.items) (c.append.ensures.len ∙ ap (λ (n : ℕ). n + length c.bytes.result.now) c.make_room.ensures.len)
    (omega (arith, c.in_ok-make_room.ensures.room, c.append.ensures.capacity)) c.bytes.ensures.bytes in
    gathered_placed _ _ _ _ _ _ _ c.requires.placed was

pub returns-clause-moved : goal.returns-clause-moved
returns-clause-moved g c =
    let was = was_gathered c.args.hand.now.pool c.args.place.now (record c.args.place.now { ring = c.leave.new.ring; ahead = c.args.place.now.ahead - 1; buffer = c.append.new.buffer; kept = c.args.place.now.kept + c.in-Some.len }) c.in_ok-held.held c.pin_first.new.ring c.in-Some.len c.bytes.result.now
    c.requires.placed (record { shown = c.requires.hidden; here = c.requires.read }) (omega arith) c.in_ok-held.ensures.taken c.in_ok-held.ensures.len c.pin_first.ensures.capacity c.in_ok-held.ensures.shown
    c.in-Some.ensures.long c.in_ok-make_room.ensures.fits c.leave.ensures.items c.leave.ensures.len c.leave.ensures.capacity refl refl (record { shown = c.requires.hidden; here = c.requires.read }) refl refl
    (c.append.ensures.items ∙ ap (λ (xs : List ℕ). xs ++ c.bytes.result.now) c.make_room.ensures.items) (c.append.ensures.len ∙ ap (λ (n : ℕ). n + length c.bytes.result.now) c.make_room.ensures.len)
    (omega (arith, c.in_ok-make_room.ensures.room, c.append.ensures.capacity)) c.bytes.ensures.bytes in
    gathered_moved (kind_list c.args.kinds.now) _ _ _ _ _ _ _ c.requires.placed was
