use Rattle.std.proofs.Common.{◌≡◌, length, inl, inr, refl, sym, ap, subst, ◌∙◌, arith}
use Rattle.std.specs.Prelude.{◌⊎◌}
use Rattle.std.specs.List.{AllZip}
use Rattle.lent_step.specs.Lending.{IsFaultAt}
use Rattle.dia_item.specs.KindList.{kind_list}
use Rattle.scatter.specs.declared.feed_err.FeedErr.TheVariants.{NoMemory}
use Rattle.scatter.specs.Phases.{AllThree}
use Rattle.scatter.proofs.Threes.{ran_long}
use Rattle.scatter.proofs.Turns.{flat_ok, flat_err}
use Rattle.arrivals.specs.Phases.{IsOwn, IsEnded, Gone, Done, Faulted, HasReceived, HasStopped}
use Rattle.arrivals.proofs.Turns.{still_own, has_received, has_stopped, ran_follow, hands_follow, sinks_stay}
use Rattle.arrivals.proofs.phase.Arrival.finish.Goals as goal

pub end_all-ended-requires-clause-long : goal.end_all-ended-requires-clause-long
end_all-ended-requires-clause-long g c =
    let p = c.args.self in
    let many = ran_long (Gone g.S.RowSink) p.began.value.items p.hands_were.value.items p.works.items c.args.hands.now.items c.requires.ran in
    let moved : length c.replace-moved.result.items ≡ length p.works.items = ap (λ v. length v.items) c.replace-moved.ensures.value ∙ many.1 ∙ sym many.0 in
    omega arith

pub end_all-ended-requires-clause-own : goal.end_all-ended-requires-clause-own
end_all-ended-requires-clause-own g c =
    let p = c.args.self in
    subst (λ v. AllZip IsOwn p.works.items v.items) (sym c.replace-moved.ensures.value)
    (still_own g.S.RowSink (kind_list p.kinds) p.began.value.items p.hands_were.value.items p.works.items c.args.hands.now.items c.requires.ran c.requires.begun.own)

pub end_all-ended-requires-clause-room : goal.end_all-ended-requires-clause-room
end_all-ended-requires-clause-room g c =
    let p = c.args.self in
    let b = c.requires.begun in
    let many = ran_long (Gone g.S.RowSink) p.began.value.items p.hands_were.value.items p.works.items c.args.hands.now.items c.requires.ran in
    let count : length p.works.items ≡ length p.began.value.items = many.0 in
    record {
      no_hands = b.room.no_hands;
      no_sinks = b.room.no_sinks;
      for_hands = let n = b.room.for_hands in omega arith;
      for_sinks = let n = b.room.for_sinks in omega arith;
    }

pub returns-clause-received : goal.returns-clause-received
returns-clause-received g c =
    let p = c.args.self in
    let b = c.requires.begun in
    let kinds = kind_list p.kinds in
    let hands = c.args.hands.now.items in
    let now = c.end_all-ended.result.hands.items in
    let xs = p.boxes_were.value.items in
    let ss = p.sinks_were.value.items in
    let hs = p.hands_were.value.items in
    let ended : AllThree IsEnded p.works.items hands now = subst (λ v. AllThree IsEnded p.works.items v.items now) c.replace-moved.ensures.value c.end_all-ended.ensures.hands in
    flat_ok c.args.answer c.flat.result _ (HasReceived g.S.RowSink kinds xs ss hs c.end_all-ended.result.sinks.items now) c.flat.ensures
    (λ done. subst (λ took. HasReceived g.S.RowSink kinds xs ss hs took now) (sym c.end_all-ended.ensures.sinks)
    (has_received g.S.RowSink kinds b.rests xs ss p.began.value.items hs p.works.items hands now b.works c.requires.ran ended done)) c.requires.done

pub returns-clause-stopped : goal.returns-clause-stopped
returns-clause-stopped g c =
    let p = c.args.self in
    let b = c.requires.begun in
    let kinds = kind_list p.kinds in
    let hands = c.args.hands.now.items in
    let now = c.end_all-ended.result.hands.items in
    let xs = p.boxes_were.value.items in
    let ss = p.sinks_were.value.items in
    let hs = p.hands_were.value.items in
    let ended : AllThree IsEnded p.works.items hands now = subst (λ v. AllThree IsEnded p.works.items v.items now) c.replace-moved.ensures.value c.end_all-ended.ensures.hands in
    flat_err c.args.answer c.flat.result (λ e. IsFaultAt (Done g.S.RowSink) (Faulted g.S.RowSink) hs p.works.items hands e)
    (λ e. (e ≡ NoMemory) ⊎ HasStopped g.S.RowSink kinds xs ss hs c.end_all-ended.result.sinks.items now e) c.flat.ensures
    (λ e fault. inr (subst (λ took. HasStopped g.S.RowSink kinds xs ss hs took now e) (sym c.end_all-ended.ensures.sinks)
    (has_stopped g.S.RowSink kinds xs ss p.began.value.items hs p.works.items hands now e b.works c.requires.ran ended fault))) (inl refl) c.requires.faulted

pub returns-clause-follows : goal.returns-clause-follows
returns-clause-follows g c =
    let p = c.args.self in
    let hands = c.args.hands.now.items in
    let now = c.end_all-ended.result.hands.items in
    let ended : AllThree IsEnded p.works.items hands now = subst (λ v. AllThree IsEnded p.works.items v.items now) c.replace-moved.ensures.value c.end_all-ended.ensures.hands in
    hands_follow p.hands_were.value.items p.works.items hands now (ran_follow g.S.RowSink (kind_list p.kinds) p.began.value.items p.hands_were.value.items p.works.items hands c.requires.ran) ended

pub returns-clause-stays : goal.returns-clause-stays
returns-clause-stays g c =
    let p = c.args.self in
    subst (λ took. AllZip g.S.RowSink.stays p.sinks_were.value.items took) (sym c.end_all-ended.ensures.sinks)
    (sinks_stay g.S.RowSink (kind_list p.kinds) p.boxes_were.value.items p.sinks_were.value.items p.began.value.items p.hands_were.value.items p.works.items c.args.hands.now.items c.requires.begun.works c.requires.ran)
