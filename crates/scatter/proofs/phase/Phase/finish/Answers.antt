use Rattle.std.proofs.Common.{◌≡◌, List, length, map, inl, inr, refl, sym, ap, subst, ◌∙◌, arith, Option}
use Rattle.std.specs.Prelude.{◌⊎◌}
use Rattle.std.specs.List.{AllZip}
use Rattle.dia_file.specs.Files.{FileValue}
use Rattle.lent_step.specs.Lending.{IsFaultAt}
use Rattle.lop_chain.specs.Operands.{root_in}
use Rattle.scatter.specs.declared.feed_err.FeedErr.TheVariants.{NoMemory}
use Rattle.scatter.specs.Feeds.{FeedValue}
use Rattle.scatter.specs.Stocks.{lines_of, IsToRestore}
use Rattle.scatter.specs.Phases.{AllThree, HasBegun, IsOwn, IsEnded, Gone, Done, Faulted, HasSent, HasStopped}
use Rattle.scatter.proofs.Threes.{three_long, ran_long}
use Rattle.scatter.proofs.Rooted.{used, whole_again}
use Rattle.scatter.proofs.Turns.{still_own, same_keeps, begun_keeps, has_sent, has_stopped, ran_follow, hands_follow, sinks_stay, flat_ok, flat_err}
use Rattle.scatter.proofs.phase.Phase.finish.Goals as goal

pub end_all-ended-requires-clause-long : goal.end_all-ended-requires-clause-long
end_all-ended-requires-clause-long g c =
    let p = c.args.self in
    let many = ran_long (Gone g.S.RowSink) p.began.value.items p.hands_were.value.items p.sends.items c.args.hands.now.items c.requires.ran in
    let moved : length c.replace-moved.result.items ≡ length p.sends.items = ap (λ v. length v.items) c.replace-moved.ensures.value ∙ many.1 ∙ sym many.0 in
    omega arith

pub end_all-ended-requires-clause-own : goal.end_all-ended-requires-clause-own
end_all-ended-requires-clause-own g c =
    let p = c.args.self in
    subst (λ v. AllZip IsOwn p.sends.items v.items) (sym c.replace-moved.ensures.value)
    (still_own g.S.RowSink p.began.value.items p.hands_were.value.items p.sends.items c.args.hands.now.items c.requires.ran c.requires.begun.own)

pub end_all-ended-requires-clause-room : goal.end_all-ended-requires-clause-room
end_all-ended-requires-clause-room g c =
    let p = c.args.self in
    let b = c.requires.begun in
    let many = ran_long (Gone g.S.RowSink) p.began.value.items p.hands_were.value.items p.sends.items c.args.hands.now.items c.requires.ran in
    let fed = three_long HasBegun p.feeds_were.value.items p.sinks_were.value.items p.began.value.items b.works in
    let count : length p.sends.items ≡ length p.feeds_were.value.items = many.0 ∙ fed.1 in
    record {
      no_hands = b.room.no_hands;
      no_parts = b.room.no_parts;
      no_sinks = b.room.no_sinks;
      for_hands = let n = b.room.for_hands in omega arith;
      for_parts = let n = b.room.for_parts in omega arith;
      for_sinks = let n = b.room.for_sinks in omega arith;
    }

pub give_back-requires : goal.give_back-requires
give_back-requires g c =
    let p = c.args.self in
    let same = c.end_all-ended.ensures.parts ∙ same_keeps g.S.RowSink p.began.value.items p.hands_were.value.items p.sends.items c.args.hands.now.items c.requires.ran in
    let P : List (Option FileValue) → Type 0 = λ parts. IsToRestore (root_in p.root) p.last (lines_of c.args.stock.now) c.args.stock.now.workers parts in
    subst P (sym same) c.requires.begun.lent

pub returns-clause-sent : goal.returns-clause-sent
returns-clause-sent g c =
    let p = c.args.self in
    let b = c.requires.begun in
    let hands = c.args.hands.now.items in
    let now = c.end_all-ended.result.hands.items in
    let fs = p.feeds_were.value.items in
    let ss = p.sinks_were.value.items in
    let hs = p.hands_were.value.items in
    let ended : AllThree IsEnded p.sends.items hands now = subst (λ v. AllThree IsEnded p.sends.items v.items now) c.replace-moved.ensures.value c.end_all-ended.ensures.hands in
    flat_ok c.args.answer c.flat.result _ (HasSent g.S.RowSink fs ss hs c.end_all-ended.result.sinks.items now) c.flat.ensures
    (λ done. subst (λ took. HasSent g.S.RowSink fs ss hs took now) (sym c.end_all-ended.ensures.sinks)
    (has_sent g.S.RowSink b.rests fs ss p.began.value.items hs p.sends.items hands now b.works b.new c.requires.ran ended done)) c.requires.done

pub returns-clause-stopped : goal.returns-clause-stopped
returns-clause-stopped g c =
    let p = c.args.self in
    let b = c.requires.begun in
    let hands = c.args.hands.now.items in
    let now = c.end_all-ended.result.hands.items in
    let fs = p.feeds_were.value.items in
    let ss = p.sinks_were.value.items in
    let hs = p.hands_were.value.items in
    let ended : AllThree IsEnded p.sends.items hands now = subst (λ v. AllThree IsEnded p.sends.items v.items now) c.replace-moved.ensures.value c.end_all-ended.ensures.hands in
    flat_err c.args.answer c.flat.result (λ e. IsFaultAt (Done g.S.RowSink) (Faulted g.S.RowSink) hs p.sends.items hands e)
    (λ e. (e ≡ NoMemory) ⊎ HasStopped g.S.RowSink fs ss hs c.end_all-ended.result.sinks.items now e) c.flat.ensures
    (λ e fault. inr (subst (λ took. HasStopped g.S.RowSink fs ss hs took now e) (sym c.end_all-ended.ensures.sinks)
    (has_stopped g.S.RowSink fs ss p.began.value.items hs p.sends.items hands now e b.works b.new c.requires.ran ended fault))) (inl refl) c.requires.faulted

pub returns-clause-lines : goal.returns-clause-lines
returns-clause-lines g c =
    let p = c.args.self in
    let b = c.requires.begun in
    let parts = c.end_all-ended.result.parts.items in
    let keeps : parts ≡ map (λ (f : FeedValue). f.keeps) p.feeds_were.value.items =
    c.end_all-ended.ensures.parts ∙ same_keeps g.S.RowSink p.began.value.items p.hands_were.value.items p.sends.items c.args.hands.now.items c.requires.ran
    ∙ begun_keeps p.feeds_were.value.items p.sinks_were.value.items p.began.value.items b.works in
    let same = keeps ∙ ap (map (λ (f : FeedValue). f.keeps)) b.feeds in
    let lines = lines_of p.stock_was.value in
    let P : List (Option FileValue) → Type 0 = λ parts. IsToRestore (root_in p.root) p.last (lines_of c.args.stock.now) c.args.stock.now.workers parts in
    used lines (lines_of c.args.stock.now) (lines_of c.give_back.new.stock) (root_in p.root) p.last c.args.stock.now.workers parts b.had b.fed (subst P (sym (c.end_all-ended.ensures.parts ∙ same_keeps g.S.RowSink p.began.value.items p.hands_were.value.items p.sends.items c.args.hands.now.items c.requires.ran)) b.lent)
    (whole_again lines p.stock_was.value.workers (root_in p.root) p.last b.ops parts b.had same) c.give_back.ensures.lines

pub returns-clause-follows : goal.returns-clause-follows
returns-clause-follows g c =
    let p = c.args.self in
    let hands = c.args.hands.now.items in
    let now = c.end_all-ended.result.hands.items in
    let ended : AllThree IsEnded p.sends.items hands now = subst (λ v. AllThree IsEnded p.sends.items v.items now) c.replace-moved.ensures.value c.end_all-ended.ensures.hands in
    hands_follow p.hands_were.value.items p.sends.items hands now (ran_follow g.S.RowSink p.began.value.items p.hands_were.value.items p.sends.items hands c.requires.ran) ended

pub returns-clause-stays : goal.returns-clause-stays
returns-clause-stays g c =
    let p = c.args.self in
    subst (λ took. AllZip g.S.RowSink.stays p.sinks_were.value.items took) (sym c.end_all-ended.ensures.sinks)
    (sinks_stay g.S.RowSink p.feeds_were.value.items p.sinks_were.value.items p.began.value.items p.hands_were.value.items p.sends.items c.args.hands.now.items c.requires.begun.works c.requires.ran)
