use Rattle.std.proofs.Common.{◌≡◌, None, Some, Err, true, false, refl, sym, ap, subst, ◌∙◌, arith, rules}
use Rattle.dia_item.specs.KindList.{kind_list}
use Rattle.block_pool.specs.Handles.{PoolName}
use Rattle.dia_file.specs.declared.place.Place.{Place}
use Rattle.dia_file.specs.declared.consume.ConsumeReader.TheInside.{Inside}
use Rattle.dia_file.specs.Places.{at_spot, Tells}
use Rattle.dia_file.specs.Readers.{StaysAt}
use Rattle.dia_file.specs.Consumers.{ConsumerValue, consumer_value, spot}
use Rattle.dia_file.proofs.ReaderLemmas.{placed_at, same_pool, moved_keeps, moved_stays, moved_end, readied, GivenAt, pins_le, on_false}
use Rattle.dia_file.proofs.Draining.{moved_to, own_items, consumer_moved, no_blocks, drains, Arrived, arrived, stood, consumer_after, gave_on, missed_on}
use Rattle.dia_file.proofs.consume.ConsumeReader.next.Goals as goal
use Rattle.dia_file.proofs.consume.ConsumeReader.next.Goals.{then-self-eq0+in_ok-more+else-not-more, else-self-eq0}

pub ready-requires-clause-placed : goal.ready-requires-clause-placed
ready-requires-clause-placed g c =
    let w : Inside = c.self.inside in
    let own = own_items w c.args.self.now c.args.hand.now.pool c.self.view_is c.requires.own in
    placed_at c.self.invariant.reading.pool c.args.hand.now.pool (spot w) c.self.invariant.reading.placed own

pub ready-requires-clause-told : goal.ready-requires-clause-told
ready-requires-clause-told g c = λ some.
    let w : Inside = c.self.inside in
    let own = own_items w c.args.self.now c.args.hand.now.pool c.self.view_is c.requires.own in
    let P : PoolName → Type 0 = λ x. Tells (kind_list w.kinds) x (spot w) in
    subst P (same_pool c.self.invariant.reading.pool c.args.hand.now.pool (spot w) c.self.invariant.reading.placed own some) c.self.invariant.reading.told

pub invariant_of-self : goal.invariant_of-self
invariant_of-self g c =
    let w : Inside = c.self.inside in
    let pool : PoolName = c.args.hand.now.pool in
    let p : Place = c.ready.new.place in
    let own = own_items w c.args.self.now pool c.self.view_is c.requires.own in
    let r = c.ready.ensures in
    let reading = moved_keeps (kind_list w.kinds) (spot w) pool p c.ready.new.at c.ready.new.here c.ready.new.kept c.self.invariant.reading own r.placed r.moved r.still c.in_err-more.ensures.read in
    consumer_moved w pool p _ _ _ _ _ _ c.self.invariant r.moved reading

pub returns-in_err-more : goal.returns-in_err-more
returns-in_err-more g c =
    let w : Inside = c.self.inside in
    let pool : PoolName = c.args.hand.now.pool in
    let p : Place = c.ready.new.place in
    let own = own_items w c.args.self.now pool c.self.view_is c.requires.own in
    let r = c.ready.ensures in
    let reading = moved_keeps (kind_list w.kinds) (spot w) pool p c.ready.new.at c.ready.new.here c.ready.new.kept c.self.invariant.reading own r.placed r.moved r.still c.in_err-more.ensures.read in
    let pinned = ap (λ (x : ConsumerValue). x.pinned) c.self.view_is in
    let permits = r.permits in
    let drained = drains w c.args.self.now c.args.hand.now c.ready.new.hand p c.ready.new.at c.ready.new.here c.ready.new.kept c.ready.new.at c.ready.new.here c.ready.new.kept c.self.view_is c.self.invariant c.requires.own r.moved reading permits r.gone r.follows in
    let Stays : ConsumerValue → Type 0 = λ x. StaysAt pool x.left (consumer_value (moved_to w p c.ready.new.at c.ready.new.here c.ready.new.kept)).left in
    let stays = subst Stays c.self.view_is (moved_stays (kind_list w.kinds) (spot w) pool p c.ready.new.at c.ready.new.here c.ready.new.kept c.self.invariant.reading own r.moved r.still) in
    let refusal = c.in_err-more.field-0.0 in
    let same : c.from_residual.result ≡ Err refusal = search rules in
    rw same ((refl, λ _. tt, (tt, stays, drained)), record { refused = c.in_err-more.ensures.refused; room = omega (arith, permits, pinned, pins_le p.shown); follows = r.follows; after = tt })

pub invariant_of-self-then-not-more : goal.invariant_of-self-then-not-more
invariant_of-self-then-not-more g c =
    let w : Inside = c.self.inside in
    let pool : PoolName = c.args.hand.now.pool in
    let p : Place = c.ready.new.place in
    let own = own_items w c.args.self.now pool c.self.view_is c.requires.own in
    let r = c.ready.ensures in
    let no : c.in_ok-more.more ≡ false = search rules in
    let end = on_false ((p.ahead ≡ 0) × (c.ready.new.here ≡ 0) × (p.shown ≡ None)) c.in_ok-more.more no c.in_ok-more.ensures.end in
    let reading = moved_keeps (kind_list w.kinds) (spot w) pool p c.ready.new.at c.ready.new.here c.ready.new.kept c.self.invariant.reading own r.placed r.moved r.still end.1 in
    consumer_moved w pool p _ _ _ _ _ _ c.self.invariant r.moved reading

pub returns-then-not-more : goal.returns-then-not-more
returns-then-not-more g c =
    let w : Inside = c.self.inside in
    let pool : PoolName = c.args.hand.now.pool in
    let p : Place = c.ready.new.place in
    let own = own_items w c.args.self.now pool c.self.view_is c.requires.own in
    let r = c.ready.ensures in
    let no : c.in_ok-more.more ≡ false = search rules in
    let end = on_false ((p.ahead ≡ 0) × (c.ready.new.here ≡ 0) × (p.shown ≡ None)) c.in_ok-more.more no c.in_ok-more.ensures.end in
    let reading = moved_keeps (kind_list w.kinds) (spot w) pool p c.ready.new.at c.ready.new.here c.ready.new.kept c.self.invariant.reading own r.placed r.moved r.still end.1 in
    let pinned = ap (λ (x : ConsumerValue). x.pinned) c.self.view_is in
    let permits = r.permits in
    let drained = drains w c.args.self.now c.args.hand.now c.ready.new.hand p c.ready.new.at c.ready.new.here c.ready.new.kept c.ready.new.at c.ready.new.here c.ready.new.kept c.self.view_is c.self.invariant c.requires.own r.moved reading permits r.gone r.follows in
    let none = moved_end (kind_list w.kinds) (spot w) pool p c.ready.new.at c.ready.new.here c.ready.new.kept r.moved end.0 end.1 in
    let before = ap (λ (x : ConsumerValue). x.left) c.self.view_is in
    ((refl, λ _. tt, ((tt, (sym before ∙ none.0, none.1, no_blocks pool (at_spot p c.ready.new.at c.ready.new.here c.ready.new.kept) r.placed (r.moved.after ∙ c.self.invariant.frees) end.0 end.2)), tt, drained)), record { refused = tt; room = omega (arith, permits, pinned, pins_le p.shown); follows = r.follows; after = tt })

pub invariant_of-self-2 : goal.invariant_of-self-2
invariant_of-self-2 g c =
    let w : Inside = c.self.inside in
    let v : Inside = c.if-self-eq0.self-inside in
    let first = c.args.hand.now in
    let last = c.if-self-eq0.hand in
    let own = own_items w c.args.self.now first.pool c.self.view_is c.requires.own in
    let there : Arrived w v first last =
    elim c.if-self-eq0.branch [
      | then-self-eq0+in_ok-more+else-not-more x ↦
          let r = x.ready.ensures in
          let yes : x.in_ok-more.more ≡ true = search rules in
          let ready = readied (kind_list w.kinds) (spot w) first.pool x.ready.new.place x.ready.new.at x.ready.new.here x.ready.new.kept x.in_ok-more.more c.self.invariant.reading own r.placed r.moved r.still x.in_ok-more.ensures.more yes in
          arrived w v first x.ready.new.hand last x.ready.new.place x.ready.new.at x.ready.new.here x.ready.new.kept x.self-inside-is x.hand-is ready r.permits r.gone r.follows
      | else-self-eq0 x ↦ stood w v first last x.self-inside-is x.hand-is c.self.invariant.reading own (omega (arith, x.if-self-eq0.false))
    ] in
    let e = c.give.ensures in
    let given : GivenAt (kind_list v.kinds) (spot v) c.give.result c.give.new.at c.give.new.here c.give.new.kept = record { within = e.within; kept = e.kept; reads = e.reads; are = e.are; some = e.some; none = e.none; stays = e.stays } in
    consumer_after w v first last c.give.result c.give.new.at c.give.new.here c.give.new.kept c.self.invariant there given

pub returns-in-Some : goal.returns-in-Some
returns-in-Some g c =
    let w : Inside = c.self.inside in
    let v : Inside = c.if-self-eq0.self-inside in
    let first = c.args.hand.now in
    let last = c.if-self-eq0.hand in
    let own = own_items w c.args.self.now first.pool c.self.view_is c.requires.own in
    let there : Arrived w v first last =
    elim c.if-self-eq0.branch [
      | then-self-eq0+in_ok-more+else-not-more x ↦
          let r = x.ready.ensures in
          let yes : x.in_ok-more.more ≡ true = search rules in
          let ready = readied (kind_list w.kinds) (spot w) first.pool x.ready.new.place x.ready.new.at x.ready.new.here x.ready.new.kept x.in_ok-more.more c.self.invariant.reading own r.placed r.moved r.still x.in_ok-more.ensures.more yes in
          arrived w v first x.ready.new.hand last x.ready.new.place x.ready.new.at x.ready.new.here x.ready.new.kept x.self-inside-is x.hand-is ready r.permits r.gone r.follows
      | else-self-eq0 x ↦ stood w v first last x.self-inside-is x.hand-is c.self.invariant.reading own (omega (arith, x.if-self-eq0.false))
    ] in
    let e = c.give.ensures in
    let s = c.in-Some.ensures in
    let given : GivenAt (kind_list v.kinds) (spot v) (Some c.in-Some.row) c.give.new.at c.give.new.here c.give.new.kept = record { within = e.within; kept = e.kept; reads = s.reads; are = s.are; some = s.some; none = tt; stays = tt } in
    let on = gave_on w v c.args.self.now first last c.in-Some.row c.give.new.at c.give.new.here c.give.new.kept c.self.view_is c.self.invariant c.requires.own there given in
    ((refl, λ _. tt, (((on.gives, on.one), tt), tt, on.drained)), record { refused = tt; room = on.room; follows = there.follows; after = tt })

pub returns-in-None : goal.returns-in-None
returns-in-None g c =
    let w : Inside = c.self.inside in
    let v : Inside = c.if-self-eq0.self-inside in
    let first = c.args.hand.now in
    let last = c.if-self-eq0.hand in
    let own = own_items w c.args.self.now first.pool c.self.view_is c.requires.own in
    let there : Arrived w v first last =
    elim c.if-self-eq0.branch [
      | then-self-eq0+in_ok-more+else-not-more x ↦
          let r = x.ready.ensures in
          let yes : x.in_ok-more.more ≡ true = search rules in
          let ready = readied (kind_list w.kinds) (spot w) first.pool x.ready.new.place x.ready.new.at x.ready.new.here x.ready.new.kept x.in_ok-more.more c.self.invariant.reading own r.placed r.moved r.still x.in_ok-more.ensures.more yes in
          arrived w v first x.ready.new.hand last x.ready.new.place x.ready.new.at x.ready.new.here x.ready.new.kept x.self-inside-is x.hand-is ready r.permits r.gone r.follows
      | else-self-eq0 x ↦ stood w v first last x.self-inside-is x.hand-is c.self.invariant.reading own (omega (arith, x.if-self-eq0.false))
    ] in
    let e = c.give.ensures in
    let n = c.in-None.ensures in
    let given : GivenAt (kind_list v.kinds) (spot v) None c.give.new.at c.give.new.here c.give.new.kept = record { within = e.within; kept = e.kept; reads = tt; are = tt; some = tt; none = n.none; stays = n.stays } in
    let on = missed_on w v c.args.self.now first last c.give.new.at c.give.new.here c.give.new.kept c.self.view_is c.self.invariant c.requires.own there given in
    ((refl, λ _. tt, (tt, on.stays, on.drained)), record { refused = on.untold; room = on.room; follows = there.follows; after = tt })
