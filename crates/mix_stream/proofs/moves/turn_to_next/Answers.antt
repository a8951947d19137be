use Rattle.std.proofs.Common.{◌≡◌, None, Err, rules, ap, ◌∙◌}
use Rattle.mix_stream.specs.Streams.{reading_of}
use Rattle.mix_stream.specs.Moving.{IsReady}
use Rattle.mix_stream.specs.declared.stream.Stream.{Stream}
use Rattle.mix_stream.proofs.Turning.{chosen_inside, chosen_moved, chosen_own, chosen_drains, choice_refuses, refused_moved, refused_drains, opened_drains, pool_of_first}
use Rattle.mix_stream.proofs.Opened.{opened_moved}
use Rattle.mix_stream.proofs.Moved.{moved_then}
use Rattle.mix_stream.proofs.Drained.{drains_then, pin_refuses, refuses_then}
use Rattle.mix_stream.proofs.moves.turn_to_next.Goals as goal

pub returns-in_err-choose-clause-moved : goal.returns-in_err-choose-clause-moved
returns-in_err-choose-clause-moved g c = chosen_moved c.args.hand.now.pool c.args.stream.now c.close.new.stream c.choose.new.stream c.requires.read c.close.ensures.stream c.choose.ensures.chosen

pub returns-in_err-choose-clause-drains : goal.returns-in_err-choose-clause-drains
returns-in_err-choose-clause-drains g c =
    let e = c.close.ensures in
    chosen_drains c.args.hand.now c.close.new.hand c.args.stream.now c.close.new.stream c.choose.new.stream c.requires.own e.stream c.choose.ensures.chosen e.permits e.gone e.made e.follows

pub returns-in_err-choose-clause-refused : goal.returns-in_err-choose-clause-refused
returns-in_err-choose-clause-refused g c =
    let same : c.from_residual.result ≡ Err c.in_err-choose.field-0.0 = search rules in
    rw same (choice_refuses c.args.hand.now c.close.new.hand c.args.stream.now c.close.new.stream c.in_err-choose.field-0.0 c.requires.read c.close.ensures.stream c.close.ensures.follows c.in_err-choose.ensures.refused)

pub open_first-requires-clause-own : goal.open_first-requires-clause-own
open_first-requires-clause-own g c =
    chosen_own c.args.hand.now c.close.new.hand c.args.stream.now c.close.new.stream c.choose.new.stream c.requires.own c.close.ensures.stream c.choose.ensures.chosen c.close.ensures.follows

pub returns-in_err-open_first-clause-moved : goal.returns-in_err-open_first-clause-moved
returns-in_err-open_first-clause-moved g c =
    let first = chosen_moved c.args.hand.now.pool c.args.stream.now c.close.new.stream c.choose.new.stream c.requires.read c.close.ensures.stream c.choose.ensures.chosen in
    let same = c.in_err-open_first.ensures.same in
    refused_moved c.args.hand.now.pool (reading_of c.args.stream.now) c.choose.new.stream c.open_first.new.stream first same.0 same.1

pub returns-in_err-open_first-clause-drains : goal.returns-in_err-open_first-clause-drains
returns-in_err-open_first-clause-drains g c =
    let s = c.args.stream.now in
    let u = c.choose.new.stream in
    let a = c.args.hand.now in
    let b = c.close.new.hand in
    let e = c.close.ensures in
    let o = c.open_first.ensures in
    let same = c.in_err-open_first.ensures.same in
    let own = chosen_own a b s c.close.new.stream u c.requires.own e.stream c.choose.ensures.chosen e.follows in
    let hidden : u.shown ≡ None = c.choose.ensures.chosen.shown ∙ ap (λ (x : Stream). x.shown) e.stream in
    drains_then a b c.open_first.new.hand (reading_of s) (reading_of u) (reading_of c.open_first.new.stream)
    (chosen_drains a b s c.close.new.stream u c.requires.own e.stream c.choose.ensures.chosen e.permits e.gone e.made e.follows)
    (refused_drains b c.open_first.new.hand u c.open_first.new.stream hidden own same.0 same.1 o.permits o.tally o.follows)

pub returns-in_err-open_first-clause-refused : goal.returns-in_err-open_first-clause-refused
returns-in_err-open_first-clause-refused g c =
    let same : c.from_residual-in_err-open_first.result ≡ Err c.in_err-open_first.field-0.0 = search rules in
    let s = c.args.stream.now in
    let u = c.choose.new.stream in
    let first = chosen_moved c.args.hand.now.pool s c.close.new.stream u c.requires.read c.close.ensures.stream c.choose.ensures.chosen in
    let refusal = c.in_err-open_first.field-0.0 in
    rw same (refuses_then c.args.hand.now c.close.new.hand c.open_first.new.hand (reading_of s) (reading_of u) refusal c.close.ensures.follows first
    (pin_refuses c.close.new.hand c.open_first.new.hand (reading_of u) refusal c.in_err-open_first.ensures.refused))

pub returns-clause-moved : goal.returns-clause-moved
returns-clause-moved g c =
    let pool = c.args.hand.now.pool in
    let s = c.args.stream.now in
    let k = c.close.new.stream in
    let u = c.choose.new.stream in
    let v = c.open_first.new.stream in
    let is = c.close.ensures.stream in
    let h = c.choose.ensures.chosen in
    let ready : IsReady u = search rules in
    let own = pool_of_first c.close.new.hand.pool u ready (chosen_own c.args.hand.now c.close.new.hand s k u c.requires.own is h c.close.ensures.follows) ∙ c.close.ensures.follows.pool in
    moved_then pool (reading_of s) (reading_of u) (reading_of v) (chosen_moved pool s k u c.requires.read is h)
    (opened_moved pool u v (chosen_inside s k u c.requires.inside is h) (h.shown ∙ ap (λ (x : Stream). x.shown) is) (h.at ∙ ap (λ (x : Stream). x.at) is) ready own c.in_ok-open_first.ensures.opened)

pub returns-clause-drains : goal.returns-clause-drains
returns-clause-drains g c =
    let s = c.args.stream.now in
    let u = c.choose.new.stream in
    let a = c.args.hand.now in
    let b = c.close.new.hand in
    let e = c.close.ensures in
    let o = c.open_first.ensures in
    let own = chosen_own a b s c.close.new.stream u c.requires.own e.stream c.choose.ensures.chosen e.follows in
    let hidden : u.shown ≡ None = c.choose.ensures.chosen.shown ∙ ap (λ (x : Stream). x.shown) e.stream in
    drains_then a b c.open_first.new.hand (reading_of s) (reading_of u) (reading_of c.open_first.new.stream)
    (chosen_drains a b s c.close.new.stream u c.requires.own e.stream c.choose.ensures.chosen e.permits e.gone e.made e.follows)
    (opened_drains b c.open_first.new.hand u c.open_first.new.stream hidden own c.in_ok-open_first.ensures.opened o.permits o.tally o.follows)
