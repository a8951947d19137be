use Rattle.std.proofs.Common.{rules}
use Rattle.mix_stream.specs.Streams.{reading_of, Gives}
use Rattle.mix_stream.proofs.Moved.{gives_next, next_then}
use Rattle.mix_stream.proofs.moves.advance.Goals as goal

pub returns-in-Some-clause-some : goal.returns-in-Some-clause-some
returns-in-Some-clause-some g c =
    let pool = c.args.hand.now.pool in
    let s = c.loop-place.stream in
    let gives : Gives s c.in-Some.place c.find.new.stream = search rules in
    next_then pool (reading_of c.args.stream.now) (reading_of s) c.in-Some.place c.find.new.stream c.loop-place.invariant.moved (gives_next pool s c.in-Some.place c.find.new.stream gives)
