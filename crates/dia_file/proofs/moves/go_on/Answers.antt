use Rattle.std.proofs.Common.{◌≤◌, refl, arith, length}
use Rattle.dia_file.proofs.Gathering.{refilled, kept_again}
use Rattle.dia_file.proofs.moves.go_on.Goals as goal

pub returns-then-kept-gt0-clause-moved : goal.returns-then-kept-gt0-clause-moved
returns-then-kept-gt0-clause-moved g c =
    let p = c.turn-turned.new.place in
    let ok = p.buffer.ok in
    let within : p.kept ≤ length p.buffer.items = omega (arith, c.turn-turned.ensures.placed.kept, ok) in
    refilled _ _ _ p _ c.turn-turned.ensures.moved refl refl refl refl refl refl (kept_again p.kept p.buffer.items c.fill.new.buffer.items _ within c.fill.ensures.items)
