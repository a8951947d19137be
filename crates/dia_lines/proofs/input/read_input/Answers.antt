use Rattle.std.proofs.Common.{ℕ, List, Bool, subst}
use Rattle.std.specs.Prelude.{MatchBool}
use Rattle.dia_edge.specs.Shelves.{IsOpened, IsAbsent}
use Rattle.dia_lines.proofs.InputLemmas.{opened_took, asked_here}
use Rattle.dia_lines.proofs.input.read_input.Goals as goal

pub returns-in-Ok-true-clause-took : goal.returns-in-Ok-true-clause-took
returns-in-Ok-true-clause-took g c = λ fixed.
    let holds = g.N.Shelf.holds c.open.new.self in
    let left = g.N.Shelf.left c.open.new.self in
    let Opened : List ℕ → Type 0 = λ name. IsOpened holds name left in
    let Answer : Bool → Type 0 = λ t. MatchBool t (IsOpened holds c.text.result.now left) (IsAbsent holds c.text.result.now left) in
    opened_took g.T.LineTaker c.take_opened.result holds (g.N.Shelf.holds c.args.shelf.now) c.args.name.now left c.args.taker.now c.take_opened.new.taker
    (c.open.ensures.fixed fixed).1 (subst Opened c.text.ensures (subst Answer c.in-Ok-true.field-0-test c.in-Ok-true.ensures.answer)) c.take_opened.ensures.took

pub returns-in-Ok-true-clause-asked : goal.returns-in-Ok-true-clause-asked
returns-in-Ok-true-clause-asked g c =
    asked_here g.N.Shelf c.take_opened.result c.args.shelf.now c.open.new.self c.take_opened.new.shelf c.args.name.now (rw c.text.ensures at c.in-Ok-true.ensures.asked) c.take_opened.ensures.asked
