use Rattle.std.proofs.Common.{List, ℕ, Bool, subst, ◌∙◌}
use Rattle.std.specs.Prelude.{MatchBool}
use Rattle.dia_edge.specs.Shelves.{IsOpened, IsAbsent}
use Rattle.thrill_top.proofs.ReadLemmas.{opened_bytes}
use Rattle.thrill_top.proofs.read.read_bytes.Goals as goal

pub returns-in-Ok-true-clause-bytes : goal.returns-in-Ok-true-clause-bytes
returns-in-Ok-true-clause-bytes g c = λ inputs tells.
    let same = c.open.ensures.fixed tells.1 in
    let holds = g.N.Shelf.holds c.open.new.self in
    let left = g.N.Shelf.left c.open.new.self in
    let Opened : List ℕ → Type 0 = λ name. IsOpened holds name left in
    let Answer : Bool → Type 0 = λ t. MatchBool t (IsOpened holds c.text.result.now left) (IsAbsent holds c.text.result.now left) in
    opened_bytes c.read_opened.result _ holds left inputs c.args.name.now
    (same.1 ∙ tells.0) (subst Opened c.text.ensures (subst Answer c.in-Ok-true.field-0-test c.in-Ok-true.ensures.answer)) c.read_opened.ensures.bytes
