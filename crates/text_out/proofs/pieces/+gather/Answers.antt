use Rattle.std.proofs.Common.{ℕ, List, ◌++◌, ◌+◌, length, take, ap, sym, ◌∙◌}
use Rattle.std.proofs.Math.Seq.{take-append-add}
use Rattle.std.specs.Borrow.{Bor}
use Rattle.std.specs.List.{flat_map}
use Rattle.text_out.proofs.pieces.+gather.Goals as goal

pub returns-clause-bytes : goal.returns-clause-bytes
returns-clause-bytes t c =
    let piece = c.in-Some.piece.now.now in
    let behind = c.in_ok-behind.behind in
    ap (λ (xs : List ℕ). take (length piece + behind) (xs ++ c.gather.new.into)) c.copy_from_slice.ensures.after
    ∙ take-append-add piece c.gather.new.into behind
    ∙ ap (λ (xs : List ℕ). piece ++ xs) c.in_ok-behind.ensures.bytes
    ∙ sym (ap (λ (ps : List (Bor (List ℕ))). flat_map (λ (p : Bor (List ℕ)). p.now) ps) c.in-Some.ensures.cases.0)
