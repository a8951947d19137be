-- Which inputs a run asks for, call after call.
use Rattle.std.proofs.Common.{◌≡◌, ℕ, List, [], ◌++◌, refl, sym, ap, ◌∙◌, subst, append_assoc, append-nil}
use Rattle.dia_edge.specs.Shelves.{and_asked}
use Rattle.dia_edge.specs.declared.shelf.Shelf.{Ghosts}
use Rattle.dia_edge.proofs.ShelfLemmas.{asked_none, asked_then}
use Rattle.dia_lines.specs.Inputs.{AskedBut, AskedSome}

module _ {N : Type 0} (g : Ghosts N) where
  pub asked_no_one : (old now : N) (names : List (List ℕ)) → g.asked now ≡ g.asked old → AskedBut g old now names names
  asked_no_one old now names same = record { done = []; parts = refl; is = same ∙ asked_none (g.asked old) }

  pub asked_next : (old mid now : N) (names more left : List (List ℕ)) → AskedBut g old mid names (more ++ left) → g.asked now ≡ and_asked (g.asked mid) more → AskedBut g old now names left
  asked_next old mid now names more left p q = record {
    done = p.done ++ more;
    parts = p.parts ∙ sym (append_assoc p.done more left);
    is = asked_then (g.asked old) (g.asked mid) (g.asked now) p.done more p.is q;
  }

  pub asked_until : (old mid now : N) (names more left : List (List ℕ)) → AskedBut g old mid names (more ++ left) → AskedSome g mid now more → AskedSome g old now names
  asked_until old mid now names more left p q =
      let But : List (List ℕ) → Type 0 = λ xs. AskedBut g old mid names xs in
      let parts = ap (λ (xs : List (List ℕ)). xs ++ left) q.1.parts ∙ append_assoc q.1.done q.0 left in
      (q.0 ++ left, asked_next old mid now names q.1.done (q.0 ++ left) (subst But parts p) q.1.is)

  pub asked_all : (old now : N) (names : List (List ℕ)) → AskedBut g old now names [] → g.asked now ≡ and_asked (g.asked old) names
  asked_all old now names p = p.is ∙ ap (λ (xs : List (List ℕ)). and_asked (g.asked old) xs) (sym (append-nil p.done) ∙ sym p.parts)
