-- Which inputs a run asks for.
use Rattle.std.proofs.Common.{◌≡◌, ℕ, List, [], ◌∷◌, ◌++◌, refl, sym, ap, ◌∙◌, subst, append_assoc, append-nil}
use Rattle.row_defs.specs.Inputs.{Inputs}
use Rattle.script_defs.specs.Scripts.{Script}
use Rattle.script_defs.specs.Needs.{inputs_needed}
use Rattle.dia_edge.specs.Shelves.{and_asked}
use Rattle.dia_edge.specs.declared.shelf.Shelf.{Ghosts}
use Rattle.dia_edge.proofs.ShelfLemmas.{asked_then}
use Rattle.dia_lines.specs.Inputs.{AskedBut, AskedSome}
use Rattle.script_run.proofs.AskedLemmas.{asked_until}
use Rattle.thrill_top.specs.Asking.{IsScriptAt}
use Rattle.thrill_top.proofs.ScriptLemmas.{same_script}

module _ {N : Type 0} (g : Ghosts N) where
  more_names : (old now : N) (names more : List (List ℕ)) → AskedSome g old now names → AskedSome g old now (names ++ more)
  more_names old now names more p =
      (p.0 ++ more, record { done = p.1.done; parts = ap (λ (xs : List (List ℕ)). xs ++ more) p.1.parts ∙ append_assoc p.1.done p.0 more; is = p.1.is })

  -- a script ----------------------------------------------------------------------------------------------------------

  -- the script wasn't read
  pub script_unread : (old now : N) (name : List ℕ) (needed : List (List ℕ)) → AskedSome g old now (name ∷ []) → AskedSome g old now (name ∷ needed)
  script_unread old now name needed p = more_names old now (name ∷ []) needed p

  -- it was, and nothing else
  pub script_alone : (old now : N) (name : List ℕ) (needed : List (List ℕ)) → g.asked now ≡ and_asked (g.asked old) (name ∷ []) → AskedSome g old now (name ∷ needed)
  script_alone old now name needed is = (needed, record { done = name ∷ []; parts = refl; is = is })

  -- and then its inputs
  pub script_whole : (inputs : Inputs) (name : List ℕ) (mine script : Script) (old mid now : N) → IsScriptAt inputs name mine → IsScriptAt inputs name script
      → g.asked mid ≡ and_asked (g.asked old) (name ∷ []) → g.asked now ≡ and_asked (g.asked mid) (inputs_needed mine) → g.asked now ≡ and_asked (g.asked old) (name ∷ inputs_needed script)
  script_whole inputs name mine script old mid now read at first then =
      let Is : Script → Type 0 = λ s. g.asked now ≡ and_asked (g.asked old) (name ∷ inputs_needed s) in
      subst Is (same_script inputs name mine script read at) (asked_then (g.asked old) (g.asked mid) (g.asked now) (name ∷ []) (inputs_needed mine) first then)

  pub script_cut : (inputs : Inputs) (name : List ℕ) (mine script : Script) (old mid now : N) → IsScriptAt inputs name mine → IsScriptAt inputs name script
      → g.asked mid ≡ and_asked (g.asked old) (name ∷ []) → AskedSome g mid now (inputs_needed mine) → AskedSome g old now (name ∷ inputs_needed script)
  script_cut inputs name mine script old mid now read at first then =
      let Is : Script → Type 0 = λ s. AskedSome g old now (name ∷ inputs_needed s) in
      let whole : List (List ℕ) = name ∷ inputs_needed mine in
      let begun : AskedBut g old mid whole (inputs_needed mine) = record { done = name ∷ []; parts = refl; is = first } in
      let But : List (List ℕ) → Type 0 = λ xs. AskedBut g old mid whole xs in
      subst Is (same_script inputs name mine script read at)
      (asked_until g old mid now whole (inputs_needed mine) [] (subst But (sym (append-nil (inputs_needed mine))) begun) then)
