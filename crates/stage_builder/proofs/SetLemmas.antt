-- Sets of lines.
use Rattle.std.proofs.Common.{◌≡◌, ℕ, Bool, true, false, cond, eqb, List, [], ◌∷◌, ◌++◌, Result, Ok, Err, OnOk, refl, ap, ◌∙◌, sym, subst, append_assoc}
use Rattle.std.specs.Prelude.{◌||◌}
use Rattle.script_defs.specs.Work.{has_number}
use Rattle.stage_builder.specs.Tables.{has_line, IsSetOf}

has_push : (numbers : List ℕ) (line n : ℕ) → has_number (numbers ++ line ∷ []) n ≡ cond (eqb line n) true (has_number numbers n)
has_push [] line n = elim (eqb line n) as (λ t. (t || false) ≡ cond t true false) [ true ↦ refl | false ↦ refl ]
has_push (m ∷ numbers) line n =
    elim (eqb m n) as (λ t. (t || has_number (numbers ++ line ∷ []) n) ≡ cond (eqb line n) true (t || has_number numbers n)) [
      | true ↦ elim (eqb line n) as (λ t. true ≡ cond t true true) [ true ↦ refl | false ↦ refl ]
      | false ↦ has_push numbers line n
    ]

set_push : (old new : List Bool) (numbers : List ℕ) (line : ℕ) → ((n : ℕ) → has_line new n ≡ cond (eqb line n) true (has_line old n)) → IsSetOf old numbers → IsSetOf new (numbers ++ line ∷ [])
set_push old new numbers line is set = λ n. is n ∙ ap (λ (t : Bool). cond (eqb line n) true t) (set n) ∙ sym (has_push numbers line n)

-- one line was added, and then others
pub set_more : {T E : Type 0} (r : Result T E) (old mid new : List Bool) (line : ℕ) (lines : List ℕ) → ((n : ℕ) → has_line mid n ≡ cond (eqb line n) true (has_line old n))
    → OnOk r ((numbers : List ℕ) → IsSetOf mid numbers → IsSetOf new (numbers ++ lines)) → OnOk r ((numbers : List ℕ) → IsSetOf old numbers → IsSetOf new (numbers ++ line ∷ lines))
set_more (Ok done) old mid new line lines is all = λ numbers set.
    let Set : List ℕ → Type 0 = λ xs. IsSetOf new xs in
    subst Set (append_assoc numbers (line ∷ []) lines) (all (numbers ++ line ∷ []) (set_push old mid numbers line is set))
set_more (Err e) old mid new line lines is all = tt
