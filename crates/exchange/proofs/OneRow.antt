-- One row that is dealt out.
use Rattle.std.proofs.Common.{◌≡◌, ◌≢◌, ℕ, ◌+◌, ◌==◌, if◌then◌else◌, Bool, true, false, List, [], ◌∷◌, ◌++◌, refl, sym, ap, ◌∙◌, append-nil, eq-eqb, arith}
use Rattle.std.proofs.lemmas.Bool.{eqb-true}
use Rattle.row_defs.specs.Rows.{Row}
use Rattle.dia_file.specs.Encoding.{spelled, encoded}
use Rattle.exchange.specs.Deals.{Dealt}

by_test :
    (before after : ℕ → List ℕ) (w v : ℕ) (row : Row) (b : Bool) → w == v ≡ b → after w ≡ before w ++ spelled row → (v ≢ w → after v ≡ before v)
    → after v ≡ before v ++ encoded (if b then row ∷ [] else [])
by_test before after w v row true e here other =
    let same : w ≡ v = eqb-true w v e in
    ap after (sym same) ∙ here ∙ ap (λ (u : ℕ). before u ++ spelled row) same ∙ ap (λ (xs : List ℕ). before v ++ xs) (sym (append-nil (spelled row)))
by_test before after w v row false e here other =
    other (λ same. absurd (let t = eq-eqb w v (sym same) in cc (t, e))) ∙ sym (append-nil (before v))

pub dealt_one :
    (answers : Row → ℕ → ℕ → Type 0) (n m w : ℕ) (row : Row) (before after : ℕ → List ℕ) → answers row n w → m ≡ n + 1
    → after w ≡ before w ++ spelled row → ((v : ℕ) → v ≢ w → after v ≡ before v) → Dealt answers n before (row ∷ []) m after
dealt_one answers n m w row before after routed count here others = record {
  to = w ∷ [];
  routed = (w, [], routed, refl, refl);
  bytes = λ v. by_test before after w v row (w == v) refl here (others v);
  count = omega (arith, count);
}
