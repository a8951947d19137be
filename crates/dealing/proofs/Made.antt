-- Routes by what they are made of: how many positions there are, how many workers, and the position of the first row.
use Rattle.std.proofs.Common.{◌≡◌, ℕ, ◌+◌, ◌<◌, zero, suc, List, [], ◌∷◌, ◌++◌, length, subst, ◌∙◌, arith}
use Rattle.std.specs.Prelude.{⊤, ◌≤◌, slice_index_or}
use Rattle.std.proofs.Common.{sum}
use Rattle.std.proofs.lemmas.List.Sums.{sum_by-cons}
use Rattle.dia_item.specs.declared.row_ref.RowRef.{RowRef}
use Rattle.collective.specs.Shares.{HasPlace}
use Rattle.exchange.specs.Serving.{Answered}
use Rattle.dealing.specs.Routes.{IsRoute, AreRoutes}

abbrev pub AreMade : ℕ → ℕ → ℕ → List ℕ → List (ℕ × ℕ × ℕ) → Type 0
AreMade total workers from [] [] = ⊤
AreMade total workers from [] (f ∷ routes) = ⊥
AreMade total workers from (c ∷ counts) [] = ⊥
AreMade total workers from (c ∷ counts) (f ∷ routes) = (f.0 ≡ total) × (f.1 ≡ workers) × (f.2 ≡ from) × AreMade total workers (from + c) counts routes

pub made_more : (total workers from : ℕ) (counts : List ℕ) (routes : List (ℕ × ℕ × ℕ)) (c : ℕ) (f : ℕ × ℕ × ℕ) → AreMade total workers from counts routes → f.0 ≡ total → f.1 ≡ workers → f.2 ≡ from + sum counts
    → AreMade total workers from (counts ++ c ∷ []) (routes ++ f ∷ [])
made_more total workers from [] [] c f all t w s = let e : from + 0 ≡ from = omega arith in (t, w, s ∙ e, tt)
made_more total workers from (d ∷ counts) (h ∷ routes) c f all t w s =
    let more : sum (d ∷ counts) ≡ d + sum counts = sum_by-cons (λ n. n) d counts in
    let at : f.2 ≡ from + d + sum counts = omega (arith, s, more) in
    (all.0, all.1, all.2, made_more total workers (from + d) counts routes c f all.3 t w at)
made_more total workers from [] (h ∷ routes) c f all t w s = absurd all
made_more total workers from (d ∷ counts) [] c f all t w s = absurd all

-- what they answer
pub made_routes : (post : Answered (ℕ × ℕ × ℕ)) → ((f : ℕ × ℕ × ℕ) (r : RowRef) (n w : ℕ) → post f r n w → f.2 + n < f.0 → HasPlace f.0 f.1 w (f.2 + n)) → (total workers from : ℕ) (counts : List ℕ) (routes : List (ℕ × ℕ × ℕ))
    → AreMade total workers from counts routes → AreRoutes post total workers from counts routes
made_routes post answers total workers from [] [] all = tt
made_routes post answers total workers from (c ∷ counts) (f ∷ routes) all =
    let here : IsRoute post total workers from f = λ r n w p lt.
    let fits : f.2 + n < f.0 = omega (arith, lt, all.0, all.2) in
    let has : HasPlace f.0 f.1 w (f.2 + n) = answers f r n w p fits in
    subst (λ (t : ℕ). HasPlace t workers w (from + n)) all.0 (subst (λ (m : ℕ). HasPlace f.0 m w (from + n)) all.1 (subst (λ (s : ℕ). HasPlace f.0 f.1 w (s + n)) all.2 has)) in
    (here, made_routes post answers total workers (from + c) counts routes all.3)
made_routes post answers total workers from [] (f ∷ routes) all = absurd all
made_routes post answers total workers from (c ∷ counts) [] all = absurd all

-- each is made for these workers, and its rows begin no later than all end
pub made_at : (total workers from : ℕ) (counts : List ℕ) (routes : List (ℕ × ℕ × ℕ)) (k : ℕ) (d : ℕ × ℕ × ℕ) → AreMade total workers from counts routes → k < length routes
    → (slice_index_or routes k d).1 ≡ workers × (slice_index_or routes k d).2 ≤ from + sum counts
made_at total workers from [] [] k d all below = absurd (omega (arith, below))
made_at total workers from (c ∷ counts) (f ∷ routes) zero d all below = let at = all.2 in (all.1, omega (arith, at))
made_at total workers from (c ∷ counts) (f ∷ routes) (suc k) d all below =
    let more : sum (c ∷ counts) ≡ c + sum counts = sum_by-cons (λ n. n) c counts in
    let rest = made_at total workers (from + c) counts routes k d all.3 (omega (arith, below)) in
    let le = rest.1 in
    (rest.0, omega (arith, le, more))
made_at total workers from [] (f ∷ routes) k d all below = absurd all
made_at total workers from (c ∷ counts) [] k d all below = absurd all
