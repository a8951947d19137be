-- The elements of a list in which one was set.
use Rattle.std.proofs.Common.{◌≡◌, ℕ, suc, zero, ◌<◌, List, [], ◌∷◌, length, get_or, refl, ap, arith}
use Rattle.std.proofs.Math.ListN.{set}

-- an element of a list in which one was set
pub at_set : {A : Type 0} (xs : List A) (i : ℕ) (y : A) (P : A → Type 0) (k : ℕ) (d : A) → i < length xs → (k ≡ i → P y) → (¬ (k ≡ i) → P (get_or xs k d)) → P (get_or (set xs i y) k d)
at_set [] i y P k d less here there = absurd (omega (arith, less))
at_set (x ∷ xs) zero y P zero d less here there = here refl
at_set (x ∷ xs) zero y P (suc k) d less here there = there (λ e. omega (arith, e))
at_set (x ∷ xs) (suc i) y P zero d less here there = there (λ e. omega (arith, e))
at_set (x ∷ xs) (suc i) y P (suc k) d less here there = at_set xs i y P k d (omega (arith, less)) (λ e. here (ap suc e)) (λ n. there (λ e. n (omega (arith, e))))

pub same_here : {A : Type 0} (xs : List A) (i : ℕ) (y d : A) → i < length xs → get_or (set xs i y) i d ≡ y
same_here xs i y d less = at_set xs i y (λ x. x ≡ y) i d less (λ e. refl) (λ n. absurd (n refl))

pub same_else : {A : Type 0} (xs : List A) (i : ℕ) (y : A) (k : ℕ) (d : A) → i < length xs → ¬ (k ≡ i) → get_or (set xs i y) k d ≡ get_or xs k d
same_else xs i y k d less n = at_set xs i y (λ x. x ≡ get_or xs k d) k d less (λ e. absurd (n e)) (λ m. refl)
