-- Folds of parts and in another order.
use Rattle.std.proofs.Common.{◌≡◌, ℕ, zero, suc, ◌<◌, List, [], ◌∷◌, ◌++◌, length, get_or, set, swap, fold, Some, refl, sym, ap, ◌∙◌, arith, IsPermutation}
use Rattle.std.proofs.lemmas.List.{append-nil}
use Rattle.std.proofs.lemmas.List.Sums.{fold-append}
use Rattle.std.proofs.lemmas.List.Sorted.{IsPermutation-keeps}
use Rattle.fold_defs.specs.Folds.{folded, joined}

-- A relation holds along each permutation if it is reflexive and transitive, and goes under a head and over an exchange of two heads.
module _ {X : Type 0} (R : List X → List X → Type 0) (same : (xs : List X) → R xs xs)
    (skip : (x : X) (xs ys : List X) → R xs ys → R (x ∷ xs) (x ∷ ys))
    (turn : (x y : X) (xs : List X) → R (x ∷ y ∷ xs) (y ∷ x ∷ xs))
    (chain : (xs ys zs : List X) → R xs ys → R ys zs → R xs zs) where
  to_head : (l : List X) (j : ℕ) (x d : X) → j < length l → R (x ∷ l) (get_or l j d ∷ set l j x)
  to_head [] j x d h = absurd (omega arith)
  to_head (y ∷ l) zero x d h = turn x y l
  to_head (y ∷ l) (suc j) x d h =
      chain _ _ _ (turn x y l) (chain _ _ _ (skip y _ _ (to_head l j x d (omega arith))) (turn y (get_or l j d) (set l j x)))

  exchanged : (l : List X) (i j : ℕ) (d : X) → i < length l → j < length l → R l (set (set l i (get_or l j d)) j (get_or l i d))
  exchanged [] i j d p q = absurd (omega arith)
  exchanged (x ∷ l) zero zero d p q = same (x ∷ l)
  exchanged (x ∷ l) zero (suc j) d p q = to_head l j x d (omega arith)
  exchanged (x ∷ l) (suc i) zero d p q = to_head l i x d (omega arith)
  exchanged (x ∷ l) (suc i) (suc j) d p q = skip x _ _ (exchanged l i j d (omega arith) (omega arith))

  swapped : (l : List X) (i j : ℕ) → i < length l → j < length l → R l (swap l i j)
  swapped [] i j p q = same []
  swapped (x ∷ l) i j p q = exchanged (x ∷ l) i j x p q

  pub along_permutation : (xs ys : List X) → IsPermutation xs ys → R xs ys
  along_permutation xs = IsPermutation-keeps xs (R xs) (same xs) (λ l i j p q h. chain xs l _ h (swapped l i j p q))

module _ {X : Type 0} (f : X → X → X) (assoc : (a b c : X) → f (f a b) c ≡ f a (f b c)) where
  shift : (xs : List X) (a x : X) → fold f (f a x) xs ≡ f a (fold f x xs)
  shift [] a x = refl
  shift (y ∷ ys) a x = ap (λ z. fold f z ys) (assoc a x y) ∙ shift ys a (f x y)

  -- folds of two parts come to the fold of the whole
  pub folded-append : (xs ys : List X) → folded f (xs ++ ys) ≡ joined f (folded f xs) (folded f ys)
  folded-append [] ys = refl
  folded-append (x ∷ xs) [] = ap (λ l. Some (fold f x l)) (append-nil xs)
  folded-append (x ∷ xs) (y ∷ ys) = ap Some (fold-append f x xs (y ∷ ys) ∙ shift ys (fold f x xs) y)

  module _ (comm : (a b : X) → f a b ≡ f b a) where
    -- the order doesn't matter
    pub folded-permutation : (xs ys : List X) → IsPermutation xs ys → folded f xs ≡ folded f ys
    folded-permutation = along_permutation (λ xs ys. folded f xs ≡ folded f ys)
        (λ xs. refl)
        (λ x xs ys h. folded-append (x ∷ []) xs ∙ ap (joined f (Some x)) h ∙ sym (folded-append (x ∷ []) ys))
        (λ x y xs. ap (λ z. Some (fold f z xs)) (comm x y))
        (λ xs ys zs h k. h ∙ k)
