-- Blocks that stay, or that are freed once their rows were read.
use Rattle.std.proofs.Common.{◌≡◌, List, [], ◌∷◌, ◌++◌, refl, sym, ap, subst, ◌∙◌, append_assoc}
use Rattle.block_pool.specs.Handles.{PoolName}
use Rattle.dia_file.specs.declared.sealed.Sealed.{Sealed}
use Rattle.dia_file.specs.declared.place.After.{After}
use Rattle.dia_file.specs.declared.place.After.TheVariants.{Keep, Free}
use Rattle.dia_file.specs.Frames.{IsSealedIn, AllSealedIn}
use Rattle.dia_file.specs.Places.{left_of, Leaves}

pub leaves_same : (k : After) (xs ys : List Sealed) → ys ≡ xs → Leaves k xs ys
leaves_same Keep xs ys e = e
leaves_same Free xs ys e = ([], sym e)

pub leaves_trans : (k : After) (xs ys zs : List Sealed) → Leaves k xs ys → Leaves k ys zs → Leaves k xs zs
leaves_trans Keep xs ys zs p q = q ∙ p
leaves_trans Free xs ys zs p q = (p.0 ++ q.0, p.1 ∙ ap (λ (bs : List Sealed). p.0 ++ bs) q.1 ∙ sym (append_assoc p.0 q.0 zs))

pub leaves_between : (k : After) (xs ys us vs : List Sealed) → xs ≡ us → ys ≡ vs → Leaves k us vs → Leaves k xs ys
leaves_between k xs ys us vs p q h = subst (λ (l : List Sealed). Leaves k l ys) (sym p) (subst (λ (l : List Sealed). Leaves k us l) (sym q) h)

-- one block stays behind, or is freed where none stand behind
pub leaves_one :
    (k : After) (behind ahead : List Sealed) (s : Sealed) → (k ≡ Free → behind ≡ [])
    → Leaves k (behind ++ (s ∷ ahead)) ((behind ++ left_of k s) ++ ahead)
leaves_one Keep behind ahead s none = append_assoc behind (s ∷ []) ahead
leaves_one Free behind ahead s none =
    let e : behind ≡ [] = none refl in
    (s ∷ [], subst (λ (xs : List Sealed). xs ++ (s ∷ ahead) ≡ s ∷ ((xs ++ []) ++ ahead)) (sym e) refl)

pub left_none : (k : After) (behind : List Sealed) (s : Sealed) → (k ≡ Free → behind ≡ []) → k ≡ Free → behind ++ left_of k s ≡ []
left_none Keep behind s none frees = absurd (cc)
left_none Free behind s none frees = ap (λ (xs : List Sealed). xs ++ []) (none frees)

pub left_sealed : (pool : PoolName) (k : After) (s : Sealed) → IsSealedIn pool s → AllSealedIn pool (left_of k s)
left_sealed pool Keep s h = (h, tt)
left_sealed pool Free s h = tt
