-- Tasks each of which follows what it was.
use Rattle.std.proofs.Common.{◌≡◌, ℕ, suc, zero, ◌<◌, List, [], ◌∷◌, length, get_or, subst, arith}
use Rattle.std.proofs.Math.ListN.{set}
use Rattle.std.specs.List.{AllZip}

module _ {T : Type 0} (follows : T → T → Type 0) (same : (t : T) → follows t t) where
  pub all_follow : (ts : List T) → AllZip follows ts ts
  all_follow [] = tt
  all_follow (t ∷ ts) = (same t, all_follow ts)

  pub follow_set : (ts : List T) (i : ℕ) (x y : T) → i < length ts → x ≡ get_or ts i x → follows x y → AllZip follows ts (set ts i y)
  follow_set [] i x y less is h = absurd (omega (arith, less))
  follow_set (t ∷ ts) zero x y less is h = let P : T → Type 0 = λ u. follows u y in (subst P is h, all_follow ts)
  follow_set (t ∷ ts) (suc i) x y less is h = (same t, follow_set ts i x y (omega (arith, less)) is h)

module _ {T : Type 0} (follows : T → T → Type 0) (trans : (a b c : T) → follows a b → follows b c → follows a c) where
  pub follow_trans : (xs ys zs : List T) → AllZip follows xs ys → AllZip follows ys zs → AllZip follows xs zs
  follow_trans [] [] [] p q = tt
  follow_trans [] [] (z ∷ zs) p q = absurd q
  follow_trans [] (y ∷ ys) zs p q = absurd p
  follow_trans (x ∷ xs) [] zs p q = absurd p
  follow_trans (x ∷ xs) (y ∷ ys) [] p q = absurd q
  follow_trans (x ∷ xs) (y ∷ ys) (z ∷ zs) p q = (trans x y z p.0 q.0, follow_trans xs ys zs p.1 q.1)
