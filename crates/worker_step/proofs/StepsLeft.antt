-- A step leaves fewer steps.
use Rattle.std.proofs.Common.{◌≡◌, ℕ, suc, zero, ◌<◌, List, [], ◌∷◌, length, get_or, Bool, true, false, ap, arith}
use Rattle.std.proofs.Math.ListN.{set}
use Rattle.worker_step.specs.Order.{steps_left}

module _ {T : Type 0} (left : T → ℕ) where
  pub falls_more : (ts : List T) (live : List Bool) (i : ℕ) (x y : T) → i < length ts → length live ≡ length ts → get_or live i true ≡ true → x ≡ get_or ts i x → left y < left x
      → steps_left left (set ts i y) live < steps_left left ts live
  falls_more [] live i x y less long is at h = absurd (omega (arith, less))
  falls_more (t ∷ ts) [] i x y less long is at h = absurd (omega (arith, long))
  falls_more (t ∷ ts) (true ∷ live) zero x y less long is at h = let e : left x ≡ left t = ap left at in omega (arith, h, e)
  falls_more (t ∷ ts) (false ∷ live) zero x y less long is at h = cc
  falls_more (t ∷ ts) (true ∷ live) (suc i) x y less long is at h =
      let rest : steps_left left (set ts i y) live < steps_left left ts live = falls_more ts live i x y (omega (arith, less)) (omega (arith, long)) is at h in
      omega (arith, rest)
  falls_more (t ∷ ts) (false ∷ live) (suc i) x y less long is at h = falls_more ts live i x y (omega (arith, less)) (omega (arith, long)) is at h

  pub falls_end : (ts : List T) (live : List Bool) (i : ℕ) (y : T) → i < length ts → length live ≡ length ts → get_or live i true ≡ true
      → steps_left left (set ts i y) (set live i false) < steps_left left ts live
  falls_end [] live i y less long is = absurd (omega (arith, less))
  falls_end (t ∷ ts) [] i y less long is = absurd (omega (arith, long))
  falls_end (t ∷ ts) (true ∷ live) zero y less long is = omega arith
  falls_end (t ∷ ts) (false ∷ live) zero y less long is = cc
  falls_end (t ∷ ts) (true ∷ live) (suc i) y less long is =
      let rest : steps_left left (set ts i y) (set live i false) < steps_left left ts live = falls_end ts live i y (omega (arith, less)) (omega (arith, long)) is in
      omega (arith, rest)
  falls_end (t ∷ ts) (false ∷ live) (suc i) y less long is = falls_end ts live i y (omega (arith, less)) (omega (arith, long)) is
