-- How tasks stand: at the start, after a step and at the end.
use Rattle.std.proofs.Common.{◌≡◌, ℕ, suc, zero, ◌+◌, ◌<◌, ◌≤◌, List, [], ◌∷◌, ◌++◌, length, get_or, take, drop, Bool, true, false, Option, Some, None, All, refl, sym, ap, subst, ◌∙◌, inl, inr, nat_lt, arith}
use Rattle.std.proofs.Math.ListN.{set, length-set, length-take}
use Rattle.std.proofs.Common.{length-drop, if◌then◌else◌}
use Rattle.std.proofs.lemmas.List.{get_or-take, get_or-drop}
use Rattle.std.proofs.lemmas.Bool.Decides.{nat_tests}
use Rattle.worker_step.specs.Tasks.{HasEnded, IsFaultOfLowest}
use Rattle.worker_step.specs.Order.{noted, lowest_or, Stands}
use Rattle.worker_step.specs.declared.task.Task.{Ghosts}
use Rattle.worker_step.proofs.Setting.{at_set, same_here, same_else}
use Rattle.worker_step.proofs.Live.{still, not_live}

module _ {T F : Type 0} (g : Ghosts T F) where
  module _ (ts : List T) (live : List Bool) (fault : Option (ℕ × F)) (i : ℕ) (y : T) (s : Stands g ts live fault) (less : i < length ts) (is : get_or live i true ≡ true) where
    marked : i < length live
    marked = omega (arith, less, s.long)

    pub long_set : length (set live i false) ≡ length (set ts i y)
    long_set = length-set live i false ∙ s.long ∙ sym (length-set ts i y)

    pub ready_set : (k : ℕ) (d : T) → k < length (set ts i y) → get_or (set live i false) k true ≡ true → g.ready (get_or (set ts i y) k d)
    ready_set k d in' b =
        let within : k < length ts = omega (arith, in', length-set ts i y) in
        at_set ts i y g.ready k d less (λ e. absurd (not_live live i k marked e b)) (λ n. s.ready k d within (still live i k true marked n b))

    pub ended_set : HasEnded g.done g.faulted y → (k : ℕ) (d : T) → k < length (set ts i y) → get_or (set live i false) k true ≡ false → HasEnded g.done g.faulted (get_or (set ts i y) k d)
    ended_set end k d in' b =
        let within : k < length ts = omega (arith, in', length-set ts i y) in
        at_set ts i y (HasEnded g.done g.faulted) k d less (λ e. end) (λ n. s.ended k d within (still live i k false marked n b))

    -- what is noted stays so
    pub here_set : (f : ℕ × F) → (f.0 < length ts) × (get_or live f.0 true ≡ false) × ((d : T) → g.faulted (get_or ts f.0 d) f.1)
        → (f.0 < length (set ts i y)) × (get_or (set live i false) f.0 true ≡ false) × ((d : T) → g.faulted (get_or (set ts i y) f.0 d) f.1)
    here_set f h =
        let other : ¬ (f.0 ≡ i) = λ e. let P : ℕ → Type 0 = λ j. get_or live j true ≡ false in let both : get_or live i true ≡ false = subst P e h.1 in cc in
        (omega (arith, h.0, length-set ts i y), same_else live i false f.0 true marked other ∙ h.1, λ d. at_set ts i y (λ t. g.faulted t f.1) f.0 d less (λ e. absurd (other e)) (λ n. h.2 d))

    pub new_here : (e : F) → g.faulted y e → (i < length (set ts i y)) × (get_or (set live i false) i true ≡ false) × ((d : T) → g.faulted (get_or (set ts i y) i d) e)
    new_here e h =
        (omega (arith, less, length-set ts i y), same_here live i false true marked, λ d. at_set ts i y (λ t. g.faulted t e) i d less (λ same. h) (λ n. absurd (n refl)))

  pub stands_done : (ts : List T) (live : List Bool) (fault : Option (ℕ × F)) (i : ℕ) (y : T) → Stands g ts live fault → i < length ts → get_or live i true ≡ true
      → g.done y → Stands g (set ts i y) (set live i false) fault
  stands_done ts live None i y s less is end = record {
    long = long_set ts live None i y s less is;
    ready = ready_set ts live None i y s less is;
    ended = ended_set ts live None i y s less is (inl end);
    all_done = λ k d in' b. at_set ts i y g.done k d less (λ e. end) (λ n. s.all_done k d (omega (arith, in', length-set ts i y)) (still live i k false (omega (arith, less, s.long)) n b));
    here = tt;
  }
  stands_done ts live (Some f) i y s less is end = record {
    long = long_set ts live (Some f) i y s less is;
    ready = ready_set ts live (Some f) i y s less is;
    ended = ended_set ts live (Some f) i y s less is (inl end);
    all_done = λ k d in' b. at_set ts i y g.done k d less (λ e. end) (λ n. s.all_done k d in' (still live i k false (omega (arith, less, s.long)) n b));
    here = here_set ts live (Some f) i y s less is f s.here;
  }

  fault_kept : (ts : List T) (live : List Bool) (f : ℕ × F) (i : ℕ) (y : T) (e : F) → Stands g ts live (Some f) → i < length ts → get_or live i true ≡ true
      → g.faulted y e → f.0 < i → Stands g (set ts i y) (set live i false) (Some f)
  fault_kept ts live f i y e s less is end low = record {
    long = long_set ts live (Some f) i y s less is;
    ready = ready_set ts live (Some f) i y s less is;
    ended = ended_set ts live (Some f) i y s less is (inr (e, end));
    all_done = λ k d in' b. at_set ts i y g.done k d less (λ same. absurd (omega (arith, same, in', low))) (λ n. s.all_done k d in' (still live i k false (omega (arith, less, s.long)) n b));
    here = here_set ts live (Some f) i y s less is f s.here;
  }

  fault_new : (ts : List T) (live : List Bool) (fault : Option (ℕ × F)) (i : ℕ) (y : T) (e : F) → Stands g ts live fault → i < length ts → get_or live i true ≡ true
      → g.faulted y e → i ≤ lowest_or fault (length ts) → Stands g (set ts i y) (set live i false) (Some (i, e))
  fault_new ts live fault i y e s less is end low = record {
    long = long_set ts live fault i y s less is;
    ready = ready_set ts live fault i y s less is;
    ended = ended_set ts live fault i y s less is (inr (e, end));
    all_done = λ k d in' b. at_set ts i y g.done k d less (λ same. absurd (omega (arith, same, in'))) (λ n. s.all_done k d (omega (arith, in', low)) (still live i k false (omega (arith, less, s.long)) n b));
    here = new_here ts live fault i y s less is e end;
  }

  noted_either : (ts : List T) (live : List Bool) (f : ℕ × F) (i : ℕ) (y : T) (e : F) (b : Bool) → nat_lt f.0 i ≡ b → Stands g ts live (Some f) → i < length ts → get_or live i true ≡ true
      → g.faulted y e → Stands g (set ts i y) (set live i false) (if b then Some f else Some (i, e))
  noted_either ts live f i y e true test s less is end = fault_kept ts live f i y e s less is end (grind (arith, nat_tests))
  noted_either ts live f i y e false test s less is end = fault_new ts live (Some f) i y e s less is end (grind (arith, nat_tests))

  pub stands_fault : (ts : List T) (live : List Bool) (fault : Option (ℕ × F)) (i : ℕ) (y : T) (e : F) → Stands g ts live fault → i < length ts → get_or live i true ≡ true
      → g.faulted y e → Stands g (set ts i y) (set live i false) (noted fault i e)
  stands_fault ts live None i y e s less is end = fault_new ts live None i y e s less is end (omega (arith, less))
  stands_fault ts live (Some f) i y e s less is end = noted_either ts live f i y e (nat_lt f.0 i) refl s less is end

  -- at the end
  pub split_at : (ts : List T) (i : ℕ) → i < length ts → (t : T) × (ts ≡ take i ts ++ t ∷ drop (suc i) ts) × ((d : T) → get_or ts i d ≡ t)
  split_at [] i less = absurd (omega (arith, less))
  split_at (t ∷ ts) zero less = (t, refl, λ d. refl)
  split_at (t ∷ ts) (suc i) less =
      let rest = split_at ts i (omega (arith, less)) in
      (rest.0, ap (λ us. t ∷ us) rest.1, rest.2)

  -- all marks are gone
  pub final_ok : (ts : List T) (live : List Bool) → Stands g ts live None → All (λ b. b ≡ false) live → All g.done ts
  final_ok ts live s none k d less = s.all_done k d less (none k true (omega (arith, less, s.long)))

  pub final_err : (ts : List T) (live : List Bool) (i : ℕ) (e : F) → Stands g ts live (Some (i, e)) → All (λ b. b ≡ false) live → IsFaultOfLowest g.done g.faulted ts e
  final_err ts live i e s none =
      let at = split_at ts i s.here.0 in
      record {
        front = take i ts;
        task = at.0;
        back = drop (suc i) ts;
        parts = at.1;
        all_done = λ k d less.
            let low : k < i = omega (arith, less, length-take i ts) in
            let in' : k < length ts = omega (arith, less, length-take i ts) in
            rw (get_or-take i ts k d low) (s.all_done k d low (none k true (omega (arith, in', s.long))));
        here = let P : T → Type 0 = λ t. g.faulted t e in subst P (at.2 at.0) (s.here.2 at.0);
        ended = λ k d less.
            let in' : suc i + k < length ts = omega (arith, less, length-drop (suc i) ts) in
            rw (get_or-drop (suc i) ts k d) (s.ended (suc i + k) d in' (none (suc i + k) true (omega (arith, in', s.long))));
      }

  -- at the start
  pub stands_first : (ts : List T) (live : List Bool) → length live ≡ length ts → ((k : ℕ) → get_or live k true ≡ true) → All g.ready ts → Stands g ts live None
  stands_first ts live long all h = record {
    long = long;
    ready = λ k d less is. h k d less;
    ended = λ k d less is. let yes = all k in cc;
    all_done = λ k d less is. let yes = all k in cc;
    here = tt;
  }

  pub final_fault : (ts : List T) (live : List Bool) (fault : Option (ℕ × F)) (i : ℕ) (e : F) → fault ≡ Some (i, e) → Stands g ts live fault → All (λ b. b ≡ false) live
      → IsFaultOfLowest g.done g.faulted ts e
  final_fault ts live fault i e is s none =
      let P : Option (ℕ × F) → Type 0 = λ f. Stands g ts live f in
      final_err ts live i e (subst P is s) none
