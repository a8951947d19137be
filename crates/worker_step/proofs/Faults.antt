-- The fault of the lowest rank.
use Rattle.std.proofs.Common.{◌≡◌, List, [], ◌∷◌, length, All, Result, Ok, Err, OnOk, IfErr, inl, inr, refl, sym, ap, subst, arith}
use Rattle.std.proofs.lemmas.List.Elements.{All-nil, All-cons, All-append, All-weaker}
use Rattle.worker_step.specs.Tasks.{HasEnded, IsFaultOfLowest, first_fault}

module _ {T E : Type 0} (done : T → Type 0) (faulted : T → E → Type 0) where
  pub done_ended : (ts : List T) → All done ts → All (HasEnded done faulted) ts
  done_ended ts h = All-weaker done (HasEnded done faulted) (λ t d. inl d) ts h

  pub fault_ended : (ts : List T) (e : E) → IsFaultOfLowest done faulted ts e → All (HasEnded done faulted) ts
  fault_ended ts e h =
      let P : List T → Type 0 = λ us. All (HasEnded done faulted) us in
      let here : HasEnded done faulted h.task = inr (e, h.here) in
      subst P (sym h.parts) (All-append (HasEnded done faulted) h.front (h.task ∷ h.back) (done_ended h.front h.all_done)
      (All-cons (HasEnded done faulted) h.task h.back here h.ended))

  pub all_ended : {A : Type 0} (r : Result A E) (ts : List T) → OnOk r (All done ts) → IfErr r (λ e. IsFaultOfLowest done faulted ts e) → All (HasEnded done faulted) ts
  all_ended (Ok a) ts p q = done_ended ts p
  all_ended (Err e) ts p q = fault_ended ts e q

  -- the fault of the first task
  pub fault_first : (t : T) (ts : List T) (e : E) → faulted t e → All (HasEnded done faulted) ts → IsFaultOfLowest done faulted (t ∷ ts) e
  fault_first t ts e p h = record { front = []; task = t; back = ts; parts = refl; all_done = All-nil done; here = p; ended = h }

  -- the fault of a later one
  pub fault_later : (t : T) (ts : List T) (e : E) → done t → IsFaultOfLowest done faulted ts e → IsFaultOfLowest done faulted (t ∷ ts) e
  fault_later t ts e p h =
      record { front = t ∷ h.front; task = h.task; back = h.back; parts = ap (λ us. t ∷ us) h.parts; all_done = All-cons done t h.front p h.all_done; here = h.here; ended = h.ended }

  pub two_ok : {A : Type 0} (r s : Result A E) (t : T) (ts : List T) → OnOk r (done t) → OnOk s (All done ts) → OnOk (first_fault r s) (All done (t ∷ ts))
  two_ok (Ok a) (Ok b) t ts p q = All-cons done t ts p q
  two_ok (Ok a) (Err e) t ts p q = tt
  two_ok (Err e) s t ts p q = tt

  pub two_err : {A : Type 0} (r s : Result A E) (t : T) (ts : List T) → OnOk r (done t) → IfErr r (λ e. faulted t e)
      → OnOk s (All done ts) → IfErr s (λ e. IsFaultOfLowest done faulted ts e) → IfErr (first_fault r s) (λ e. IsFaultOfLowest done faulted (t ∷ ts) e)
  two_err (Ok a) (Ok b) t ts p q h k = tt
  two_err (Ok a) (Err e) t ts p q h k = fault_later t ts e p k
  two_err (Err e) s t ts p q h k = fault_first t ts e q (all_ended s ts h k)

  pub alone_err : {A : Type 0} (r : Result A E) (t : T) (ts : List T) → length ts ≡ 0 → IfErr r (λ e. faulted t e) → IfErr r (λ e. IsFaultOfLowest done faulted (t ∷ ts) e)
  alone_err (Ok a) t ts none h = tt
  alone_err (Err e) t ts none h = fault_first t ts e h (λ k d less. absurd (omega (arith, none, less)))
