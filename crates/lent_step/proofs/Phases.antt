-- What a phase did, from what its tasks did.
use Rattle.std.proofs.Common.{◌≡◌, ℕ, suc, zero, ◌<◌, List, [], ◌∷◌, ◌++◌, length, All, refl, ap, sym, ◌∙◌, subst, Some, arith}
use Rattle.std.proofs.lemmas.List.Elements.{All-nil, All-cons, All-head, All-tail}
use Rattle.std.specs.List.{AllZip, slice_get}
use Rattle.worker_step.specs.Tasks.{IsFaultOfLowest}
use Rattle.lent_step.specs.Lending.{AreHeld, IsReady, AllRan, IsFaultAt}
use Rattle.lent_step.specs.declared.held.Held.{Held}
use Rattle.lent_step.specs.declared.lent_task.LentTask.{Ghosts}

module _ {W H F : Type 0} (g : Ghosts W H F) where
  abbrev pub Follows : Held H W → Held H W → Type 0
  Follows t u = g.follows t.work t.desk u.work u.desk × g.keeps t.desk u.desk × (u.began.value ≡ t.began.value)

  abbrev pub IsDone : Held H W → Type 0
  IsDone t = g.done t.work t.desk

  abbrev pub Faulted : Held H W → F → Type 0
  Faulted t e = g.faulted t.began.value e t.work t.desk

  module _ (keeps_refl : (a : H) → g.keeps a a) where
    pub held_ready : (ts : List (Held H W)) (ds : List H) (ws : List W) → AreHeld ts ds ws → AllZip g.ready ws ds → All (IsReady g) ts
    held_ready [] [] [] h r = All-nil (IsReady g)
    held_ready [] [] (w ∷ ws) h r = absurd h
    held_ready [] (d ∷ ds) ws h r = absurd h
    held_ready (t ∷ ts) [] ws h r = absurd h
    held_ready (t ∷ ts) (d ∷ ds) [] h r = absurd h
    held_ready (t ∷ ts) (d ∷ ds) (w ∷ ws) h r =
        let P : H → Type 0 = λ x. g.keeps x t.desk in
        let Q : H → Type 0 = λ x. g.ready t.work x in
        let S : W → Type 0 = λ x. g.ready x d in
        let ready : g.ready t.work t.desk = subst Q (sym h.0) (subst S (sym h.1) r.0) in
        let kept : g.keeps t.began.value t.desk = subst P (h.0 ∙ sym h.2) (keeps_refl t.desk) in
        let here : IsReady g t = (ready, kept) in
        All-cons (IsReady g) t ts here (held_ready ts ds ws h.3 r.1)

    pub all_kept : (ds : List H) → AllZip g.keeps ds ds
    all_kept [] = tt
    all_kept (d ∷ ds) = (keeps_refl d, all_kept ds)

  pub desks_kept : (ts us : List (Held H W)) (ds es : List H) (ws : List W) → AreHeld ts ds ws → AllZip Follows ts us
      → AllZip (λ t e. e ≡ t.desk) us es → AllZip g.keeps ds es
  desks_kept [] [] [] [] [] h f p = tt
  desks_kept [] [] [] (e ∷ es) [] h f p = absurd p
  desks_kept [] [] [] es (w ∷ ws) h f p = absurd h
  desks_kept [] us (d ∷ ds) es ws h f p = absurd h
  desks_kept [] (u ∷ us) [] es ws h f p = absurd f
  desks_kept (t ∷ ts) us [] es ws h f p = absurd h
  desks_kept (t ∷ ts) us (d ∷ ds) es [] h f p = absurd h
  desks_kept (t ∷ ts) [] (d ∷ ds) es (w ∷ ws) h f p = absurd f
  desks_kept (t ∷ ts) (u ∷ us) (d ∷ ds) [] (w ∷ ws) h f p = absurd p
  desks_kept (t ∷ ts) (u ∷ us) (d ∷ ds) (e ∷ es) (w ∷ ws) h f p =
      let P : H → Type 0 = λ x. g.keeps x e in
      let Q : H → Type 0 = λ x. g.keeps t.desk x in
      (subst P h.0 (subst Q (sym p.0) f.0.1), desks_kept ts us ds es ws h.3 f.1 p.1)

  pub all_ran : (ts us : List (Held H W)) (ds es : List H) (ws vs : List W) → AreHeld ts ds ws → AllZip Follows ts us → AllZip (λ t e. e ≡ t.desk) us es → AllZip (λ t v. v ≡ t.work) us vs
      → AllRan g.follows ws ds vs es
  all_ran [] [] [] [] [] [] h f p q = tt
  all_ran [] [] [] [] [] (v ∷ vs) h f p q = absurd q
  all_ran [] [] [] (e ∷ es) [] vs h f p q = absurd p
  all_ran [] [] [] es (w ∷ ws) vs h f p q = absurd h
  all_ran [] us (d ∷ ds) es ws vs h f p q = absurd h
  all_ran [] (u ∷ us) [] es ws vs h f p q = absurd f
  all_ran (t ∷ ts) us [] es ws vs h f p q = absurd h
  all_ran (t ∷ ts) us (d ∷ ds) es [] vs h f p q = absurd h
  all_ran (t ∷ ts) [] (d ∷ ds) es (w ∷ ws) vs h f p q = absurd f
  all_ran (t ∷ ts) (u ∷ us) (d ∷ ds) [] (w ∷ ws) vs h f p q = absurd p
  all_ran (t ∷ ts) (u ∷ us) (d ∷ ds) (e ∷ es) (w ∷ ws) [] h f p q = absurd q
  all_ran (t ∷ ts) (u ∷ us) (d ∷ ds) (e ∷ es) (w ∷ ws) (v ∷ vs) h f p q =
      let A : H → W → Type 0 = λ x y. g.follows y x u.work u.desk in
      let B : H → W → Type 0 = λ x y. g.follows w d y x in
      let start : g.follows w d u.work u.desk = subst (λ (y : W). A d y) h.1 (subst (λ (x : H). A x t.work) h.0 f.0.0) in
      let here : g.follows w d v e = subst (λ (y : W). B e y) (sym q.0) (subst (λ (x : H). B x u.work) (sym p.0) start) in
      (here, all_ran ts us ds es ws vs h.3 f.1 p.1 q.1)

  pub all_done : (us : List (Held H W)) (es : List H) (vs : List W) → All IsDone us → AllZip (λ t e. e ≡ t.desk) us es → AllZip (λ t v. v ≡ t.work) us vs → AllZip g.done vs es
  all_done [] [] [] a p q = tt
  all_done [] [] (v ∷ vs) a p q = absurd q
  all_done [] (e ∷ es) vs a p q = absurd p
  all_done (u ∷ us) [] vs a p q = absurd p
  all_done (u ∷ us) (e ∷ es) [] a p q = absurd q
  all_done (u ∷ us) (e ∷ es) (v ∷ vs) a p q =
      let A : W → Type 0 = λ y. g.done y e in
      let B : H → Type 0 = λ x. g.done u.work x in
      (subst A (sym q.0) (subst B (sym p.0) (All-head IsDone u us a)), all_done us es vs (All-tail IsDone u us a) p.1 q.1)

  pub none_ran : ((t : W) (a : H) → g.follows t a t a) → (ws : List W) (ds : List H) → length ws ≡ length ds → AllRan g.follows ws ds ws ds
  none_ran same [] [] e = tt
  none_ran same [] (d ∷ ds) e = cc
  none_ran same (w ∷ ws) [] e = cc
  none_ran same (w ∷ ws) (d ∷ ds) e = (same w d, none_ran same ws ds (omega (arith, e)))

  -- a fault of a rank
  pub fault_at : (ts us : List (Held H W)) (ds es : List H) (ws : List W) (i : ℕ) (task : Held H W) (e : F) → slice_get us i ≡ Some task → Faulted task e
      → AreHeld ts ds ws → AllZip Follows ts us → AllZip (λ t e. e ≡ t.desk) us es
      → (a : H) × (b : H) × (slice_get ds i ≡ Some a) × (slice_get es i ≡ Some b) × g.faulted a e task.work b
  fault_at ts [] ds es ws i task e is here h f p = cc
  fault_at [] (u ∷ us) ds es ws i task e is here h f p = absurd f
  fault_at (t ∷ ts) (u ∷ us) [] es ws i task e is here h f p = absurd h
  fault_at (t ∷ ts) (u ∷ us) (d ∷ ds) [] ws i task e is here h f p = absurd p
  fault_at (t ∷ ts) (u ∷ us) (d ∷ ds) (x ∷ es) [] i task e is here h f p = absurd h
  fault_at (t ∷ ts) (u ∷ us) (d ∷ ds) (x ∷ es) (w ∷ ws) zero task e is here h f p =
      let same : u ≡ task = cc in
      let began : task.began.value ≡ d = ap (λ (k : Held H W). k.began.value) (sym same) ∙ f.0.2 ∙ h.2 in
      let desk : x ≡ task.desk = p.0 ∙ ap (λ (k : Held H W). k.desk) same in
      let A : H → Type 0 = λ a. g.faulted a e task.work task.desk in
      let B : H → Type 0 = λ b. g.faulted d e task.work b in
      (d, x, refl, refl, subst B (sym desk) (subst A began here))
  fault_at (t ∷ ts) (u ∷ us) (d ∷ ds) (x ∷ es) (w ∷ ws) (suc i) task e is here h f p = fault_at ts us ds es ws i task e is here h.3 f.1 p.1

  at_front : (front : List (Held H W)) (task : Held H W) (back : List (Held H W)) → slice_get (front ++ task ∷ back) (length front) ≡ Some task
  at_front [] task back = refl
  at_front (t ∷ front) task back = at_front front task back

  work_at : (us : List (Held H W)) (vs : List W) (i : ℕ) (task : Held H W) → slice_get us i ≡ Some task → AllZip (λ t v. v ≡ t.work) us vs → slice_get vs i ≡ Some task.work
  work_at [] vs i task is q = cc
  work_at (u ∷ us) [] i task is q = absurd q
  work_at (u ∷ us) (v ∷ vs) zero task is q = let same : u ≡ task = cc in ap Some (q.0 ∙ ap (λ (k : Held H W). k.work) same)
  work_at (u ∷ us) (v ∷ vs) (suc i) task is q = work_at us vs i task is q.1

  -- the works before the one that faulted are done
  pub done_lower : (front rest : List (Held H W)) (es : List H) (vs : List W) → All IsDone front → AllZip (λ t e. e ≡ t.desk) (front ++ rest) es → AllZip (λ t v. v ≡ t.work) (front ++ rest) vs
      → (k : ℕ) (w : W) (d : H) → k < length front → slice_get vs k ≡ Some w → slice_get es k ≡ Some d → g.done w d
  done_lower [] rest es vs a p q k w d less its is = absurd (omega (arith, less))
  done_lower (t ∷ front) rest [] vs a p q k w d less its is = absurd p
  done_lower (t ∷ front) rest (e ∷ es) [] a p q k w d less its is = absurd q
  done_lower (t ∷ front) rest (e ∷ es) (v ∷ vs) a p q zero w d less its is =
      let work : t.work ≡ w = cc in
      let desk : t.desk ≡ d = cc in
      let A : W → Type 0 = λ y. g.done y d in
      let B : H → Type 0 = λ x. g.done t.work x in
      subst A work (subst B desk (All-head IsDone t front a))
  done_lower (t ∷ front) rest (e ∷ es) (v ∷ vs) a p q (suc k) w d less its is = done_lower front rest es vs (All-tail IsDone t front a) p.1 q.1 k w d (omega (arith, less)) its is

  pub fault_found : (ts us : List (Held H W)) (ds es : List H) (ws vs : List W) (e : F) → IsFaultOfLowest IsDone Faulted us e → AreHeld ts ds ws → AllZip Follows ts us → AllZip (λ t e. e ≡ t.desk) us es → AllZip (λ t v. v ≡ t.work) us vs
      → IsFaultAt g.done g.faulted ds vs es e
  fault_found ts us ds es ws vs e low h f p q =
      let P : List (Held H W) → Type 0 = λ ks. slice_get ks (length low.front) ≡ Some low.task in
      let at = subst P (sym low.parts) (at_front low.front low.task low.back) in
      let found = fault_at ts us ds es ws (length low.front) low.task e at low.here h f p in
      let D : List (Held H W) → Type 0 = λ ks. AllZip (λ t e. e ≡ t.desk) ks es in
      let V : List (Held H W) → Type 0 = λ ks. AllZip (λ t v. v ≡ t.work) ks vs in
      record {
        rank = length low.front;
        before = found.0;
        work = low.task.work;
        after = found.1;
        was = found.2;
        its = work_at us vs (length low.front) low.task at q;
        is = found.3;
        here = found.4;
        lower = done_lower low.front (low.task ∷ low.back) es vs low.all_done (subst D low.parts p) (subst V low.parts q);
      }
