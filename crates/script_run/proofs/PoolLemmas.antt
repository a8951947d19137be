-- The hands of a pool that is opened for a run, and what its end bears out.
use Rattle.std.proofs.Common.{◌≡◌, ℕ, zero, suc, ◌<◌, ◌≤◌, Bool, true, cond, List, [], ◌∷◌, length, Option, None, Some, refl, sym, ap, ◌∙◌, subst, arith}
use Rattle.std.specs.Prelude.{All, slice_get}
use Rattle.std.specs.List.{AllZip}
use Rattle.std.proofs.lemmas.List.Elements.{All-nil, All-cons, All-head, All-tail, All-weaker}
use Rattle.row_defs.specs.Inputs.{Inputs}
use Rattle.dia_edge.specs.Counts.{HasRisen}
use Rattle.dia_edge.specs.Shelves.{Holdings}
use Rattle.block_pool.specs.Handles.{PoolName, HandValue, PassValue, PermitsValue, Follows}
use Rattle.block_pool.specs.Opening.{IsShare, IsOf, IsBorneOut}
use Rattle.scatter.specs.Told.{Tells, SomeHit}
use Rattle.sink_files.specs.Ending.{HasTwoPermits}
use Rattle.script_run.specs.declared.run_err.RunErr.{RunErr}
use Rattle.script_run.specs.declared.run_err.RunErr.TheVariants as errors
use Rattle.script_defs.specs.Ends.{cut_off}
use Rattle.block_pool.specs.declared.refusals.OpenErr.{OpenErr}
use Rattle.block_pool.specs.declared.refusals.OpenErr.TheVariants as opens
use Rattle.script_run.specs.Errors.{TellsStop, ending_of, open_error}
use Rattle.script_run.specs.Held.{told_in, tells_of, told_by}
use Rattle.script_run.specs.Jobs.{TellsJob, TellsAll}
use Rattle.script_run.specs.Pools.{IsShareIn, IsHandOf, IsPassOf}

module _ (name : PoolName) where
  abbrev InPool : HandValue → Type 0
  InPool a = a.pool ≡ name

  pub shares_in : (permits : ℕ) (shares : List (PassValue × PermitsValue)) → All (IsShare name permits) shares → All (IsShareIn name.turn) shares
  shares_in permits shares are = All-weaker (IsShare name permits) (IsShareIn name.turn) (λ share is. (ap (λ (p : PoolName). p.turn) is.0, is.2 ∙ sym is.0)) shares are

  pub hands_in : (permits : ℕ) (shares : List (PassValue × PermitsValue)) (hands : List HandValue) → AllZip IsHandOf shares hands → All (IsShare name permits) shares
      → All (λ a. a.pool ≡ name) hands
  hands_in permits [] [] zip are = All-nil InPool
  hands_in permits [] (a ∷ hands) zip are = absurd zip
  hands_in permits (share ∷ shares) [] zip are = absurd zip
  hands_in permits (share ∷ shares) (a ∷ hands) zip are =
      All-cons InPool a hands (zip.0.0 ∙ (All-head (IsShare name permits) share shares are).0) (hands_in permits shares hands zip.1 (All-tail (IsShare name permits) share shares are))

  pub hands_have : (permits : ℕ) (shares : List (PassValue × PermitsValue)) (hands : List HandValue) → 2 ≤ permits → AllZip IsHandOf shares hands → All (IsShare name permits) shares → All HasTwoPermits hands
  hands_have permits [] [] some zip are = All-nil HasTwoPermits
  hands_have permits [] (a ∷ hands) some zip are = absurd zip
  hands_have permits (share ∷ shares) [] some zip are = absurd zip
  hands_have permits (share ∷ shares) (a ∷ hands) some zip are =
      let has : a.permits ≡ permits = zip.0.1 ∙ (All-head (IsShare name permits) share shares are).3 in
      All-cons HasTwoPermits a hands (rw has some) (hands_have permits shares hands some zip.1 (All-tail (IsShare name permits) share shares are))

  pub tells_as : (hands : List HandValue) → 0 < length hands → All (λ a. a.pool ≡ name) hands → tells_of hands ≡ name.opening.tells
  tells_as [] some own = absurd (omega arith)
  tells_as (a ∷ hands) some own = ap (λ (p : PoolName). p.opening.tells) (All-head InPool a hands own)

  -- the hands that follow end with passes of the pool
  pub passes_in : (hands now : List HandValue) (passes : List PassValue) → All (λ a. a.pool ≡ name) hands → AllZip Follows hands now → AllZip IsPassOf now passes
      → All (IsOf name.turn name.opening) passes
  passes_in [] [] [] own follows zip = All-nil (IsOf name.turn name.opening)
  passes_in [] (b ∷ now) passes own follows zip = absurd follows
  passes_in (a ∷ hands) [] passes own follows zip = absurd follows
  passes_in [] [] (p ∷ passes) own follows zip = absurd zip
  passes_in (a ∷ hands) (b ∷ now) [] own follows zip = absurd zip
  passes_in (a ∷ hands) (b ∷ now) (p ∷ passes) own follows zip =
      All-cons (IsOf name.turn name.opening) p passes (zip.0.0 ∙ follows.0.pool ∙ All-head InPool a hands own)
      (passes_in hands now passes (All-tail InPool a hands own) follows.1 zip.1)

  -- a hand's hits are borne out by its pass
  pass_bears : (faults writes : ℕ) (now : List HandValue) (passes : List PassValue) (rank : ℕ) (b : HandValue) → AllZip IsPassOf now passes → All (IsOf name.turn name.opening) passes
      → All (IsBorneOut faults writes) passes → slice_get now rank ≡ Some b → 0 < b.notes.hits → HasRisen name.opening.counts.faults faults
  pass_bears faults writes [] [] rank b zip are borne at some = let wrong : ⊥ = cc in absurd wrong
  pass_bears faults writes [] (p ∷ passes) rank b zip are borne at some = absurd zip
  pass_bears faults writes (a ∷ now) [] rank b zip are borne at some = absurd zip
  pass_bears faults writes (a ∷ now) (p ∷ passes) zero b zip are borne at some =
      let same : a ≡ b = cc in
      let notes : p.notes ≡ b.notes = zip.0.1 ∙ ap (λ (h : HandValue). h.notes) same in
      let pool : p.pool ≡ name = All-head (IsOf name.turn name.opening) p passes are in
      let hits : 0 < p.notes.hits = rw notes some in
      let Risen : PoolName → Type 0 = λ q. HasRisen q.opening.counts.faults faults in
      subst Risen pool ((All-head (IsBorneOut faults writes) p passes borne).1 hits)
  pass_bears faults writes (a ∷ now) (p ∷ passes) (suc rank) b zip are borne at some =
      pass_bears faults writes now passes rank b zip.1 (All-tail (IsOf name.turn name.opening) p passes are) (All-tail (IsBorneOut faults writes) p passes borne) at some

  pub hit_bears : (faults writes count : ℕ) (hands now : List HandValue) (passes : List PassValue) → AllZip IsPassOf now passes → All (IsOf name.turn name.opening) passes
      → All (IsBorneOut faults writes) passes → SomeHit hands now count → HasRisen name.opening.counts.faults faults
  hit_bears faults writes count hands now passes zip are borne hit =
      let some : 0 < hit.after.notes.hits = (let more = hit.hit.hits in let later = hit.later.grown.hits in omega arith) in
      pass_bears faults writes now passes hit.rank hit.after zip are borne hit.is some

  -- all hands tell where the pool does
  all_tell_in : (hands : List HandValue) → All (λ a. a.pool ≡ name) hands → name.opening.tells ≡ true → All Tells hands
  all_tell_in hands own tells = All-weaker InPool Tells (λ a is. ap (λ (p : PoolName). p.opening.tells) is ∙ tells) hands own

  -- what a stop tells within the pool it tells at its end
  pub stop_told : (e : RunErr) (a b x y faults writes : ℕ) (hands now : List HandValue) (passes : List PassValue) → All (λ h. h.pool ≡ name) hands → AllZip IsPassOf now passes
      → All (IsOf name.turn name.opening) passes → All (IsBorneOut faults writes) passes → TellsStop e a b x y hands now
      → TellsJob e a b x y name.opening.tells name.opening.counts.faults faults
  stop_told (errors.Missing input) a b x y faults writes hands now passes own zip are borne tells = tt
  stop_told (errors.LineTooLong input line) a b x y faults writes hands now passes own zip are borne tells = tt
  stop_told (errors.InputTooLong input) a b x y faults writes hands now passes own zip are borne tells = tt
  stop_told (errors.PoolTooSmall frames need) a b x y faults writes hands now passes own zip are borne tells = tt
  stop_told (errors.TooManyRows line) a b x y faults writes hands now passes own zip are borne tells = tt
  stop_told (errors.Read count) a b x y faults writes hands now passes own zip are borne tells = tells
  stop_told (errors.Write count) a b x y faults writes hands now passes own zip are borne tells = tells
  stop_told (errors.Disk count) a b x y faults writes hands now passes own zip are borne tells = hit_bears faults writes count hands now passes zip are borne tells
  stop_told errors.Damaged a b x y faults writes hands now passes own zip are borne tells = λ is. tells (all_tell_in hands own is)
  stop_told errors.NoMemory a b x y faults writes hands now passes own zip are borne tells = tt

-- where the shelf and the disk tell, the inputs are told
pub told_all : (holds : Option Holdings) (fixed tells : Bool) (inputs : Inputs) (hands : List HandValue) → TellsAll holds fixed tells inputs → tells_of hands ≡ tells
    → told_by (told_in holds fixed) hands ≡ Some inputs
told_all holds fixed tells inputs hands all is =
    let shelf : told_in holds fixed ≡ Some inputs = ap (λ (b : Bool). cond b holds None) all.fixed_is ∙ all.shelf in
    ap (λ (b : Bool). cond b (told_in holds fixed) None) (is ∙ all.disk) ∙ shelf

-- a pool that isn't opened cuts a run off
pub open_cut : (why : OpenErr) → ending_of (open_error why) ≡ cut_off
open_cut (opens.TooSmall frames need) = refl
open_cut opens.NoMemory = refl
