-- How the plan's stages follow the work: between two of them stand items of which nothing is kept.
use Rattle.std.proofs.Common.{◌≡◌, ℕ, true, false, cond, List, [], ◌∷◌, ◌++◌, length, map, filter, Option, None, Some, refl, sym, ap, ◌∙◌, subst, append_assoc, append-nil}
use Rattle.std.specs.List.{AllByRecursion}
use Rattle.std.proofs.lemmas.Bool.{true≢false}
use Rattle.row_defs.specs.Rows.{Row}
use Rattle.row_defs.specs.Inputs.{Inputs}
use Rattle.row_defs.specs.Operands.{Operand}
use Rattle.script_defs.specs.Scripts.{Script, origin_of}
use Rattle.script_defs.specs.Reading.{nothing_known}
use Rattle.script_defs.specs.Sound.{IsSound}
use Rattle.script_defs.specs.Work.{Item, do_line, do_action, work_of}
use Rattle.script_defs.specs.Runs.{IsRun, run_texts}
use Rattle.script_defs.specs.Plans.{Stage, IsStage, IsPlan, item_of, is_stage, all_operands, AreLast, is_stored_line, is_stored_origin}
use Rattle.script_defs.specs.Ends.{Ending, whole, cut_off, IsDone}
use Rattle.dia_edge.proofs.SinkLemmas.{but_none, all_but}
use Rattle.run_laws.specs.Order.{InWork, IsReadyLine}
use Rattle.run_laws.specs.Laws.{texts_among, no_lists}
use Rattle.run_laws.proofs.WorkLemmas.{work_order}
use Rattle.run_laws.proofs.RunLemmas.{begins, goes_on, runs_are_runs}
use Rattle.stage_laws.specs.Standing.{Kept, AreKept, AllCached, StillHolds, EndsWith, IsAt, Ended, GoesOn, Stops, KeepsOn, CanDo, Stands}
use Rattle.stage_laws.proofs.EndLemmas.{at_grows}
use Rattle.stage_laws.proofs.ItemLemmas.{cut_here, other_goes_on, other_keeps}

abbrev item_in : Stage → Item
item_in s = item_of s.number s.statement

abbrev Quiet : Script → List Item → Type 0
Quiet script items = AllByRecursion (λ (x : Item). is_stage script x ≡ false) items

-- the items before the next stage
record IsSplit (script : Script) (left : List Item) (item : Item) (items : List Item) : Type 0 where
  quiet : List Item
  rest : List Item
  parts : left ≡ quiet ++ item ∷ rest
  still : Quiet script quiet
  later : items ≡ filter (is_stage script) rest

split : (script : Script) (left : List Item) (item : Item) (items : List Item) → item ∷ items ≡ filter (is_stage script) left → IsSplit script left item items
split script [] item items is = let wrong : ⊥ = cc in absurd wrong
split script (x ∷ left) item items is =
    elim (is_stage script x) as (λ t. is_stage script x ≡ t → item ∷ items ≡ cond t (x ∷ filter (is_stage script) left) (filter (is_stage script) left)
    → IsSplit script (x ∷ left) item items) [
      | true ↦ λ yes e.
          let first : item ≡ x = cc in
          record { quiet = []; rest = left; parts = ap (λ (y : Item). y ∷ left) (sym first); still = tt; later = cc }
      | false ↦ λ no e.
          let s = split script left item items e in
          record { quiet = x ∷ s.quiet; rest = s.rest; parts = ap (λ (xs : List Item). x ∷ xs) s.parts; still = (no, s.still); later = s.later }
    ] refl is

all_quiet : (script : Script) (left : List Item) → [] ≡ filter (is_stage script) left → Quiet script left
all_quiet script [] is = tt
all_quiet script (x ∷ left) is =
    elim (is_stage script x) as (λ t. is_stage script x ≡ t → [] ≡ cond t (x ∷ filter (is_stage script) left) (filter (is_stage script) left) → Quiet script (x ∷ left)) [
      | true ↦ λ yes e. let wrong : ⊥ = cc in absurd wrong
      | false ↦ λ no e. (no, all_quiet script left e)
    ] refl is

-- a run behind such items
record IsPast (W : List Row → Type 0) (script : Script) (told : Option Inputs) (begun : Option (List ℕ)) (done left : List Item) (later : List Operand) (kept : Kept) (taken : Option (List ℕ)) : Type 0 where
  work : InWork script done left
  are : AreKept script done later kept
  at : (inputs : Inputs) → told ≡ Some inputs → IsAt W script inputs begun done kept taken

past_one : (W : List Row → Type 0) (script : Script) (told : Option Inputs) (begun : Option (List ℕ)) (done left : List Item) (later : List Operand) (item : Item) (kept : Kept) (taken : Option (List ℕ))
    → IsPast W script told begun done (item ∷ left) later kept taken → is_stage script item ≡ false → IsPast W script told begun (done ++ item ∷ []) left later kept taken
past_one W script told begun done left later (do_action n) kept taken p quiet = absurd (true≢false quiet)
past_one W script told begun done left later (do_line n) kept taken p quiet =
    let r : IsReadyLine script _ n = p.work.order.0 in
    let other : is_stored_origin (origin_of r.form) ≡ false = sym (ap is_stored_line r.is) ∙ quiet in
    record {
      work = goes_on script done left (do_line n) p.work;
      are = other_keeps script n r.name r.form kept other r.is later done left p.work p.are;
      at = λ inputs tells. other_goes_on W W script told n r.name r.form kept taken (λ rows holds. holds) other r.is inputs begun done left tells p.work (p.at inputs tells);
    }

past : (W : List Row → Type 0) (script : Script) (told : Option Inputs) (begun : Option (List ℕ)) (quiet done left : List Item) (later : List Operand) (kept : Kept) (taken : Option (List ℕ))
    → IsPast W script told begun done (quiet ++ left) later kept taken → Quiet script quiet → IsPast W script told begun (done ++ quiet) left later kept taken
past W script told begun [] done left later kept taken p quiet =
    let In : List Item → Type 0 = λ xs. IsPast W script told begun xs left later kept taken in subst In (sym (append-nil done)) p
past W script told begun (x ∷ xs) done left later kept taken p quiet =
    let In : List Item → Type 0 = λ ys. IsPast W script told begun ys left later kept taken in
    subst In (append_assoc done (x ∷ []) xs)
    (past W script told begun xs (done ++ x ∷ []) left later kept taken (past_one W script told begun done (xs ++ left) later x kept taken p quiet.0) quiet.1)

-- where more is known of the rows of caches
pub stands_grows : (W W' : List Row → Type 0) (script : Script) (told : Option Inputs) (begun : Option (List ℕ)) (stages : List Stage) (kept : Kept) (taken : Option (List ℕ))
    → StillHolds W W' → Stands W script told begun stages kept taken → Stands W' script told begun stages kept taken
stands_grows W W' script told begun stages kept taken still h = record {
  done = h.done;
  left = h.left;
  work = h.work;
  rest = h.rest;
  last = h.last;
  are = h.are;
  at = λ inputs tells. at_grows W W' script inputs begun h.done kept taken still (h.at inputs tells);
}

-- before a stage ------------------------------------------------------------------------------------------------------

record IsBefore (W : List Row → Type 0) (script : Script) (told : Option Inputs) (begun : Option (List ℕ)) (stage : Stage) (stages : List Stage) (kept : Kept) (taken : Option (List ℕ)) : Type 0 where
  done : List Item
  left : List Item
  past : IsPast W script told begun done (item_in stage ∷ left) (stage.operands ++ all_operands stages) kept taken
  rest : map item_in stages ≡ filter (is_stage script) left

before : (W : List Row → Type 0) (script : Script) (told : Option Inputs) (begun : Option (List ℕ)) (stage : Stage) (stages : List Stage) (kept : Kept) (taken : Option (List ℕ))
    → Stands W script told begun (stage ∷ stages) kept taken → IsBefore W script told begun stage stages kept taken
before W script told begun stage stages kept taken h =
    let s = split script h.left (item_in stage) (map item_in stages) h.rest in
    let In : List Item → Type 0 = λ xs. InWork script h.done xs in
    let p = past W script told begun s.quiet h.done (item_in stage ∷ s.rest) (stage.operands ++ all_operands stages) kept taken
    (record { work = subst In s.parts h.work; are = h.are; at = h.at }) s.still in
    record { done = h.done ++ s.quiet; left = s.rest; past = p; rest = s.later }

-- the operands behind others have the last uses that they have
last_behind : (operands later : List Operand) → AreLast (operands ++ later) → AreLast later
last_behind [] later last = last
last_behind (o ∷ operands) later last = last_behind operands later last.1

pub stage_can_be_done : (W : List Row → Type 0) (script : Script) (told : Option Inputs) (begun : Option (List ℕ)) (stage : Stage) (stages : List Stage) (kept : Kept) (taken : Option (List ℕ))
    → IsSound nothing_known 1 script → IsStage script stage → Stands W script told begun (stage ∷ stages) kept taken → CanDo script stage kept
stage_can_be_done W script told begun stage stages kept taken sound is h =
    let b = before W script told begun stage stages kept taken h in
    record { sound = sound; is = is; done = b.done; left = b.left; later = all_operands stages; work = b.past.work; last = h.last; are = b.past.are }

pub stage_goes_on : (W W' : List Row → Type 0) (script : Script) (told told_now : Option Inputs) (begun : Option (List ℕ)) (stage : Stage) (stages : List Stage) (kept kept_now : Kept) (taken taken_now : Option (List ℕ))
    → ((inputs : Inputs) → told ≡ Some inputs → told_now ≡ Some inputs) → Stands W script told begun (stage ∷ stages) kept taken
    → GoesOn W W' script told_now (item_in stage) kept taken kept_now taken_now → KeepsOn script (item_in stage) stage.operands kept kept_now
    → Stands W' script told begun stages kept_now taken_now
stage_goes_on W W' script told told_now begun stage stages kept kept_now taken taken_now still h goes keeps =
    let b = before W script told begun stage stages kept taken h in
    record {
      done = b.done ++ item_in stage ∷ [];
      left = b.left;
      work = goes_on script b.done b.left (item_in stage) b.past.work;
      rest = b.rest;
      last = last_behind stage.operands (all_operands stages) h.last;
      are = keeps (all_operands stages) b.done b.left h.last b.past.work b.past.are;
      at = λ inputs tells. goes inputs begun b.done b.left (still inputs tells) b.past.work (b.past.at inputs tells);
    }

pub stage_stops : (W : List Row → Type 0) (script : Script) (told told_now : Option Inputs) (begun : Option (List ℕ)) (stage : Stage) (stages : List Stage) (kept : Kept) (taken : Option (List ℕ))
    (ending : Ending) (taken_now : Option (List ℕ))
    → ((inputs : Inputs) → told ≡ Some inputs → told_now ≡ Some inputs) → Stands W script told begun (stage ∷ stages) kept taken
    → Stops W script told_now (item_in stage) kept taken ending taken_now
    → (inputs : Inputs) → told ≡ Some inputs → Ended begun (EndsWith W script inputs ending) taken_now
stage_stops W script told told_now begun stage stages kept taken ending taken_now still h stops = λ inputs tells.
    let b = before W script told begun stage stages kept taken h in
    stops inputs begun b.done b.left (still inputs tells) b.past.work (b.past.at inputs tells)

-- the whole work --------------------------------------------------------------------------------------------------------

abbrev Nothing : Kept → Type 0
Nothing kept = (n : ℕ) → kept n ≡ None

never_kept : (kept : Kept) (n : ℕ) (rows : List Row) (P : Type 0) → Nothing kept → kept n ≡ Some rows → P
never_kept kept n rows P none is = let both : None ≡ Some rows = sym (none n) ∙ is in let wrong : ⊥ = cc in absurd wrong

at_first : (W : List Row → Type 0) (script : Script) (inputs : Inputs) (begun : Option (List ℕ)) (kept : Kept) → Nothing kept → IsAt W script inputs begun [] kept begun
at_first W script inputs begun kept none =
    record { lists = no_lists; run = begins script inputs; are = λ n rows is. never_kept kept n rows _ none is; cached = λ l of name rows has is list. absurd (true≢false (sym has)); since = all_but begun begun [] (but_none begun []) }

whole_work : (script : Script) → IsSound nothing_known 1 script → InWork script [] (work_of script)
whole_work script sound = record { parts = refl; ready = tt; order = work_order script sound }

pub plan_begins : (W : List Row → Type 0) (script : Script) (told : Option Inputs) (plan : List Stage) (begun : Option (List ℕ)) (kept : Kept)
    → IsSound nothing_known 1 script → IsPlan script plan → Nothing kept → Stands W script told begun plan kept begun
plan_begins W script told plan begun kept sound is none = record {
  done = [];
  left = work_of script;
  work = whole_work script sound;
  rest = is.order;
  last = is.last;
  are = λ l name form has at stored read. absurd (true≢false (sym has));
  at = λ inputs tells. at_first W script inputs begun kept none;
}

pub nothing_is_done : (W : List Row → Type 0) (script : Script) (begun : Option (List ℕ)) → IsSound nothing_known 1 script → (inputs : Inputs) → Ended begun (EndsWith W script inputs cut_off) begun
nothing_is_done W script begun sound inputs =
    let at = at_first W script inputs begun (λ n. None) (λ n. refl) in
    record { took = texts_among script at.lists []; since = at.since; end = cut_here W script inputs begun [] (work_of script) (λ n. None) begun (whole_work script sound) at }

pub plan_ends : (W : List Row → Type 0) (script : Script) (told : Option Inputs) (begun : Option (List ℕ)) (kept : Kept) (taken : Option (List ℕ)) → Stands W script told begun [] kept taken
    → (inputs : Inputs) → told ≡ Some inputs → Ended begun (EndsWith W script inputs whole) taken
plan_ends W script told begun kept taken h inputs tells =
    let quiet = all_quiet script h.left h.rest in
    let In : List Item → Type 0 = λ xs. InWork script h.done xs in
    let p = past W script told begun h.left h.done [] [] kept taken
    (record { work = subst In (sym (append-nil h.left)) h.work; are = h.are; at = h.at }) quiet in
    let all = h.done ++ h.left in
    let at = p.at inputs tells in
    let runs = runs_are_runs script inputs at.lists all [] p.work at.run in
    let same : all ≡ work_of script = sym (append-nil all) ∙ sym p.work.parts in
    let Run : ℕ → Type 0 = λ n. IsRun script inputs at.lists n in
    let Cached : List Item → Type 0 = λ xs. AllCached W script at.lists xs in
    let done : IsDone script inputs (length (work_of script)) (texts_among script at.lists all) = record {
      lists = at.lists;
      run = subst Run (ap length same) runs.0;
      texts = sym runs.1 ∙ ap (λ (xs : List Item). run_texts script at.lists (length xs)) same;
    } in
    record {
      took = texts_among script at.lists all;
      since = at.since;
      end = (done, subst Cached same at.cached);
    }
