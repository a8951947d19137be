-- The stages of a plan, one after the other.
use Rattle.std.proofs.Common.{◌≡◌, ℕ, suc, ◌+◌, ◌<◌, ◌≤◌, get_or, drop, drop-cons, List, [], ◌∷◌, length, Option, None, Some, refl, sym, ◌∙◌, subst}
use Rattle.std.specs.List.{AllByRecursion}
use Rattle.std.proofs.Math.Nat.{le_trans, le_refl}
use Rattle.std.proofs.Math.Numerals.{suc-eq-add-one}
use Rattle.std.proofs.Math.ListN.{drop_of_length-le}
use Rattle.row_defs.specs.Inputs.{Inputs}
use Rattle.script_defs.specs.Scripts.{Script}
use Rattle.script_defs.specs.Reading.{nothing_known}
use Rattle.script_defs.specs.Sound.{IsSound}
use Rattle.script_defs.specs.Plans.{Stage, IsStage, IsPlan, item_of}
use Rattle.script_defs.specs.Needs.{read_by, read_by_stages, inputs_needed}
use Rattle.script_defs.specs.Ends.{Ending, whole}
use Rattle.row_defs.specs.Rows.{Row}
use Rattle.dia_edge.specs.Shelves.{and_asked}
use Rattle.dia_edge.specs.declared.shelf.Shelf as shelves
use Rattle.dia_edge.specs.declared.sink.Sink as sinks
use Rattle.dia_edge.proofs.ShelfLemmas.{stays_none, stays_then}
use Rattle.dia_lines.specs.Inputs.{AskedBut, AskedSome, Stays}
use Rattle.stage_builder.specs.declared.plan.Stage as stages
use Rattle.stage_builder.specs.Views.{stage_in, stages_in}
use Rattle.stage_laws.specs.Standing.{GoesOn, KeepsOn, Stops, CanDo, Stands, Ended, EndsWith, StillHolds}
use Rattle.stage_laws.proofs.StageLemmas.{plan_begins, plan_ends, stage_can_be_done, stage_goes_on, stage_stops}
use Rattle.stage_laws.proofs.EndLemmas.{ends_grow}
use Rattle.stage_laws.proofs.NeedLemmas.{plan_reads}
use Rattle.scatter.specs.Lines.{Lines}
use Rattle.script_run.specs.declared.run_err.RunErr.{RunErr}
use Rattle.script_run.specs.Errors.{ending_of, TellsStop}
use Rattle.script_run.specs.Held.{Held, kept_by, IsReady, HeldStays, told_in, told_by}
use Rattle.script_run.specs.Steps.{Does, StopsAt}
use Rattle.script_run.specs.Weighing.{IsWeighed}
use Rattle.script_run.proofs.WeighLemmas.{weighed_still}
use Rattle.script_run.proofs.AskedLemmas.{asked_no_one, asked_next, asked_until}
use Rattle.scatter.proofs.Hands.{follow_refl, follow_trans}
use Rattle.script_run.proofs.HandLemmas.{stop_since}
use Rattle.script_run.proofs.ToldLemmas.{told_still}

pub ended_grows : (W W' : List Row → Type 0) (script : Script) (inputs : Inputs) (begun : Option (List ℕ)) (ending : Ending) (taken : Option (List ℕ)) → StillHolds W W'
    → Ended begun (EndsWith W script inputs ending) taken → Ended begun (EndsWith W' script inputs ending) taken
ended_grows W W' script inputs begun ending taken grows e = record { took = e.took; since = e.since; end = ends_grow W W' script inputs ending e.took grows e.end }

-- what stays --------------------------------------------------------------------------------------------------------

pub held_none : (h : Held) → HeldStays h h
held_none h = record { script = refl; workers = refl; follows = follow_refl h.hands }

pub held_then : (a b c : Held) → HeldStays a b → HeldStays b c → HeldStays a c
held_then a b c p q = record { script = q.script ∙ p.script; workers = q.workers ∙ p.workers; follows = follow_trans a.hands b.hands c.hands p.follows q.follows }

kept_none : (lines : Lines) → ((n : ℕ) → lines n ≡ None) → (n : ℕ) → kept_by lines n ≡ None
kept_none lines none n = rw (none n) refl

-- stage after stage ---------------------------------------------------------------------------------------------------

-- a run that began with these, and has those now, stands before the stages that are left
pub record IsBefore {N S : Type 0} (n : shelves.Ghosts N) (s : sinks.Ghosts S) (start : Held) (shelf : N) (out : S) (now : Held) (shelf_now : N) (out_now : S) (left : List Stage) : Type 0 where
  pub stands : Stands (IsWeighed now.hands) start.script (told_by (told_in (n.holds shelf) (n.is_fixed shelf)) start.hands) (s.taken out) left (kept_by now.lines) (s.taken out_now)
  pub are : AllByRecursion (IsStage start.script) left
  pub ready : IsReady now
  pub stays : HeldStays start now
  pub shelf_stays : Stays n shelf shelf_now
  pub counts : s.faults out ≤ s.faults out_now
  pub asked : AskedBut n shelf shelf_now (inputs_needed start.script) (read_by_stages left)

module _ {N S : Type 0} (n : shelves.Ghosts N) (s : sinks.Ghosts S) (start : Held) (shelf : N) (out : S) where
  told : Option Inputs
  told = told_by (told_in (n.holds shelf) (n.is_fixed shelf)) start.hands

  pub begins : (plan left : List Stage) → IsSound nothing_known 1 start.script → IsPlan start.script plan → left ≡ plan → ((l : ℕ) → start.lines l ≡ None) → IsReady start
      → IsBefore n s start shelf out start shelf out left
  begins plan left sound is same none ready =
      let Before : List Stage → Type 0 = λ ss. IsBefore n s start shelf out start shelf out ss in
      let But : List (List ℕ) → Type 0 = λ names. AskedBut n shelf shelf (inputs_needed start.script) names in
      subst Before (sym same) (record {
        stands = plan_begins (IsWeighed start.hands) start.script (told_by (told_in (n.holds shelf) (n.is_fixed shelf)) start.hands) plan (s.taken out) (kept_by start.lines) sound is (kept_none start.lines none);
        are = is.stages;
        ready = ready;
        stays = held_none start;
        shelf_stays = stays_none n.holds n.left n.asked n.is_fixed n.faults shelf;
        counts = le_refl (s.faults out);
        asked = subst But (sym (plan_reads start.script plan is)) (asked_no_one n shelf shelf (inputs_needed start.script) refl);
      })

  module _ (now : Held) (shelf_now : N) (out_now : S) where
    -- before the next of the stages that are left
    pub before_next : (xs : List stages.Stage) (i : ℕ) (x : stages.Stage) → i < length xs → x ≡ get_or xs i x → IsBefore n s start shelf out now shelf_now out_now (stages_in (drop i xs))
        → IsBefore n s start shelf out now shelf_now out_now (stage_in x ∷ stages_in (drop (i + 1) xs))
    before_next xs i x within is h =
        let one : suc i ≡ i + 1 = suc-eq-add-one i in
        let At : ℕ → Type 0 = λ k. drop i xs ≡ get_or xs i x ∷ drop k xs in
        let Before : List stages.Stage → Type 0 = λ ss. IsBefore n s start shelf out now shelf_now out_now (stages_in ss) in
        let First : stages.Stage → Type 0 = λ y. IsBefore n s start shelf out now shelf_now out_now (stage_in y ∷ stages_in (drop (i + 1) xs)) in
        subst First (sym is) (subst Before (subst At one (drop-cons xs i x within)) h)

    -- or behind the last
    pub behind_last : (xs : List stages.Stage) (i : ℕ) → length xs ≤ i → IsBefore n s start shelf out now shelf_now out_now (stages_in (drop i xs)) → IsBefore n s start shelf out now shelf_now out_now []
    behind_last xs i past h =
        let Before : List stages.Stage → Type 0 = λ ss. IsBefore n s start shelf out now shelf_now out_now (stages_in ss) in subst Before (drop_of_length-le xs {i = i} past) h

    pub ends_here : IsBefore n s start shelf out now shelf_now out_now [] → (inputs : Inputs) → told_by (told_in (n.holds shelf) (n.is_fixed shelf)) start.hands ≡ Some inputs
        → Ended (s.taken out) (EndsWith (IsWeighed now.hands) start.script inputs whole) (s.taken out_now)
    ends_here h inputs tells =
        plan_ends (IsWeighed now.hands) start.script (told_by (told_in (n.holds shelf) (n.is_fixed shelf)) start.hands) (s.taken out) (kept_by now.lines) (s.taken out_now) h.stands inputs tells

    module _ (x : Stage) (left : List Stage) (h : IsBefore n s start shelf out now shelf_now out_now (x ∷ left)) where
      still : (inputs : Inputs) → told_by (told_in (n.holds shelf) (n.is_fixed shelf)) start.hands ≡ Some inputs
          → told_by (told_in (n.holds shelf_now) (n.is_fixed shelf_now)) now.hands ≡ Some inputs
      still = told_still (n.holds shelf) (n.holds shelf_now) (n.is_fixed shelf) (n.is_fixed shelf_now) start.hands now.hands h.shelf_stays.fixed h.stays.follows

      pub next_can : IsSound nothing_known 1 start.script → CanDo now.script x (kept_by now.lines)
      next_can sound =
          let Can : Script → Type 0 = λ script. CanDo script x (kept_by now.lines) in
          subst Can (sym h.stays.script) (stage_can_be_done (IsWeighed now.hands) start.script (told_by (told_in (n.holds shelf) (n.is_fixed shelf)) start.hands) (s.taken out) x left (kept_by now.lines) (s.taken out_now)
          sound h.are.0 h.stands)

      pub next_goes : (new : Held) (shelf_new : N) (out_new : S)
          → Does (item_of x.number x.statement) x.operands (told_in (n.holds shelf_now) (n.is_fixed shelf_now)) now new (s.taken out_now) (s.taken out_new)
          → HeldStays now new → Stays n shelf_now shelf_new → s.faults out_now ≤ s.faults out_new
          → n.asked shelf_new ≡ and_asked (n.asked shelf_now) (read_by x.statement) → IsBefore n s start shelf out new shelf_new out_new left
      next_goes new shelf_new out_new does stays shelf_stays counts asked =
          let told_before = told_by (told_in (n.holds shelf) (n.is_fixed shelf)) start.hands in
          let told_now = told_by (told_in (n.holds shelf_now) (n.is_fixed shelf_now)) now.hands in
          let Goes : Script → Type 0 = λ script. GoesOn (IsWeighed now.hands) (IsWeighed new.hands) script told_now (item_of x.number x.statement) (kept_by now.lines) (s.taken out_now) (kept_by new.lines) (s.taken out_new) in
          let Keeps : Script → Type 0 = λ script. KeepsOn script (item_of x.number x.statement) x.operands (kept_by now.lines) (kept_by new.lines) in
          record {
            stands = stage_goes_on (IsWeighed now.hands) (IsWeighed new.hands) start.script told_before told_now (s.taken out) x left (kept_by now.lines) (kept_by new.lines) (s.taken out_now)
                (s.taken out_new) still h.stands (subst Goes h.stays.script does.goes) (subst Keeps h.stays.script does.keeps);
            are = h.are.1;
            ready = does.ready;
            stays = held_then start now new h.stays stays;
            shelf_stays = stays_then n.holds n.left n.asked n.is_fixed n.faults shelf shelf_now shelf_new h.shelf_stays shelf_stays;
            counts = le_trans h.counts counts;
            asked = asked_next n shelf shelf_now shelf_new (inputs_needed start.script) (read_by x.statement) (read_by_stages left) h.asked asked;
          }

      pub next_stops : (e : RunErr) (new : Held) (out_new : S) → HeldStays now new → StopsAt (item_of x.number x.statement) (told_in (n.holds shelf_now) (n.is_fixed shelf_now)) now (s.taken out_now) e (s.taken out_new)
          → (inputs : Inputs) → told_by (told_in (n.holds shelf) (n.is_fixed shelf)) start.hands ≡ Some inputs
          → Ended (s.taken out) (EndsWith (IsWeighed new.hands) start.script inputs (ending_of e)) (s.taken out_new)
      next_stops e new out_new stays stops inputs tells =
          let told_before = told_by (told_in (n.holds shelf) (n.is_fixed shelf)) start.hands in
          let told_now = told_by (told_in (n.holds shelf_now) (n.is_fixed shelf_now)) now.hands in
          let Stop : Script → Type 0 = λ script. Stops (IsWeighed now.hands) script told_now (item_of x.number x.statement) (kept_by now.lines) (s.taken out_now) (ending_of e) (s.taken out_new) in
          ended_grows (IsWeighed now.hands) (IsWeighed new.hands) start.script inputs (s.taken out) (ending_of e) (s.taken out_new) (weighed_still now.hands new.hands stays.follows)
          (stage_stops (IsWeighed now.hands) start.script told_before told_now (s.taken out) x left (kept_by now.lines) (s.taken out_now) (ending_of e) (s.taken out_new) still h.stands
          (subst Stop h.stays.script stops) inputs tells)

      pub next_asked : (shelf_new : N) → AskedSome n shelf_now shelf_new (read_by x.statement) → AskedSome n shelf shelf_new (inputs_needed start.script)
      next_asked shelf_new asked = asked_until n shelf shelf_now shelf_new (inputs_needed start.script) (read_by x.statement) (read_by_stages left) h.asked asked

      pub next_tells : (e : RunErr) (new : Held) (shelf_new : N) (out_new : S) → TellsStop e (n.faults shelf_now) (n.faults shelf_new) (s.faults out_now) (s.faults out_new) now.hands new.hands
          → TellsStop e (n.faults shelf) (n.faults shelf_new) (s.faults out) (s.faults out_new) start.hands new.hands
      next_tells e new shelf_new out_new tells =
          stop_since e (n.faults shelf) (n.faults shelf_now) (n.faults shelf_new) (s.faults out) (s.faults out_now) (s.faults out_new) start.hands now.hands new.hands
          h.shelf_stays.counts h.counts h.stays.follows tells
