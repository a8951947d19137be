-- How an action goes on, or stops.
use Rattle.std.proofs.Common.{◌≡◌, ℕ, ◌≤◌, Bool, List, [], ◌∷◌, length, Option, Some, inl, inr, refl, sym, ap, ◌∙◌, subst}
use Rattle.std.specs.List.{AllZip}
use Rattle.row_defs.specs.Inputs.{Inputs}
use Rattle.row_defs.specs.Limits.{most_rows}
use Rattle.row_defs.specs.Rows.{Row}
use Rattle.row_defs.specs.LocalOps.{LocalOp}
use Rattle.row_defs.specs.Operands.{Root, stored_root, count_root, Operand}
use Rattle.script_defs.specs.Scripts.{Action, act, action_operand, Script, statement_at}
use Rattle.script_defs.specs.Plans.{IsOperand}
use Rattle.script_defs.specs.Runs.{text_of_rows}
use Rattle.script_defs.specs.Ends.{cut_off}
use Rattle.script_defs.specs.Work.{do_action}
use Rattle.dia_edge.specs.Sinks.{TookAll}
use Rattle.dia_edge.specs.declared.sink.Sink.{Ghosts}
use Rattle.block_pool.specs.Handles.{HandValue, Follows}
use Rattle.feed_actions.specs.declared.action.ActErr.{ActErr}
use Rattle.feed_actions.specs.declared.action.ActErr.TheVariants as acts
use Rattle.scatter.specs.Lines.{LineValue, Lines, root_rows}
use Rattle.scatter.specs.Nets.{AreOfOnePool}
use Rattle.scatter.specs.Phases.{IsUsed, pools_of}
use Rattle.scatter.specs.Told.{AreTold, arriving}
use Rattle.actions.specs.Acting.{IsCutOff, ActStopped}
use Rattle.scatter.proofs.SameLines.{same_pools}
use Rattle.stage_laws.specs.Standing.{IsActing, Stops}
use Rattle.stage_laws.proofs.ItemLemmas.{item_is_cut_off}
use Rattle.stage_laws.proofs.ActionLemmas.{action_keeps, action_is_done, action_is_cut_off, action_has_too_many}
use Rattle.script_run.specs.Errors.{act_error, TellsStop}
use Rattle.script_run.specs.Held.{Held, kept_by, IsKept, IsReady, told_by}
use Rattle.script_run.specs.Steps.{Does, StopsAt}
use Rattle.script_run.proofs.ToldLemmas.{told_parts, all_tells}
use Rattle.script_run.proofs.HandLemmas.{SamePermits, one_still, two_still}
use Rattle.script_run.specs.Weighing.{IsWeighed}
use Rattle.script_run.proofs.LineLemmas.{keeps_but, used_pools, used_kept}
use Rattle.script_run.proofs.WeighLemmas.{weighed_still}
use Rattle.scatter.proofs.Hands.{follow_count}

-- an action of a run that is ready, on its operand
pub record IsActed (n : ℕ) (action : Action) (o : Operand) (old : Held) : Type 0 where
  pub is : statement_at old.script n ≡ Some (act action)
  pub operand : IsOperand old.script (action_operand action) o
  pub ready : IsReady old
  pub acting : IsActing old.script n action (kept_by old.lines) o (root_rows old.lines o.root)

-- where it is told, the disks of all hands tell
pub told_root : (root : Root) (told : Option Inputs) (hands : List HandValue) (inputs : Inputs) → AreOfOnePool hands → told_by told hands ≡ Some inputs → AreTold root hands
told_root (stored_root n) told hands inputs one t = all_tells hands one (told_parts told hands inputs t).0
told_root (count_root n rows) told hands inputs one t = tt

-- the lines and hands after it
pub record IsUsedUp (root : Root) (last : Bool) (old new : Held) : Type 0 where
  pub lines : IsUsed old.lines root last new.lines
  pub script : new.script ≡ old.script
  pub workers : new.workers ≡ old.workers
  pub follows : AllZip Follows old.hands new.hands
  pub permits : AllZip SamePermits old.hands new.hands
  pub empty : new.waits ≡ []

pub used_ready : (root : Root) (last : Bool) (old new : Held) → IsUsedUp root last old new → IsReady old → IsReady new
used_ready root last old new used ready =
    let Kept : Script → Type 0 = λ s. (k : ℕ) (line : LineValue) → new.lines k ≡ Some line → IsKept s k line in
    record {
      count = follow_count old.hands new.hands used.follows ∙ ready.count ∙ sym used.workers;
      some = rw used.workers ready.some;
      few = rw used.workers ready.few;
      one = one_still old.hands new.hands used.follows ready.one;
      permits = two_still old.hands new.hands used.permits ready.permits;
      own = rw (same_pools old.hands new.hands used.follows) (used_pools (pools_of old.hands) old.lines new.lines root last used.lines ready.own);
      kept = subst Kept (sym used.script) (used_kept old.script old.lines new.lines root last used.lines ready.kept);
      empty = used.empty;
    }

module _ (n : ℕ) (action : Action) (o : Operand) (old : Held) (told : Option Inputs) (a : IsActed n action o old) where
  arrives : List Row
  arrives = arriving old.lines o.root o.chain

  pub act_goes_on : (new : Held) (taken now : Option (List ℕ)) → IsUsedUp o.root o.last old new
      → (AreTold o.root old.hands → TookAll taken (text_of_rows action (arriving old.lines o.root o.chain)) now)
      → (AreTold o.root old.hands → length (arriving old.lines o.root o.chain) ≤ most_rows)
      → Does (do_action n) (o ∷ []) told old new taken now
  act_goes_on new taken now used took few =
      let but = keeps_but old.lines new.lines o.root o.last used.lines in
      record {
        goes = λ inputs begun done left t work at.
            let tells = told_root o.root told old.hands inputs a.ready.one t in
            action_is_done (IsWeighed old.hands) (IsWeighed new.hands) old.script (told_by told old.hands) n action (kept_by old.lines) (kept_by new.lines) o (root_rows old.lines o.root) taken now (weighed_still old.hands new.hands used.follows) a.acting but (few tells) (took tells)
            inputs begun done left t work at;
        keeps = action_keeps old.script n (kept_by old.lines) (kept_by new.lines) o but;
        ready = used_ready o.root o.last old new used a.ready;
      }

  -- it was cut off
  cut : {S : Type 0} (g : Ghosts S) (hands : List HandValue) (out new : S) → hands ≡ old.hands
      → IsCutOff g old.lines o.root o.chain (text_of_rows action) hands out new
      → Stops (IsWeighed old.hands) old.script (told_by told old.hands) (do_action n) (kept_by old.lines) (g.taken out) cut_off (g.taken new)
  cut g hands out new same (inl none) =
      let Stop : Option (List ℕ) → Type 0 = λ t. Stops (IsWeighed old.hands) old.script (told_by told old.hands) (do_action n) (kept_by old.lines) (g.taken out) cut_off t in
      subst Stop (sym (ap g.taken none)) (item_is_cut_off (IsWeighed old.hands) old.script (told_by told old.hands) (do_action n) (kept_by old.lines) (g.taken out))
  cut g hands out new same (inr begun_so) = λ inputs begun done left t work at.
      let tells = told_root o.root told old.hands inputs a.ready.one t in
      let Told : List HandValue → Type 0 = λ hs. AreTold o.root hs in
      let so = begun_so (subst Told (sym same) tells) in
      action_is_cut_off (IsWeighed old.hands) old.script (told_by told old.hands) n action (kept_by old.lines) o (root_rows old.lines o.root) (g.taken out) (g.taken new) a.acting so.0 so.1
      inputs begun done left t work at

  pub act_stops : {S : Type 0} (g : Ghosts S) (now : List HandValue) (out new : S) (why : ActErr)
      → ActStopped g old.lines o.root o.chain (text_of_rows action) old.hands now out new why
      → StopsAt (do_action n) told old (g.taken out) (act_error n why) (g.taken new)
  act_stops g now out new acts.TooManyRows h =
      let Stop : Option (List ℕ) → Type 0 = λ t. StopsAt (do_action n) told old (g.taken out) (act_error n acts.TooManyRows) t in
      subst Stop (sym (ap g.taken h.1)) (λ inputs begun done left t work at.
      let tells = told_root o.root told old.hands inputs a.ready.one t in
      action_has_too_many (IsWeighed old.hands) old.script (told_by told old.hands) n action (kept_by old.lines) o (root_rows old.lines o.root) (g.taken out) a.acting (h.0 tells)
      inputs begun done left t work at)
  act_stops g now out new (acts.Disk count) h = cut g old.hands out new refl h.1
  act_stops g now out new acts.Damaged h = cut g old.hands out new refl h.1
  act_stops g now out new acts.NoMemory h = cut g old.hands out new refl h
  act_stops g now out new (acts.Write count) h = cut g old.hands out new refl (inr h.0)

-- what it tells
pub act_tells : {S : Type 0} (g : Ghosts S) (n : ℕ) (lines : Lines) (root : Root) (ops : List LocalOp) (text : List Row → List ℕ) (hands now : List HandValue) (out new : S) (why : ActErr) (a b : ℕ)
    → ActStopped g lines root ops text hands now out new why → TellsStop (act_error n why) a b (g.faults out) (g.faults new) hands now
act_tells g n lines root ops text hands now out new acts.TooManyRows a b h = tt
act_tells g n lines root ops text hands now out new (acts.Disk count) a b h = h.0
act_tells g n lines root ops text hands now out new acts.Damaged a b h = h.0
act_tells g n lines root ops text hands now out new acts.NoMemory a b h = tt
act_tells g n lines root ops text hands now out new (acts.Write count) a b h = h.1
