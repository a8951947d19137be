-- How the reading of an input goes on, or stops.
use Rattle.std.proofs.Common.{◌≡◌, ℕ, ◌<◌, Bool, true, List, [], length, Option, Some, IfSome, ◌⊎◌, inl, inr, sym, ap, ◌∙◌, subst, arith}
use Rattle.std.specs.Prelude.{All}
use Rattle.std.specs.Option.{option_map}
use Rattle.std.specs.List.{AllZip}
use Rattle.row_defs.specs.Inputs.{Inputs, missing, line_too_long, input_too_long}
use Rattle.script_defs.specs.Scripts.{lines_form, line, Script, statement_at}
use Rattle.script_defs.specs.Lists.{input_failure}
use Rattle.script_defs.specs.Plans.{kinds_at}
use Rattle.script_defs.specs.Work.{Item, do_line}
use Rattle.dia_edge.specs.Shelves.{Holdings}
use Rattle.block_pool.specs.Handles.{HandValue, Follows}
use Rattle.dia_file.specs.Cuts.{rows_of_files}
use Rattle.dia_file.specs.Files.{FileValue}
use Rattle.dia_lines.specs.Inputs.{IsInput}
use Rattle.input_file.specs.declared.refusals.ReadFileErr.{ReadFileErr}
use Rattle.input_file.specs.declared.refusals.ReadFileErr.TheVariants as inputs
use Rattle.input_file.specs.Refusals.{IsFileCause, IsFileFault}
use Rattle.scatter.specs.Lines.{LineValue, Lines, Sets, HasKinds}
use Rattle.scatter.specs.Phases.{pools_of}
use Rattle.scatter.specs.Stocks.{AreInPools}
use Rattle.scatter.proofs.Rooted.{put_value}
use Rattle.scatter.proofs.SameLines.{same_pools}
use Rattle.stage_laws.proofs.ItemLemmas.{item_is_cut_off, input_fails, line_is_kept, line_keeps}
use Rattle.script_run.specs.declared.run_err.RunErr.{RunErr}
use Rattle.script_run.specs.declared.run_err.RunErr.TheVariants as errors
use Rattle.script_run.specs.Errors.{input_error, TellsStop}
use Rattle.script_run.specs.Held.{Held, kept_by, IsKept, IsReady, told_in, told_by}
use Rattle.script_run.specs.Reading.{HitsSome}
use Rattle.script_run.specs.Steps.{Does, StopsAt, IsPut}
use Rattle.script_run.proofs.ToldLemmas.{told_parts, told_input}
use Rattle.script_run.proofs.HandLemmas.{SamePermits, one_still, two_still}
use Rattle.script_run.specs.Weighing.{IsWeighed}
use Rattle.script_run.proofs.LineLemmas.{keeps_more, all_kept_more}
use Rattle.script_run.proofs.WeighLemmas.{weighed_still}
use Rattle.scatter.proofs.Hands.{follow_count}

-- stops -----------------------------------------------------------------------------------------------------------------

-- memory ran out
pub memory_stops : (item : Item) (told : Option Inputs) (old : Held) (taken : Option (List ℕ)) (e : RunErr) → e ≡ errors.NoMemory → StopsAt item told old taken e taken
memory_stops item told old taken e is =
    let Stop : RunErr → Type 0 = λ x. StopsAt item told old taken x taken in
    subst Stop (sym is) (item_is_cut_off (IsWeighed old.hands) old.script (told_by told old.hands) item (kept_by old.lines) taken)

cause_stops : (old : Held) (holds : Option Holdings) (fixed : Bool) (n : ℕ) (name input : List ℕ) (taken : Option (List ℕ)) (why : ReadFileErr)
    → statement_at old.script n ≡ Some (line name (lines_form input)) → (fixed ≡ true → IfSome holds (λ held. IsFileCause why (held input)))
    → StopsAt (do_line n) (told_in holds fixed) old taken (input_error input why) taken
cause_stops old holds fixed n name input taken inputs.Missing is says =
    input_fails (IsWeighed old.hands) old.script (told_by (told_in holds fixed) old.hands) n name input missing (kept_by old.lines) taken is
    (λ ins t. told_input holds fixed ins (IsFileCause inputs.Missing) input (told_parts (told_in holds fixed) old.hands ins t).1 says)
cause_stops old holds fixed n name input taken (inputs.LineTooLong k) is says =
    input_fails (IsWeighed old.hands) old.script (told_by (told_in holds fixed) old.hands) n name input (line_too_long k) (kept_by old.lines) taken is
    (λ ins t. told_input holds fixed ins (IsFileCause (inputs.LineTooLong k)) input (told_parts (told_in holds fixed) old.hands ins t).1 says)
cause_stops old holds fixed n name input taken inputs.InputTooLong is says =
    input_fails (IsWeighed old.hands) old.script (told_by (told_in holds fixed) old.hands) n name input input_too_long (kept_by old.lines) taken is
    (λ ins t. told_input holds fixed ins (IsFileCause inputs.InputTooLong) input (told_parts (told_in holds fixed) old.hands ins t).1 says)
cause_stops old holds fixed n name input taken (inputs.Read count) is says = item_is_cut_off (IsWeighed old.hands) old.script (told_by (told_in holds fixed) old.hands) (do_line n) (kept_by old.lines) taken
cause_stops old holds fixed n name input taken (inputs.Disk count) is says = item_is_cut_off (IsWeighed old.hands) old.script (told_by (told_in holds fixed) old.hands) (do_line n) (kept_by old.lines) taken
cause_stops old holds fixed n name input taken inputs.NoMemory is says = item_is_cut_off (IsWeighed old.hands) old.script (told_by (told_in holds fixed) old.hands) (do_line n) (kept_by old.lines) taken

pub input_stops : (old : Held) (holds : Option Holdings) (fixed : Bool) (n : ℕ) (name input : List ℕ) (taken : Option (List ℕ)) (why : ReadFileErr) (e : RunErr)
    → statement_at old.script n ≡ Some (line name (lines_form input)) → (fixed ≡ true → IfSome holds (λ held. IsFileCause why (held input)))
    → (e ≡ input_error input why) ⊎ (e ≡ errors.NoMemory) → StopsAt (do_line n) (told_in holds fixed) old taken e taken
input_stops old holds fixed n name input taken why e is says (inr none) = memory_stops (do_line n) (told_in holds fixed) old taken e none
input_stops old holds fixed n name input taken why e is says (inl same) =
    let Stop : RunErr → Type 0 = λ x. StopsAt (do_line n) (told_in holds fixed) old taken x taken in
    subst Stop (sym same) (cause_stops old holds fixed n name input taken why is says)

-- what it tells
cause_tells : (input : List ℕ) (why : ReadFileErr) (a b x y : ℕ) (hands now : List HandValue) → IsFileFault why a b → HitsSome why hands now → TellsStop (input_error input why) a b x y hands now
cause_tells input inputs.Missing a b x y hands now fault hit = tt
cause_tells input (inputs.LineTooLong k) a b x y hands now fault hit = tt
cause_tells input inputs.InputTooLong a b x y hands now fault hit = tt
cause_tells input (inputs.Read count) a b x y hands now fault hit = fault
cause_tells input (inputs.Disk count) a b x y hands now fault hit = hit
cause_tells input inputs.NoMemory a b x y hands now fault hit = tt

pub input_tells : (input : List ℕ) (why : ReadFileErr) (e : RunErr) (a b x y : ℕ) (hands now : List HandValue) → (e ≡ input_error input why) ⊎ (e ≡ errors.NoMemory)
    → IsFileFault why a b → HitsSome why hands now → TellsStop e a b x y hands now
input_tells input why e a b x y hands now (inl same) fault hit =
    let Tells : RunErr → Type 0 = λ r. TellsStop r a b x y hands now in subst Tells (sym same) (cause_tells input why a b x y hands now fault hit)
input_tells input why e a b x y hands now (inr none) fault hit = let Tells : RunErr → Type 0 = λ r. TellsStop r a b x y hands now in subst Tells (sym none) tt

pub memory_tells : (e : RunErr) (a b x y : ℕ) (hands now : List HandValue) → e ≡ errors.NoMemory → TellsStop e a b x y hands now
memory_tells e a b x y hands now none = let Tells : RunErr → Type 0 = λ r. TellsStop r a b x y hands now in subst Tells (sym none) tt

-- goes on ---------------------------------------------------------------------------------------------------------------

-- the workers are ready behind files that were put
pub put_ready : (n : ℕ) (files : List FileValue) (old new : Held) → Sets old.lines n (Some (put_value files)) new.lines → AreInPools (pools_of old.hands) new.lines
    → All (HasKinds (kinds_at old.script n)) files → length files ≡ old.workers → new.script ≡ old.script → new.workers ≡ old.workers → new.hands ≡ old.hands → new.waits ≡ old.waits
    → IsReady old → IsReady new
put_ready n files old new sets own kinds count script workers hands waits ready =
    let some : 0 < length files = (let low = ready.some in omega arith) in
    let Kept : Script → Type 0 = λ s. (k : ℕ) (line : LineValue) → new.lines k ≡ Some line → IsKept s k line in
    record {
      count = ap length hands ∙ ready.count ∙ sym workers;
      some = rw workers ready.some;
      few = rw workers ready.few;
      one = rw hands ready.one;
      permits = rw hands ready.permits;
      own = rw hands own;
      kept = subst Kept (sym script) (all_kept_more old.script old.lines new.lines n files some kinds sets ready.kept);
      empty = waits ∙ ready.empty;
    }

-- files of an input with the hands that read it
pub input_goes_on : (n : ℕ) (name input : List ℕ) (files : List FileValue) (old mid new : Held) (holds : Option Holdings) (fixed : Bool) (taken : Option (List ℕ))
    → statement_at old.script n ≡ Some (line name (lines_form input)) → (fixed ≡ true → IfSome holds (λ held. IsInput (rows_of_files files) (held input)))
    → mid.lines ≡ old.lines → AllZip Follows old.hands new.hands → IsPut n files mid new → Does (do_line n) [] (told_in holds fixed) old new taken taken
input_goes_on n name input files old mid new holds fixed taken is says same follows put =
    let rows = rows_of_files files in
    let Set : Lines → Type 0 = λ lines. Sets lines n (Some (put_value files)) new.lines in
    let onto = keeps_more old.lines new.lines n files (subst Set same put.sets) in
    record {
      goes = line_is_kept (IsWeighed old.hands) (IsWeighed new.hands) old.script (told_by (told_in holds fixed) old.hands) n name (lines_form input) rows (kept_by old.lines) (kept_by new.lines) taken
          (weighed_still old.hands new.hands follows) is (λ of wrong. (let no : ⊥ = cc in absurd no))
          (λ ins lists t are.
          let h : IsInput rows (ins input) = told_input holds fixed ins (IsInput rows) input (told_parts (told_in holds fixed) old.hands ins t).1 says in
          ((h.bytes, h.there, h.lines), ap (option_map input_failure) h.free)) onto;
      keeps = line_keeps old.script n rows (kept_by old.lines) (kept_by new.lines) onto;
      ready = put.ready;
    }

-- the workers are ready with hands that follow and have the same permits
pub hands_ready : (old new : Held) → new.lines ≡ old.lines → new.script ≡ old.script → new.workers ≡ old.workers → new.waits ≡ old.waits
    → AllZip Follows old.hands new.hands → AllZip SamePermits old.hands new.hands → IsReady old → IsReady new
hands_ready old new lines script workers waits follows permits ready =
    let Own : Lines → Type 0 = λ ls. AreInPools (pools_of old.hands) ls in
    let Kept : Script → Type 0 = λ s. (k : ℕ) (line : LineValue) → new.lines k ≡ Some line → IsKept s k line in
    let Lined : Lines → Type 0 = λ ls. (k : ℕ) (line : LineValue) → ls k ≡ Some line → IsKept old.script k line in
    record {
      count = follow_count old.hands new.hands follows ∙ ready.count ∙ sym workers;
      some = rw workers ready.some;
      few = rw workers ready.few;
      one = one_still old.hands new.hands follows ready.one;
      permits = two_still old.hands new.hands permits ready.permits;
      own = rw (same_pools old.hands new.hands follows) (subst Own (sym lines) ready.own);
      kept = subst Kept (sym script) (subst Lined (sym lines) ready.kept);
      empty = waits ∙ ready.empty;
    }

-- hands that follow, and are the ones behind a put
pub follows_put : (old mid new : List HandValue) → new ≡ mid → AllZip Follows old mid → AllZip Follows old new
follows_put old mid new same follows = let To : List HandValue → Type 0 = λ hs. AllZip Follows old hs in subst To (sym same) follows
