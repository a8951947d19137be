-- How one item of the work goes on, or stops.
use Rattle.std.proofs.Common.{◌≡◌, ℕ, true, false, List, [], ◌∷◌, ◌++◌, length, map, Option, None, Some, is_some, IsSome, inl, inr, refl, sym, ap, ◌∙◌, subst, append-nil}
use Rattle.std.specs.Option.{option_map}
use Rattle.std.specs.List.{AllByRecursion, flat_map, range_with_len}
use Rattle.std.proofs.lemmas.Bool.{true≢false, eq-eqb}
use Rattle.row_defs.specs.Rows.{Row, number_row}
use Rattle.row_defs.specs.LocalOps.{LocalOp, rows_made}
use Rattle.row_defs.specs.Inputs.{Inputs, InputFailure, failure_of_input}
use Rattle.row_defs.specs.Operands.{Operand}
use Rattle.script_defs.specs.Scripts.{Form, lines_form, generate_form, local_form, cache_form, form_operands, line, Script, statement_at, stored, origin_of}
use Rattle.script_defs.specs.Lists.{Lists, input_failure, IsLine, failure_of_form}
use Rattle.script_defs.specs.Work.{Item, do_line, has_number}
use Rattle.script_defs.specs.Runs.{failure_of_statement}
use Rattle.script_defs.specs.Plans.{is_stored_origin}
use Rattle.script_defs.specs.Ends.{stopped, cut_off, IsStopped, IsCutOff}
use Rattle.dia_edge.specs.Sinks.{TookAll}
use Rattle.run_laws.specs.Order.{lines_among, IsReadyLine, InWork}
use Rattle.run_laws.specs.Laws.{texts_among, with_list}
use Rattle.run_laws.proofs.WorkLemmas.{has_cases, is_one}
use Rattle.run_laws.proofs.RunLemmas.{line_goes_on, runs_are_runs, grows_with, lines_push_line, some_there, some_rows, listed_there, some_form}
use Rattle.stage_laws.specs.Standing.{Kept, KeepsOneMore, AreKept, AreListed, AllCached, StillHolds, EndsWith, IsAt, GoesOn, Stops, KeepsOn}
use Rattle.stage_laws.proofs.EndLemmas.{cached_first}

-- ends ----------------------------------------------------------------------------------------------------------------

-- the items done, and nothing of the next one
pub cut_here : (W : List Row → Type 0) (script : Script) (inputs : Inputs) (begun : Option (List ℕ)) (done left : List Item) (kept : Kept) (taken : Option (List ℕ)) → InWork script done left
    → (at : IsAt W script inputs begun done kept taken) → IsCutOff script inputs (texts_among script at.lists done)
cut_here W script inputs begun done left kept taken work at =
    let r = runs_are_runs script inputs at.lists done left work at.run in
    let texts = texts_among script at.lists done in
    record { count = length done; all = texts; done = record { lists = at.lists; run = r.0; texts = sym r.1 }; rest = []; parts = sym (append-nil texts) }

pub item_is_cut_off : (W : List Row → Type 0) (script : Script) (told : Option Inputs) (item : Item) (kept : Kept) (taken : Option (List ℕ)) → Stops W script told item kept taken cut_off taken
item_is_cut_off W script told item kept taken = λ inputs begun done left tells work at. record {
  took = texts_among script at.lists done;
  since = at.since;
  end = cut_here W script inputs begun done (item ∷ left) kept taken work at;
}

-- the line of an input that can't be read
fails_here : (W : List Row → Type 0) (script : Script) (inputs : Inputs) (begun : Option (List ℕ)) (done left : List Item) (n : ℕ) (name input : List ℕ) (cause : InputFailure) (kept : Kept) (taken : Option (List ℕ))
    → InWork script done (do_line n ∷ left) → (at : IsAt W script inputs begun done kept taken) → statement_at script n ≡ Some (line name (lines_form input))
    → failure_of_input (inputs input) ≡ Some cause → EndsWith W script inputs (stopped input cause) (texts_among script at.lists done)
fails_here W script inputs begun done left n name input cause kept taken work at is fails =
    let r = runs_are_runs script inputs at.lists done (do_line n ∷ left) work at.run in
    let stops : IsStopped script inputs input cause (texts_among script at.lists done) = record {
      count = length done;
      done = record { lists = at.lists; run = r.0; texts = sym r.1 };
      next = n;
      left = left;
      work = r.2;
      defined = name;
      is = is;
      fails = ap (failure_of_statement inputs at.lists) is ∙ ap (option_map input_failure) fails;
    } in
    (stops, cached_first W script at.lists done (do_line n ∷ left) work at.cached)

pub input_fails : (W : List Row → Type 0) (script : Script) (told : Option Inputs) (n : ℕ) (name input : List ℕ) (cause : InputFailure) (kept : Kept) (taken : Option (List ℕ))
    → statement_at script n ≡ Some (line name (lines_form input)) → ((inputs : Inputs) → told ≡ Some inputs → failure_of_input (inputs input) ≡ Some cause)
    → Stops W script told (do_line n) kept taken (stopped input cause) taken
input_fails W script told n name input cause kept taken is fails = λ inputs begun done left tells work at. record {
  took = texts_among script at.lists done;
  since = at.since;
  end = fails_here W script inputs begun done left n name input cause kept taken work at is (fails inputs tells);
}

-- lines ---------------------------------------------------------------------------------------------------------------

still_listed : (lists : Lists) (n : ℕ) (rows : List Row) → is_some (lists n) ≡ false → (kept : Kept) → AreListed lists kept → AreListed (with_list lists n rows) kept
still_listed lists n rows none kept all = λ m held is. grows_with lists n rows none m (some_there (lists m) held (all m held is)) ∙ all m held is

-- what is known of the rows of caches, behind a line that has this list
cached_push : (W W' : List Row → Type 0) (script : Script) (lists : Lists) (done : List Item) (n : ℕ) (name : List ℕ) (form : Form) (rows : List Row) → StillHolds W W'
    → ((l : ℕ) → is_some (lists l) ≡ has_number (lines_among done) l) → is_some (lists n) ≡ false → statement_at script n ≡ Some (line name form)
    → ((of : ℕ) → form ≡ cache_form of → W' rows) → AllCached W script lists done → AllCached W' script (with_list lists n rows) (done ++ do_line n ∷ [])
cached_push W W' script lists done n name form rows still listed none is holds all = λ l of defined held has at there.
    let Has : List ℕ → Type 0 = λ xs. has_number xs l ≡ true in
    elim (has_cases (lines_among done) (n ∷ []) l (subst Has (lines_push_line done n) has)) [
      | inl e ↦ still held (all l of defined held e at (sym (grows_with lists n rows none l (listed l ∙ e)) ∙ there))
      | inr e ↦
          let At : ℕ → Type 0 = λ m. statement_at script m ≡ Some (line name form) in
          let same : form ≡ cache_form of = some_form name defined form (cache_form of) (sym (subst At (is_one n l e) is) ∙ at) in
          let here : with_list lists n rows n ≡ Some rows = rw (eq-eqb n n refl) refl in
          let List-at : ℕ → Type 0 = λ m. with_list lists n rows m ≡ Some rows in
          let list : rows ≡ held = some_rows rows held (sym (subst List-at (is_one n l e) here) ∙ there) in
          subst W' list (holds of same)
    ]

-- a line that has this list, of which nothing is kept anew
listed_goes_on : (W W' : List Row → Type 0) (script : Script) (inputs : Inputs) (begun : Option (List ℕ)) (done left : List Item) (n : ℕ) (name : List ℕ) (form : Form) (rows : List Row) (kept : Kept) (taken : Option (List ℕ))
    → StillHolds W W' → InWork script done (do_line n ∷ left) → (at : IsAt W script inputs begun done kept taken) → statement_at script n ≡ Some (line name form)
    → ((of : ℕ) → form ≡ cache_form of → W' rows) → IsLine inputs at.lists form rows → failure_of_form inputs at.lists form ≡ None
    → IsAt W' script inputs begun (done ++ do_line n ∷ []) kept taken
listed_goes_on W W' script inputs begun done left n name form rows kept taken still work at is holds right free =
    let none = at.run.listed n ∙ work.order.1 in
    let g = line_goes_on script inputs at.lists done left n name form rows work at.run is right free in
    record {
      lists = with_list at.lists n rows;
      run = g.0;
      are = still_listed at.lists n rows none kept at.are;
      cached = cached_push W W' script at.lists done n name form rows still at.run.listed none is holds at.cached;
      since = let Took : List ℕ → Type 0 = λ t. TookAll begun t taken in subst Took (sym g.1) at.since;
    }

-- a line that has this list, which is kept
pub kept_goes_on : (W W' : List Row → Type 0) (script : Script) (inputs : Inputs) (begun : Option (List ℕ)) (done left : List Item) (n : ℕ) (name : List ℕ) (form : Form) (rows : List Row) (kept now : Kept) (taken : Option (List ℕ))
    → StillHolds W W' → InWork script done (do_line n ∷ left) → (at : IsAt W script inputs begun done kept taken) → statement_at script n ≡ Some (line name form)
    → ((of : ℕ) → form ≡ cache_form of → W' rows) → IsLine inputs at.lists form rows → failure_of_form inputs at.lists form ≡ None → KeepsOneMore kept n rows now
    → IsAt W' script inputs begun (done ++ do_line n ∷ []) now taken
kept_goes_on W W' script inputs begun done left n name form rows kept now taken still work at is holds right free onto =
    let more = with_list at.lists n rows in
    let none = at.run.listed n ∙ work.order.1 in
    let g = line_goes_on script inputs at.lists done left n name form rows work at.run is right free in
    let here : more n ≡ Some rows = rw (eq-eqb n n refl) refl in
    let At : ℕ → Type 0 = λ m. more m ≡ Some rows in
    let before = still_listed at.lists n rows none kept at.are in
    record {
      lists = more;
      run = g.0;
      are = λ m held there. elim (onto.others m) [
        | inl same ↦ before m held (sym same ∙ there)
        | inr new ↦ subst At (sym new.0) here ∙ sym new.1 ∙ there
      ];
      cached = cached_push W W' script at.lists done n name form rows still at.run.listed none is holds at.cached;
      since = let Took : List ℕ → Type 0 = λ t. TookAll begun t taken in subst Took (sym g.1) at.since;
    }

pub line_is_kept : (W W' : List Row → Type 0) (script : Script) (told : Option Inputs) (n : ℕ) (name : List ℕ) (form : Form) (rows : List Row) (kept now : Kept) (taken : Option (List ℕ))
    → StillHolds W W' → statement_at script n ≡ Some (line name form) → ((of : ℕ) → form ≡ cache_form of → W' rows)
    → ((inputs : Inputs) (lists : Lists) → told ≡ Some inputs → AreListed lists kept → IsLine inputs lists form rows × (failure_of_form inputs lists form ≡ None))
    → KeepsOneMore kept n rows now → GoesOn W W' script told (do_line n) kept taken now taken
line_is_kept W W' script told n name form rows kept now taken still is holds right onto = λ inputs begun done left tells work at.
    let r = right inputs at.lists tells at.are in
    kept_goes_on W W' script inputs begun done left n name form rows kept now taken still work at is holds r.0 r.1 onto

pub line_keeps : (script : Script) (n : ℕ) (rows : List Row) (kept now : Kept) → KeepsOneMore kept n rows now → KeepsOn script (do_line n) [] kept now
line_keeps script n rows kept now onto = λ later done left last work are. λ l name form has is stored read.
    let Has : List ℕ → Type 0 = λ xs. has_number xs l ≡ true in
    let Some-now : ℕ → Type 0 = λ m. IsSome (now m) in
    elim (onto.others l) [
      | inl same ↦ elim (has_cases (lines_among done) (n ∷ []) l (subst Has (lines_push_line done n) has)) [
        | inl e ↦ ap is_some same ∙ are l name form e is stored read
        | inr e ↦ subst Some-now (is_one n l e) (ap is_some onto.here)
      ]
      | inr new ↦ ap is_some new.1
    ]

-- the lines that a line names that can be done
pub names_done : (script : Script) (done : List ℕ) (n : ℕ) (name : List ℕ) (form : Form) → IsReadyLine script done n → statement_at script n ≡ Some (line name form)
    → AllByRecursion (λ m. has_number done m ≡ true) (form_operands form)
names_done script done n name form r is =
    let same : r.form ≡ form = some_form r.name name r.form form (sym r.is ∙ is) in
    let Ops : Form → Type 0 = λ f. AllByRecursion (λ m. has_number done m ≡ true) (form_operands f) in
    subst Ops same r.operands

-- a line that is made of another
local_goes_on : (W W' : List Row → Type 0) (script : Script) (told : Option Inputs) (n of : ℕ) (op : LocalOp) (name : List ℕ) (kept : Kept) (taken : Option (List ℕ))
    → StillHolds W W' → statement_at script n ≡ Some (line name (local_form of op)) → GoesOn W W' script told (do_line n) kept taken kept taken
local_goes_on W W' script told n of op name kept taken still is = λ inputs begun done left tells work at.
    let names = names_done script (lines_among done) n name (local_form of op) work.order.0 is in
    let a = listed_there (at.lists of) (at.run.listed of ∙ names.0) in
    listed_goes_on W W' script inputs begun done left n name (local_form of op) (flat_map (rows_made op) a.0) kept taken still work at is
    (λ from wrong. (let no : ⊥ = cc in absurd no)) (a.0, a.1, refl) refl

-- a line whose rows aren't kept
pub other_goes_on : (W W' : List Row → Type 0) (script : Script) (told : Option Inputs) (n : ℕ) (name : List ℕ) (form : Form) (kept : Kept) (taken : Option (List ℕ))
    → StillHolds W W' → is_stored_origin (origin_of form) ≡ false → statement_at script n ≡ Some (line name form) → GoesOn W W' script told (do_line n) kept taken kept taken
other_goes_on W W' script told n name (lines_form input) kept taken still other is = absurd (true≢false other)
other_goes_on W W' script told n name (generate_form count) kept taken still other is = λ inputs begun done left tells work at.
    listed_goes_on W W' script inputs begun done left n name (generate_form count) (map number_row (range_with_len 0 count)) kept taken still work at is
    (λ from wrong. (let no : ⊥ = cc in absurd no)) refl refl
other_goes_on W W' script told n name (local_form of op) kept taken still other is = local_goes_on W W' script told n of op name kept taken still is
other_goes_on W W' script told n name (cache_form of) kept taken still other is = absurd (true≢false other)

not_stored : (form : Form) → is_stored_origin (origin_of form) ≡ false → origin_of form ≡ stored → ⊥
not_stored form other is = true≢false (sym (ap is_stored_origin is) ∙ other)

pub other_keeps : (script : Script) (n : ℕ) (name : List ℕ) (form : Form) (kept : Kept)
    → is_stored_origin (origin_of form) ≡ false → statement_at script n ≡ Some (line name form) → (later : List Operand) (done left : List Item) → InWork script done (do_line n ∷ left)
    → AreKept script done later kept → AreKept script (done ++ do_line n ∷ []) later kept
other_keeps script n name form kept other here later done left work are = λ l defined other_form has is stored read.
    let Has : List ℕ → Type 0 = λ xs. has_number xs l ≡ true in
    elim (has_cases (lines_among done) (n ∷ []) l (subst Has (lines_push_line done n) has)) [
      | inl e ↦ are l defined other_form e is stored read
      | inr e ↦
          let At : ℕ → Type 0 = λ m. statement_at script m ≡ Some (line name form) in
          let same : form ≡ other_form = some_form name defined form other_form (sym (subst At (is_one n l e) here) ∙ is) in
          absurd (not_stored form other (ap origin_of same ∙ stored))
    ]
