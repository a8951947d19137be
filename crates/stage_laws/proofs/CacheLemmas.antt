-- How a cache goes on, or stops.
use Rattle.std.proofs.Common.{◌≡◌, ℕ, ◌<◌, ◌≤◌, true, List, [], ◌∷◌, length, Option, Some, refl, sym, ap, ◌∙◌}
use Rattle.std.specs.List.{flat_map}
use Rattle.row_defs.specs.Limits.{most_rows}
use Rattle.row_defs.specs.Rows.{Row}
use Rattle.row_defs.specs.LocalOps.{rows_through}
use Rattle.row_defs.specs.Inputs.{Inputs}
use Rattle.row_defs.specs.Operands.{Operand}
use Rattle.script_defs.specs.Scripts.{cache_form, line, Script, statement_at}
use Rattle.script_defs.specs.Lists.{Lists}
use Rattle.script_defs.specs.Work.{Item, do_line, has_number}
use Rattle.script_defs.specs.Runs.{failure_of_statement}
use Rattle.script_defs.specs.Plans.{IsOperand}
use Rattle.script_defs.specs.Ends.{too_many, IsTooMany}
use Rattle.run_laws.specs.Order.{lines_among, InWork}
use Rattle.run_laws.specs.Laws.{IsRunOf, texts_among}
use Rattle.run_laws.proofs.RunLemmas.{runs_are_runs}
use Rattle.stage_laws.specs.Standing.{Kept, KeepsOneMore, AreKept, KeepsBut, AreListed, HasRows, StillHolds, IsAt, GoesOn, Stops, KeepsOn, IsCaching}
use Rattle.stage_laws.proofs.EndLemmas.{cached_first}
use Rattle.stage_laws.proofs.ItemLemmas.{names_done, kept_goes_on, line_keeps}
use Rattle.stage_laws.proofs.ActionLemmas.{still_kept, still_listed, operand_rows, arrived, not_many, many_fails}

-- the line that a cache names is done before it
named_done : (script : Script) (done left : List Item) (n of : ℕ) (name : List ℕ) → InWork script done (do_line n ∷ left)
    → statement_at script n ≡ Some (line name (cache_form of)) → has_number (lines_among done) of ≡ true
named_done script done left n of name work is =
    let names = names_done script (lines_among done) n name (cache_form of) work.order.0 is in
    names.0

-- the rows that arrive at a cache
cached : (script : Script) (inputs : Inputs) (lists : Lists) (done left : List Item) (kept : Kept) (n of : ℕ) (o : Operand) (rows : List Row)
    → InWork script done (do_line n ∷ left) → IsRunOf script inputs lists done → AreListed lists kept → IsCaching script n of kept o rows
    → lists of ≡ Some (flat_map (rows_through o.chain) rows)
cached script inputs lists done left kept n of o rows work run all a =
    let has = named_done script done left n of a.name work a.is in
    arrived script inputs lists done (do_line n ∷ left) kept of o rows work run all has a.operand a.at_root

pub cache_is_kept : (W W' : List Row → Type 0) (script : Script) (told : Option Inputs) (n of : ℕ) (kept less now : Kept) (o : Operand) (rows : List Row) (taken : Option (List ℕ))
    → StillHolds W W' → W' (flat_map (rows_through o.chain) rows) → IsCaching script n of kept o rows
    → length (flat_map (rows_through o.chain) rows) ≤ most_rows → KeepsBut o.root o.last kept less
    → KeepsOneMore less n (flat_map (rows_through o.chain) rows) now → GoesOn W W' script told (do_line n) kept taken now taken
cache_is_kept W W' script told n of kept less now o rows taken still holds a few but onto = λ inputs begun done left tells work at.
    let arriving = flat_map (rows_through o.chain) rows in
    let list = cached script inputs at.lists done left kept n of o rows work at.run at.are a in
    let let_go : IsAt W script inputs begun done less taken =
    record { lists = at.lists; run = at.run; are = still_listed at.lists o.root o.last kept less but at.are; cached = at.cached; since = at.since } in
    kept_goes_on W W' script inputs begun done left n a.name (cache_form of) arriving less now taken still work let_go
    a.is (λ from same. holds) list (not_many (at.lists of) arriving list few) onto

pub cache_keeps : (script : Script) (n : ℕ) (rows : List Row) (kept less now : Kept) (o : Operand)
    → KeepsBut o.root o.last kept less → KeepsOneMore less n rows now → KeepsOn script (do_line n) (o ∷ []) kept now
cache_keeps script n rows kept less now o but onto = λ later done left last work are.
    line_keeps script n rows less now onto later done left last.1 work (still_kept script done kept less o later but last are)

pub cache_has_too_many : (W : List Row → Type 0) (script : Script) (told : Option Inputs) (n of : ℕ) (kept : Kept) (o : Operand) (rows : List Row) (taken : Option (List ℕ))
    → IsCaching script n of kept o rows → most_rows < length (flat_map (rows_through o.chain) rows)
    → Stops W script told (do_line n) kept taken (too_many n) taken
cache_has_too_many W script told n of kept o rows taken a many = λ inputs begun done left tells work at.
    let list = cached script inputs at.lists done left kept n of o rows work at.run at.are a in
    let r = runs_are_runs script inputs at.lists done (do_line n ∷ left) work at.run in
    let stops : IsTooMany script inputs n (texts_among script at.lists done) = record {
      count = length done;
      done = record { lists = at.lists; run = r.0; texts = sym r.1 };
      item = do_line n;
      left = left;
      work = r.2;
      number = refl;
      fails = ap (failure_of_statement inputs at.lists) a.is ∙ many_fails (at.lists of) (flat_map (rows_through o.chain) rows) list many;
    } in
    record {
      took = texts_among script at.lists done;
      since = at.since;
      end = (stops, cached_first W script at.lists done (do_line n ∷ left) work at.cached);
    }

pub cache_has_rows : (script : Script) (done left : List Item) (kept : Kept) (n of : ℕ) (name : List ℕ) (o : Operand) (later : List Operand)
    → InWork script done (do_line n ∷ left) → AreKept script done (o ∷ later) kept → statement_at script n ≡ Some (line name (cache_form of))
    → IsOperand script of o → HasRows kept o.root
cache_has_rows script done left kept n of name o later work are is p =
    operand_rows script done (do_line n ∷ left) kept of o later work are (named_done script done left n of name work is) p
