-- How an action goes on, or stops.
use Rattle.std.proofs.Common.{◌≡◌, ℕ, ◌==◌, ◌<◌, ◌≤◌, Bool, true, false, not, ◌||◌, cond, ltb, List, [], ◌∷◌, ◌++◌, length, Option, None, Some, is_some, IsSome, inl, inr, refl, sym, ap, ◌∙◌, subst, arith, append_assoc}
use Rattle.std.specs.List.{flat_map}
use Rattle.std.proofs.lemmas.Bool.{ltb-false, ltb-true, true≢false, eq-eqb}
use Rattle.row_defs.specs.Limits.{most_rows}
use Rattle.row_defs.specs.Rows.{Row}
use Rattle.row_defs.specs.LocalOps.{rows_through}
use Rattle.row_defs.specs.Printed.{row_text}
use Rattle.row_defs.specs.Inputs.{Inputs}
use Rattle.row_defs.specs.Operands.{Root, stored_root, count_root, Operand, root_line, is_stored_at}
use Rattle.script_defs.specs.Scripts.{Form, lines_form, generate_form, local_form, cache_form, Action, print_action, size_action, sum_action, action_operand, Statement, line, act, Script, statement_at, stored, counted, origin_of}
use Rattle.script_defs.specs.Lists.{Lists, too_many_rows, too_many_in, rows_in}
use Rattle.script_defs.specs.Work.{Item, do_action, has_number}
use Rattle.script_defs.specs.Runs.{IsRightStatement, failure_of_statement, text_of_rows, action_text}
use Rattle.script_defs.specs.Plans.{IsOperand, IsRootOf, is_last, AreLast}
use Rattle.script_defs.specs.Ends.{too_many, cut_off, IsTooMany}
use Rattle.dia_edge.specs.Sinks.{TookAll, TookPrefix}
use Rattle.run_laws.specs.Order.{lines_among, IsReadyAction, InWork}
use Rattle.run_laws.specs.Laws.{IsRunOf, texts_among}
use Rattle.run_laws.proofs.RunLemmas.{goes_on, action_goes_on, runs_are_runs, roots_are_done, chains_make, right_at, lines_push_action, some_rows, some_action}
use Rattle.stage_laws.specs.Standing.{Kept, AreKept, is_read, KeepsBut, AreListed, HasRows, AreAtRoot, AllCached, StillHolds, GoesOn, Stops, KeepsOn, IsActing}
use Rattle.stage_laws.proofs.EndLemmas.{cached_first}

stored_number : (n m : ℕ) → stored_root n ≡ stored_root m → n ≡ m
stored_number n m same = cc

not-true : (b : Bool) → not b ≡ true → b ≡ false
not-true true wrong = absurd (true≢false (sym wrong))
not-true false is = refl

-- no later operand reads rows whose last use this is
unread_later : (root : Root) (m : ℕ) (later : List Operand) → root ≡ stored_root m → is_last root later ≡ true → is_read m later ≡ false
unread_later (stored_root n) m later same last =
    let Read : ℕ → Type 0 = λ k. is_read k later ≡ false in
    subst Read (stored_number n m same) (not-true (is_read n later) last)
unread_later (count_root n rows) m later same last = let wrong : ⊥ = cc in absurd wrong

read_more : (l : ℕ) (o : Operand) (later : List Operand) → is_read l later ≡ true → is_read l (o ∷ later) ≡ true
read_more l o later read =
    elim (is_stored_at l o.root) as (λ b. (b || is_read l later) ≡ true) [ true ↦ refl | false ↦ read ]

-- what later operands read is still kept
pub still_kept : (script : Script) (done : List Item) (kept now : Kept) (o : Operand) (later : List Operand) → KeepsBut o.root o.last kept now → AreLast (o ∷ later)
    → AreKept script done (o ∷ later) kept → AreKept script done later now
still_kept script done kept now o later but last are = λ l name form has is stored read. elim (but l) [
  | inl same ↦ ap is_some same ∙ are l name form has is stored (read_more l o later read)
  | inr gone ↦ absurd (true≢false (sym read ∙ unread_later o.root l later gone.0 (sym last.0 ∙ gone.1)))
]

pub action_keeps : (script : Script) (n : ℕ) (kept now : Kept) (o : Operand) → KeepsBut o.root o.last kept now → KeepsOn script (do_action n) (o ∷ []) kept now
action_keeps script n kept now o but = λ later done left last work are. λ l name form has is stored read.
    let Has : List ℕ → Type 0 = λ xs. has_number xs l ≡ true in
    still_kept script done kept now o later but last are l name form (subst Has (lines_push_action done n) has) is stored read

-- what is kept still has its list
pub still_listed : (lists : Lists) (root : Root) (last : Bool) (kept now : Kept) → KeepsBut root last kept now → AreListed lists kept → AreListed lists now
still_listed lists root last kept now but are = λ m rows there. elim (but m) [
  | inl same ↦ are m rows (sym same ∙ there)
  | inr gone ↦ (let both : None ≡ Some rows = sym gone.2 ∙ there in let wrong : ⊥ = cc in absurd wrong)
]

operand_has : (script : Script) (done : List ℕ) (n : ℕ) (action : Action) → IsReadyAction script done n → statement_at script n ≡ Some (act action)
    → has_number done (action_operand action) ≡ true
operand_has script done n action r is =
    let same : r.action ≡ action = some_action r.action action (sym r.is ∙ is) in
    let Has : Action → Type 0 = λ a. has_number done (action_operand a) ≡ true in
    subst Has same r.operand

-- what the operand asks for -------------------------------------------------------------------------------------------

root_there : (script : Script) (done left : List Item) (of : ℕ) (o : Operand) → InWork script done left → (p : IsOperand script of o)
    → has_number (lines_among done) of ≡ true → has_number (lines_among done) (root_line o.root) ≡ true
root_there script done left of o work p has = roots_are_done script done left (root_line o.root) o.chain of work p.chain has

counted_numbers : (form : Form) (count : ℕ) → origin_of form ≡ counted count → form ≡ generate_form count
counted_numbers (lines_form input) count is = let wrong : ⊥ = cc in absurd wrong
counted_numbers (generate_form n) count is = let same : n ≡ count = cc in ap generate_form same
counted_numbers (local_form of op) count is = let wrong : ⊥ = cc in absurd wrong
counted_numbers (cache_form of) count is = let wrong : ⊥ = cc in absurd wrong

read_here : (n : ℕ) (later : List Operand) → ((n == n) || is_read n later) ≡ true
read_here n later = rw (eq-eqb n n refl) refl

-- the rows at the root of the first operand are there
root_rows : (script : Script) (done : List Item) (kept : Kept) (root : Root) (later : List Operand) (name : List ℕ) (form : Form)
    → ((l : ℕ) (defined : List ℕ) (f : Form) → has_number (lines_among done) l ≡ true → statement_at script l ≡ Some (line defined f) → origin_of f ≡ stored
    → (is_stored_at l root || is_read l later) ≡ true → IsSome (kept l))
    → has_number (lines_among done) (root_line root) ≡ true → statement_at script (root_line root) ≡ Some (line name form) → IsRootOf form root → HasRows kept root
root_rows script done kept (stored_root n) later name form are has is root = are n name form has is root (read_here n later)
root_rows script done kept (count_root n rows) later name form are has is root = tt

-- where the line of an operand is done, the rows at its root are there
pub operand_rows : (script : Script) (done left : List Item) (kept : Kept) (of : ℕ) (o : Operand) (later : List Operand) → InWork script done left
    → AreKept script done (o ∷ later) kept → has_number (lines_among done) of ≡ true → IsOperand script of o → HasRows kept o.root
operand_rows script done left kept of o later work are has p =
    root_rows script done kept o.root later p.name p.form are (root_there script done left of o work p has) p.is p.root

-- the rows at the root of an action's operand are there
pub action_has_rows : (script : Script) (done left : List Item) (kept : Kept) (n : ℕ) (action : Action) (o : Operand) (later : List Operand) → InWork script done (do_action n ∷ left)
    → AreKept script done (o ∷ later) kept → statement_at script n ≡ Some (act action) → IsOperand script (action_operand action) o → HasRows kept o.root
action_has_rows script done left kept n action o later work are is p =
    let has = operand_has script (lines_among done) n action work.order.0 is in
    operand_rows script done (do_action n ∷ left) kept (action_operand action) o later work are has p

-- the rows at a root are the list of its line
root_list : (script : Script) (inputs : Inputs) (lists : Lists) (done : List Item) (kept : Kept) (root : Root) (name : List ℕ) (form : Form) (rows : List Row)
    → IsRunOf script inputs lists done → AreListed lists kept → has_number (lines_among done) (root_line root) ≡ true
    → statement_at script (root_line root) ≡ Some (line name form) → IsRootOf form root → AreAtRoot kept root rows
    → lists (root_line root) ≡ Some rows
root_list script inputs lists done kept (stored_root n) name form rows run all has is root at = all n rows at
root_list script inputs lists done kept (count_root n count) name form rows run all has is root at =
    let Right : Option Statement → Type 0 = λ o. IsRightStatement inputs lists n o in
    let here = is ∙ ap (λ (f : Form). Some (line name f)) (counted_numbers form count root) in
    let r = subst Right here (right_at script inputs lists done n run.right has) in
    r.1 ∙ ap Some (r.2 ∙ sym at)

-- the rows that arrive at an operand that can be read are the list of its line
pub arrived : (script : Script) (inputs : Inputs) (lists : Lists) (done left : List Item) (kept : Kept) (of : ℕ) (o : Operand) (rows : List Row)
    → InWork script done left → IsRunOf script inputs lists done → AreListed lists kept → has_number (lines_among done) of ≡ true → IsOperand script of o
    → AreAtRoot kept o.root rows → lists of ≡ Some (flat_map (rows_through o.chain) rows)
arrived script inputs lists done left kept of o rows work run all has p at_root =
    let m = chains_make script inputs lists done left (root_line o.root) o.chain of work run p.chain has in
    let l = root_list script inputs lists done kept o.root p.name p.form rows run all (root_there script done left of o work p has) p.is p.root at_root in
    let same : m.0 ≡ rows = some_rows m.0 rows (sym m.1 ∙ l) in
    m.2 ∙ ap (λ (rs : List Row). Some (flat_map (rows_through o.chain) rs)) same

-- the rows that arrive at an action
acted : (script : Script) (inputs : Inputs) (lists : Lists) (done left : List Item) (kept : Kept) (n : ℕ) (action : Action) (o : Operand) (rows : List Row)
    → InWork script done (do_action n ∷ left) → IsRunOf script inputs lists done → AreListed lists kept → IsActing script n action kept o rows
    → lists (action_operand action) ≡ Some (flat_map (rows_through o.chain) rows)
acted script inputs lists done left kept n action o rows work run all a =
    let has = operand_has script (lines_among done) n action work.order.0 a.is in
    arrived script inputs lists done (do_action n ∷ left) kept (action_operand action) o rows work run all has a.operand a.at_root

text_is : (lists : Lists) (action : Action) (rows : List Row) → lists (action_operand action) ≡ Some rows → action_text lists action ≡ text_of_rows action rows
text_is lists (print_action of) rows is = ap (λ (o : Option (List Row)). flat_map row_text (rows_in o)) is
text_is lists (size_action of) rows is = ap (λ (o : Option (List Row)). text_of_rows (size_action of) (rows_in o)) is
text_is lists (sum_action of c) rows is = ap (λ (o : Option (List Row)). text_of_rows (sum_action of c) (rows_in o)) is

pub not_many : (list : Option (List Row)) (rows : List Row) → list ≡ Some rows → length rows ≤ most_rows → too_many_in list ≡ None
not_many list rows is few =
    let Rows : List Row → Type 0 = λ rs. cond (ltb most_rows (length rs)) (Some too_many_rows) None ≡ None in
    let at : rows ≡ rows_in list = sym (ap rows_in is) in
    subst Rows at (elim (ltb most_rows (length rows)) as (λ t. ltb most_rows (length rows) ≡ t → cond t (Some too_many_rows) None ≡ None) [
      | true ↦ λ e. (let many = ltb-true most_rows (length rows) e in absurd (omega (arith, few, many)))
      | false ↦ λ e. refl
    ] refl)

pub many_fails : (list : Option (List Row)) (rows : List Row) → list ≡ Some rows → most_rows < length rows → too_many_in list ≡ Some too_many_rows
many_fails list rows is many =
    let Rows : List Row → Type 0 = λ rs. cond (ltb most_rows (length rs)) (Some too_many_rows) None ≡ Some too_many_rows in
    let at : rows ≡ rows_in list = sym (ap rows_in is) in
    subst Rows at (elim (ltb most_rows (length rows)) as (λ t. ltb most_rows (length rows) ≡ t → cond t (Some too_many_rows) None ≡ Some too_many_rows) [
      | true ↦ λ e. refl
      | false ↦ λ e. (let few = ltb-false most_rows (length rows) e in absurd (omega (arith, few, many)))
    ] refl)

-- what was taken ------------------------------------------------------------------------------------------------------

took_since : (begun taken now : Option (List ℕ)) (texts text : List ℕ) → TookAll begun texts taken → TookAll taken text now → TookAll begun (texts ++ text) now
took_since None taken now texts text before took = tt
took_since (Some start) taken now texts text before took =
    let Took : Option (List ℕ) → Type 0 = λ o. TookAll o text now in
    subst Took before took ∙ ap Some (append_assoc start texts text)

-- a prefix of the texts was taken
record IsCut (begun now : Option (List ℕ)) (texts text : List ℕ) : Type 0 where
  took : List ℕ
  rest : List ℕ
  since : TookAll begun took now
  parts : texts ++ text ≡ took ++ rest

took_cut : (begun taken now : Option (List ℕ)) (texts text : List ℕ) → TookAll begun texts taken → TookPrefix taken text now → IsCut begun now texts text
took_cut None taken now texts text before took = record { took = []; rest = texts ++ text; since = tt; parts = refl }
took_cut (Some start) taken now texts text before took =
    let Took : Option (List ℕ) → Type 0 = λ o. TookPrefix o text now in
    let p = subst Took before took in
    record {
      took = texts ++ p.0;
      rest = p.1;
      since = p.3 ∙ ap Some (append_assoc start texts p.0);
      parts = ap (λ (t : List ℕ). texts ++ t) p.2 ∙ sym (append_assoc texts p.0 p.1);
    }

-- the three ways of an action -----------------------------------------------------------------------------------------

-- an action is no cache
cached_still : (W W' : List Row → Type 0) (script : Script) (lists : Lists) (done : List Item) (n : ℕ) → StillHolds W W'
    → AllCached W script lists done → AllCached W' script lists (done ++ do_action n ∷ [])
cached_still W W' script lists done n still all = λ l of name rows has is list.
    let Has : List ℕ → Type 0 = λ xs. has_number xs l ≡ true in
    still rows (all l of name rows (subst Has (lines_push_action done n) has) is list)

pub action_is_done : (W W' : List Row → Type 0) (script : Script) (told : Option Inputs) (n : ℕ) (action : Action) (kept kept_now : Kept) (o : Operand) (rows : List Row) (taken now : Option (List ℕ))
    → StillHolds W W' → IsActing script n action kept o rows → KeepsBut o.root o.last kept kept_now → length (flat_map (rows_through o.chain) rows) ≤ most_rows
    → TookAll taken (text_of_rows action (flat_map (rows_through o.chain) rows)) now → GoesOn W W' script told (do_action n) kept taken kept_now now
action_is_done W W' script told n action kept kept_now o rows taken now still a but few took = λ inputs begun done left tells work at.
    let arriving = flat_map (rows_through o.chain) rows in
    let p = acted script inputs at.lists done left kept n action o rows work at.run at.are a in
    let g = action_goes_on script inputs at.lists done left n action work at.run a.is (not_many (at.lists (action_operand action)) arriving p few) in
    let Took : List ℕ → Type 0 = λ t. TookAll taken t now in
    let Since : List ℕ → Type 0 = λ t. TookAll begun t now in
    record {
      lists = at.lists;
      run = g.0;
      are = still_listed at.lists o.root o.last kept kept_now but at.are;
      cached = cached_still W W' script at.lists done n still at.cached;
      since = subst Since (sym g.1) (took_since begun taken now (texts_among script at.lists done) (action_text at.lists action) at.since
          (subst Took (sym (text_is at.lists action arriving p)) took));
    }

pub action_is_cut_off : (W : List Row → Type 0) (script : Script) (told : Option Inputs) (n : ℕ) (action : Action) (kept : Kept) (o : Operand) (rows : List Row) (taken now : Option (List ℕ))
    → IsActing script n action kept o rows → length (flat_map (rows_through o.chain) rows) ≤ most_rows
    → TookPrefix taken (text_of_rows action (flat_map (rows_through o.chain) rows)) now → Stops W script told (do_action n) kept taken cut_off now
action_is_cut_off W script told n action kept o rows taken now a few took = λ inputs begun done left tells work at.
    let arriving = flat_map (rows_through o.chain) rows in
    let p = acted script inputs at.lists done left kept n action o rows work at.run at.are a in
    let g = action_goes_on script inputs at.lists done left n action work at.run a.is (not_many (at.lists (action_operand action)) arriving p few) in
    let w = goes_on script done left (do_action n) work in
    let r = runs_are_runs script inputs at.lists (done ++ do_action n ∷ []) left w g.0 in
    let texts = texts_among script at.lists done in
    let Took : List ℕ → Type 0 = λ t. TookPrefix taken t now in
    let cut = took_cut begun taken now texts (action_text at.lists action) at.since (subst Took (sym (text_is at.lists action arriving p)) took) in
    record {
      took = cut.took;
      since = cut.since;
      end = record {
        count = length (done ++ do_action n ∷ []);
        all = texts ++ action_text at.lists action;
        done = record { lists = at.lists; run = r.0; texts = sym (r.1 ∙ g.1) };
        rest = cut.rest;
        parts = cut.parts;
      };
    }

pub action_has_too_many : (W : List Row → Type 0) (script : Script) (told : Option Inputs) (n : ℕ) (action : Action) (kept : Kept) (o : Operand) (rows : List Row) (taken : Option (List ℕ))
    → IsActing script n action kept o rows → most_rows < length (flat_map (rows_through o.chain) rows)
    → Stops W script told (do_action n) kept taken (too_many n) taken
action_has_too_many W script told n action kept o rows taken a many = λ inputs begun done left tells work at.
    let p = acted script inputs at.lists done left kept n action o rows work at.run at.are a in
    let r = runs_are_runs script inputs at.lists done (do_action n ∷ left) work at.run in
    let stops : IsTooMany script inputs n (texts_among script at.lists done) = record {
      count = length done;
      done = record { lists = at.lists; run = r.0; texts = sym r.1 };
      item = do_action n;
      left = left;
      work = r.2;
      number = refl;
      fails = ap (failure_of_statement inputs at.lists) a.is ∙ many_fails (at.lists (action_operand action)) (flat_map (rows_through o.chain) rows) p many;
    } in
    record {
      took = texts_among script at.lists done;
      since = at.since;
      end = (stops, cached_first W script at.lists done (do_action n ∷ left) work at.cached);
    }
