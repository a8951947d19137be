-- Runs go on item by item.
use Rattle.std.proofs.Common.{◌≡◌, ℕ, zero, suc, ◌<◌, ◌≤◌, true, false, cond, eqb, List, [], ◌∷◌, ◌++◌, length, take, drop, Option, None, Some, is_some, IsSome, refl, sym, ap, ◌∙◌, subst, arith, inl, inr, append_assoc, append-nil}
use Rattle.std.proofs.Math.Seq.{take-append_seam, drop-append_seam}
use Rattle.std.specs.Prelude.{Contains, All, ◌↔◌, slice_index_or}
use Rattle.std.specs.List.{AllByRecursion, flat_map}
use Rattle.std.proofs.lemmas.Bool.{or_left, or_right, true≢false, eqb-true, eq-eqb, ne_eqb}
use Rattle.std.proofs.lemmas.List.Concat.{flat_map-append}
use Rattle.std.proofs.lemmas.List.Elements.{All-from_recursion}
use Rattle.row_defs.specs.Rows.{Row}
use Rattle.row_defs.specs.LocalOps.{LocalOp, rows_made, rows_through}
use Rattle.script_defs.specs.Scripts.{Form, lines_form, generate_form, local_form, cache_form, form_operands, Action, action_operand, print_action, size_action, sum_action, Statement, line, act, Script, statement_at}
use Rattle.row_defs.specs.Inputs.{Inputs}
use Rattle.script_defs.specs.Lists.{Lists, IsLine, too_many_in, failure_of_form, failure_of_action}
use Rattle.script_defs.specs.Work.{Item, do_line, do_action, has_number, work_of}
use Rattle.script_defs.specs.Runs.{IsRight, IsRightStatement, failure_of, failure_of_statement, IsRun, action_text, item_text, statement_text, run_texts}
use Rattle.run_laws.specs.Order.{lines_among, IsReadyLine, IsReadyAction, IsReady, AreInOrder, InWork}
use Rattle.run_laws.specs.Laws.{IsRunOf, texts_among, with_list, no_lists}
use Rattle.script_defs.specs.Plans.{IsChain}
use Rattle.run_laws.proofs.WorkLemmas.{or_cases, has_left, has_right, has_cases, is_one, every_map}

-- lists -------------------------------------------------------------------------------------------------------------

pub every_push : {X : Type 0} (P : X → Type 0) (xs : List X) (x : X) → AllByRecursion P xs → P x → AllByRecursion P (xs ++ x ∷ [])
every_push P [] x h p = (p, tt)
every_push P (y ∷ xs) x h p = (h.0, every_push P xs x h.1 p)

pub lines_push_line : (items : List Item) (n : ℕ) → lines_among (items ++ do_line n ∷ []) ≡ lines_among items ++ n ∷ []
lines_push_line [] n = refl
lines_push_line (do_line m ∷ items) n = ap (λ (xs : List ℕ). m ∷ xs) (lines_push_line items n)
lines_push_line (do_action m ∷ items) n = lines_push_line items n

pub lines_push_action : (items : List Item) (n : ℕ) → lines_among (items ++ do_action n ∷ []) ≡ lines_among items
lines_push_action [] n = refl
lines_push_action (do_line m ∷ items) n = ap (λ (xs : List ℕ). m ∷ xs) (lines_push_action items n)
lines_push_action (do_action m ∷ items) n = lines_push_action items n

-- an item that can be done still can when more lines are
ready_more : (script : Script) (done more : List ℕ) (item : Item) → IsReady script done item → IsReady script (done ++ more) item
ready_more script done more (do_line n) h = record {
  name = h.name;
  form = h.form;
  is = h.is;
  operands = every_map (λ of. has_number done of ≡ true) (λ of. has_number (done ++ more) of ≡ true) (λ of g. has_left done more of g) (form_operands h.form) h.operands;
}
ready_more script done more (do_action n) h = record { action = h.action; is = h.is; operand = has_left done more (action_operand h.action) h.operand }

pub goes_on : (script : Script) (done left : List Item) (item : Item) → InWork script done (item ∷ left) → InWork script (done ++ item ∷ []) left
goes_on script done left (do_line n) h =
    let Ready : List ℕ → Type 0 = λ xs. AllByRecursion (IsReady script xs) (done ++ do_line n ∷ []) in
    let Order : List ℕ → Type 0 = λ xs. AreInOrder script xs left in
    let more = lines_push_line done n in
    record {
      parts = h.parts ∙ sym (append_assoc done (do_line n ∷ []) left);
      ready = subst Ready (sym more) (every_push (IsReady script (lines_among done ++ n ∷ [])) done (do_line n)
          (every_map (IsReady script (lines_among done)) (IsReady script (lines_among done ++ n ∷ [])) (λ i g. ready_more script (lines_among done) (n ∷ []) i g) done h.ready)
          (ready_more script (lines_among done) (n ∷ []) (do_line n) h.order.0));
      order = subst Order (sym more) h.order.2;
    }
goes_on script done left (do_action n) h =
    let Ready : List ℕ → Type 0 = λ xs. AllByRecursion (IsReady script xs) (done ++ do_action n ∷ []) in
    let Order : List ℕ → Type 0 = λ xs. AreInOrder script xs left in
    let same = lines_push_action done n in
    record {
      parts = h.parts ∙ sym (append_assoc done (do_action n ∷ []) left);
      ready = subst Ready (sym same) (every_push (IsReady script (lines_among done)) done (do_action n) h.ready h.order.0);
      order = subst Order (sym same) h.order.1;
    }

-- more lists ----------------------------------------------------------------------------------------------------------

-- lines that have a list keep it
abbrev pub Grows : Lists → Lists → Type 0
Grows lists more = (m : ℕ) → IsSome (lists m) → more m ≡ lists m

pub grows_with : (lists : Lists) (n : ℕ) (rows : List Row) → is_some (lists n) ≡ false → Grows lists (with_list lists n rows)
grows_with lists n rows none = λ m some.
    let There : ℕ → Type 0 = λ k. is_some (lists k) ≡ true in
    rw (ne_eqb m n (λ same. true≢false (sym (subst There same some) ∙ none))) refl

pub some_there : (o : Option (List Row)) (a : List Row) → o ≡ Some a → IsSome o
some_there o a e = ap (λ (p : Option (List Row)). is_some p) e

line_grows : (inputs : Inputs) (lists more : Lists) (form : Form) (rows : List Row) → Grows lists more → IsLine inputs lists form rows → IsLine inputs more form rows
line_grows inputs lists more (lines_form input) rows g h = h
line_grows inputs lists more (generate_form count) rows g h = h
line_grows inputs lists more (local_form of op) rows g h = (h.0, g of (some_there (lists of) h.0 h.1) ∙ h.1, h.2)
line_grows inputs lists more (cache_form of) rows g h = g of (some_there (lists of) rows h) ∙ h

right_grows : (script : Script) (inputs : Inputs) (lists more : Lists) (item : Item) → Grows lists more → IsRight script inputs lists item → IsRight script inputs more item
right_grows script inputs lists more (do_action n) g h = tt
right_grows script inputs lists more (do_line n) g h = by_statement (statement_at script n) h
  where
    by_statement : (o : Option Statement) → IsRightStatement inputs lists n o → IsRightStatement inputs more n o
    by_statement None k = tt
    by_statement (Some (act action)) k = tt
    by_statement (Some (line name form)) k = (k.0, g n (some_there (lists n) k.0 k.1) ∙ k.1, line_grows inputs lists more form k.0 g k.2)

-- the operand of an action that can be done has a list, so its text and what blocks it stay
same_operand : (script : Script) (inputs : Inputs) (lists more : Lists) (done : List ℕ) (n : ℕ) → Grows lists more → ((l : ℕ) → is_some (lists l) ≡ has_number done l)
    → (r : IsReadyAction script done n) → more (action_operand r.action) ≡ lists (action_operand r.action)
same_operand script inputs lists more done n g listed r = g (action_operand r.action) (listed (action_operand r.action) ∙ r.operand)

-- so do the lines that a line names that can be done, and what blocks it stays
same_failure : (inputs : Inputs) (lists more : Lists) (done : List ℕ) (form : Form) → Grows lists more → ((l : ℕ) → is_some (lists l) ≡ has_number done l)
    → AllByRecursion (λ of. has_number done of ≡ true) (form_operands form) → failure_of_form inputs more form ≡ failure_of_form inputs lists form
same_failure inputs lists more done (lines_form input) g listed all = refl
same_failure inputs lists more done (generate_form count) g listed all = refl
same_failure inputs lists more done (local_form of op) g listed all = refl
same_failure inputs lists more done (cache_form of) g listed all = ap too_many_in (g of (listed of ∙ all.0))

same_text : (lists more : Lists) (action : Action) → more (action_operand action) ≡ lists (action_operand action) → action_text more action ≡ action_text lists action
same_text lists more (print_action of) e = rw e refl
same_text lists more (size_action of) e = rw e refl
same_text lists more (sum_action of c) e = rw e refl

item_grows : (script : Script) (inputs : Inputs) (lists more : Lists) (done : List ℕ) → Grows lists more → ((l : ℕ) → is_some (lists l) ≡ has_number done l)
    → (item : Item) → IsReady script done item
    → (failure_of script inputs more item ≡ failure_of script inputs lists item) × (item_text script more item ≡ item_text script lists item)
item_grows script inputs lists more done g listed (do_line n) r = rw r.is (same_failure inputs lists more done r.form g listed r.operands, refl)
item_grows script inputs lists more done g listed (do_action n) r =
    let same = same_operand script inputs lists more done n g listed r in
    rw r.is (rw same refl, same_text lists more r.action same)

free_grows : (script : Script) (inputs : Inputs) (lists more : Lists) (done : List ℕ) → Grows lists more → ((l : ℕ) → is_some (lists l) ≡ has_number done l)
    → (items : List Item) → AllByRecursion (IsReady script done) items → AllByRecursion (λ item. failure_of script inputs lists item ≡ None) items
    → AllByRecursion (λ item. failure_of script inputs more item ≡ None) items
free_grows script inputs lists more done g listed [] r h = tt
free_grows script inputs lists more done g listed (item ∷ items) r h =
    ((item_grows script inputs lists more done g listed item r.0).0 ∙ h.0, free_grows script inputs lists more done g listed items r.1 h.1)

texts_grow : (script : Script) (inputs : Inputs) (lists more : Lists) (done : List ℕ) → Grows lists more → ((l : ℕ) → is_some (lists l) ≡ has_number done l)
    → (items : List Item) → AllByRecursion (IsReady script done) items → texts_among script more items ≡ texts_among script lists items
texts_grow script inputs lists more done g listed [] r = refl
texts_grow script inputs lists more done g listed (item ∷ items) r =
    ap (λ (t : List ℕ). t ++ texts_among script more items) (item_grows script inputs lists more done g listed item r.0).1
    ∙ ap (λ (t : List ℕ). item_text script lists item ++ t) (texts_grow script inputs lists more done g listed items r.1)

-- steps ---------------------------------------------------------------------------------------------------------------

pub begins : (script : Script) (inputs : Inputs) → IsRunOf script inputs no_lists []
begins script inputs = record { listed = λ l. refl; right = tt; free = tt }

listed_more : (lists : Lists) (done : List ℕ) (n : ℕ) (rows : List Row) → ((l : ℕ) → is_some (lists l) ≡ has_number done l)
    → (l : ℕ) → is_some (with_list lists n rows l) ≡ has_number (done ++ n ∷ []) l
listed_more lists done n rows listed l = elim (eqb l n) as (λ t. eqb l n ≡ t → is_some (cond t (Some rows) (lists l)) ≡ has_number (done ++ n ∷ []) l) [
  | true ↦ λ e. sym (has_right done (n ∷ []) l (or_left (eqb n l) false (eq-eqb n l (sym (eqb-true l n e)))))
  | false ↦ λ e. listed l ∙ sym (not_one e)
] refl
  where
    not_one : eqb l n ≡ false → has_number (done ++ n ∷ []) l ≡ has_number done l
    not_one e = elim (has_number done l) as (λ t. has_number done l ≡ t → has_number (done ++ n ∷ []) l ≡ t) [
      | true ↦ λ is. has_left done (n ∷ []) l is
      | false ↦ λ is. elim (has_number (done ++ n ∷ []) l) as (λ t. has_number (done ++ n ∷ []) l ≡ t → t ≡ false) [
        | true ↦ λ has. elim (has_cases done (n ∷ []) l has) [
          | inl f ↦ absurd (true≢false (sym f ∙ is))
          | inr f ↦ absurd (true≢false (sym (eq-eqb l n (sym (is_one n l f))) ∙ e))
        ]
        | false ↦ λ has. refl
      ] refl
    ] refl

pub line_goes_on : (script : Script) (inputs : Inputs) (lists : Lists) (done left : List Item) (n : ℕ) (name : List ℕ) (form : Form) (rows : List Row)
    → InWork script done (do_line n ∷ left) → IsRunOf script inputs lists done → statement_at script n ≡ Some (line name form)
    → IsLine inputs lists form rows → failure_of_form inputs lists form ≡ None
    → IsRunOf script inputs (with_list lists n rows) (done ++ do_line n ∷ [])
    × (texts_among script (with_list lists n rows) (done ++ do_line n ∷ []) ≡ texts_among script lists done)
line_goes_on script inputs lists done left n name form rows w run is made free =
    let more = with_list lists n rows in
    let grows = grows_with lists n rows (run.listed n ∙ w.order.1) in
    let Right : Option Statement → Type 0 = λ o. IsRightStatement inputs more n o in
    let here : more n ≡ Some rows = rw (eq-eqb n n refl) refl in (
      record {
        listed = λ l. rw (lines_push_line done n) (listed_more lists (lines_among done) n rows run.listed l);
        right = every_push (IsRight script inputs more) done (do_line n)
            (every_map (IsRight script inputs lists) (IsRight script inputs more) (λ i h. right_grows script inputs lists more i grows h) done run.right)
            (subst Right (sym is) (rows, here, line_grows inputs lists more form rows grows made));
        free = every_push (λ item. failure_of script inputs more item ≡ None) done (do_line n)
            (free_grows script inputs lists more (lines_among done) grows run.listed done w.ready run.free)
            ((item_grows script inputs lists more (lines_among done) grows run.listed (do_line n) w.order.0).0 ∙ ap (failure_of_statement inputs lists) is ∙ free);
      },
      flat_map-append (item_text script more) done (do_line n ∷ []) ∙ append-nil (texts_among script more done)
          ∙ texts_grow script inputs lists more (lines_among done) grows run.listed done w.ready,
    )

pub action_goes_on : (script : Script) (inputs : Inputs) (lists : Lists) (done left : List Item) (n : ℕ) (action : Action)
    → InWork script done (do_action n ∷ left) → IsRunOf script inputs lists done → statement_at script n ≡ Some (act action)
    → failure_of_action lists action ≡ None
    → IsRunOf script inputs lists (done ++ do_action n ∷ [])
    × (texts_among script lists (done ++ do_action n ∷ []) ≡ texts_among script lists done ++ action_text lists action)
action_goes_on script inputs lists done left n action w run is free = (
  record {
    listed = λ l. rw (lines_push_action done n) (run.listed l);
    right = every_push (IsRight script inputs lists) done (do_action n) run.right tt;
    free = every_push (λ item. failure_of script inputs lists item ≡ None) done (do_action n) run.free (ap (failure_of_statement inputs lists) is ∙ free);
  },
  flat_map-append (item_text script lists) done (do_action n ∷ [])
      ∙ ap (λ (t : List ℕ). texts_among script lists done ++ t) (append-nil (item_text script lists (do_action n)) ∙ ap (statement_text lists) is),
)

-- runs of items are runs of so many items ----------------------------------------------------------------------------------

contains_later : (items : List Item) (i j : Item) → Contains items i → Contains (j ∷ items) i
contains_later items i j c = let less = c.1 in (suc c.0, omega arith, c.2)

contains_line : (items : List Item) (l : ℕ) → has_number (lines_among items) l ≡ true → Contains items (do_line l)
contains_line [] l h = absurd (true≢false (sym h))
contains_line (do_line n ∷ items) l h = elim (or_cases (eqb n l) (has_number (lines_among items) l) h) [
  | inl e ↦ (0, omega arith, ap do_line (eqb-true n l e))
  | inr e ↦ contains_later items (do_line l) (do_line n) (contains_line items l e)
]
contains_line (do_action n ∷ items) l h = contains_later items (do_line l) (do_action n) (contains_line items l h)

has_at : (items : List Item) (l k : ℕ) → k < length items → slice_index_or items k (do_line l) ≡ do_line l → has_number (lines_among items) l ≡ true
has_at [] l k less is = absurd (omega arith)
has_at (do_line n ∷ items) l zero less is = (let same : n ≡ l = cc in or_left (eqb n l) (has_number (lines_among items) l) (eq-eqb n l same))
has_at (do_action n ∷ items) l zero less is = let wrong : ⊥ = cc in absurd wrong
has_at (do_line n ∷ items) l (suc k) less is = or_right (eqb n l) (has_number (lines_among items) l) (has_at items l k (omega arith) is)
has_at (do_action n ∷ items) l (suc k) less is = has_at items l k (omega arith) is

within_append : {X : Type 0} (xs ys : List X) → length xs ≤ length (xs ++ ys)
within_append [] ys = omega arith
within_append (x ∷ xs) ys = let less = within_append xs ys in omega arith

pub runs_are_runs : (script : Script) (inputs : Inputs) (lists : Lists) (done left : List Item) → InWork script done left → IsRunOf script inputs lists done
    → IsRun script inputs lists (length done) × (run_texts script lists (length done) ≡ texts_among script lists done)
    × (drop (length done) (work_of script) ≡ left)
runs_are_runs script inputs lists done left w run =
    let prefix : take (length done) (work_of script) ≡ done = ap (take (length done)) w.parts ∙ take-append_seam done left in
    let AllRight : List Item → Type 0 = λ items. All (IsRight script inputs lists) items in
    let AllFree : List Item → Type 0 = λ items. All (λ item. failure_of script inputs lists item ≡ None) items in
    let In : List Item → ℕ → Type 0 = λ items l. Contains items (do_line l) in
    let Listed : List Item → Type 0 = λ items. (l : ℕ) → IsSome (lists l) ↔ Contains items (do_line l) in (
      record {
        within = rw w.parts (within_append done left);
        listed = subst Listed (sym prefix) (λ l. (
          λ some. contains_line done l (sym (run.listed l) ∙ some),
          λ c. run.listed l ∙ has_at done l c.0 c.1 c.2,
        ));
        right = subst AllRight (sym prefix) (All-from_recursion (IsRight script inputs lists) done run.right);
        free = subst AllFree (sym prefix) (All-from_recursion (λ item. failure_of script inputs lists item ≡ None) done run.free);
      },
      ap (flat_map (item_text script lists)) prefix,
      ap (drop (length done)) w.parts ∙ drop-append_seam done left,
    )

-- chains -----------------------------------------------------------------------------------------------------------------

-- what is known of a line that is done
pub ready_at : (script : Script) (done : List ℕ) (items : List Item) (n : ℕ) → AllByRecursion (IsReady script done) items → has_number (lines_among items) n ≡ true → IsReadyLine script done n
ready_at script done [] n all h = absurd (true≢false (sym h))
ready_at script done (do_line m ∷ items) n all h = elim (or_cases (eqb m n) (has_number (lines_among items) n) h) [
  | inl e ↦ (let Ready : ℕ → Type 0 = λ k. IsReadyLine script done k in subst Ready (eqb-true m n e) all.0)
  | inr e ↦ ready_at script done items n all.1 e
]
ready_at script done (do_action m ∷ items) n all h = ready_at script done items n all.1 h

pub right_at : (script : Script) (inputs : Inputs) (lists : Lists) (items : List Item) (n : ℕ) → AllByRecursion (IsRight script inputs lists) items
    → has_number (lines_among items) n ≡ true → IsRight script inputs lists (do_line n)
right_at script inputs lists [] n all h = absurd (true≢false (sym h))
right_at script inputs lists (do_line m ∷ items) n all h = elim (or_cases (eqb m n) (has_number (lines_among items) n) h) [
  | inl e ↦ (let Right : ℕ → Type 0 = λ k. IsRight script inputs lists (do_line k) in subst Right (eqb-true m n e) all.0)
  | inr e ↦ right_at script inputs lists items n all.1 e
]
right_at script inputs lists (do_action m ∷ items) n all h = right_at script inputs lists items n all.1 h

-- what stands at one place
pub some_statement : (x y : Statement) → Some x ≡ Some y → x ≡ y
some_statement x y e = cc

pub some_action : (x y : Action) → Some (act x) ≡ Some (act y) → x ≡ y
some_action x y e = cc

pub some_form : (name defined : List ℕ) (x y : Form) → Some (line name x) ≡ Some (line defined y) → x ≡ y
some_form name defined x y e = cc

operand_done : (script : Script) (done : List Item) (root m : ℕ) (op : LocalOp) (name : List ℕ) → AllByRecursion (IsReady script (lines_among done)) done
    → statement_at script m ≡ Some (line name (local_form root op)) → has_number (lines_among done) m ≡ true → has_number (lines_among done) root ≡ true
operand_done script done root m op name all is h =
    let r = ready_at script (lines_among done) done m all h in
    let same : line r.name r.form ≡ line name (local_form root op) = some_statement (line r.name r.form) (line name (local_form root op)) (sym r.is ∙ is) in
    let form : r.form ≡ local_form root op = cc in
    let Ops : Form → Type 0 = λ f. AllByRecursion (λ of. has_number (lines_among done) of ≡ true) (form_operands f) in
    (subst Ops form r.operands).0

pub roots_are_done : (script : Script) (done left : List Item) (root : ℕ) (ops : List LocalOp) (n : ℕ)
    → InWork script done left → IsChain script root ops n → has_number (lines_among done) n ≡ true → has_number (lines_among done) root ≡ true
roots_are_done script done left root [] n w chain h = let Has : ℕ → Type 0 = λ k. has_number (lines_among done) k ≡ true in subst Has (sym chain) h
roots_are_done script done left root (op ∷ ops) n w chain h =
    operand_done script done root chain.0 op chain.1 w.ready chain.2 (roots_are_done script done left chain.0 ops n w chain.3 h)

flat_map-flat_map : {A B C : Type 0} (f : A → List B) (g : B → List C) (xs : List A) → flat_map g (flat_map f xs) ≡ flat_map (λ x. flat_map g (f x)) xs
flat_map-flat_map f g [] = refl
flat_map-flat_map f g (x ∷ xs) = flat_map-append g (f x) (flat_map f xs) ∙ ap (λ zs. flat_map g (f x) ++ zs) (flat_map-flat_map f g xs)

through_none : (rows : List Row) → flat_map (rows_through []) rows ≡ rows
through_none [] = refl
through_none (row ∷ rows) = ap (λ (rs : List Row). row ∷ rs) (through_none rows)

pub listed_there : (o : Option (List Row)) → IsSome o → (a : List Row) × (o ≡ Some a)
listed_there None some = absurd (true≢false (sym some))
listed_there (Some a) some = (a, refl)

pub some_rows : (x y : List Row) → Some x ≡ Some y → x ≡ y
some_rows x y e = cc

pub chains_make : (script : Script) (inputs : Inputs) (lists : Lists) (done left : List Item) (root : ℕ) (ops : List LocalOp) (n : ℕ)
    → InWork script done left → IsRunOf script inputs lists done → IsChain script root ops n → has_number (lines_among done) n ≡ true
    → (a : List Row) × (lists root ≡ Some a) × (lists n ≡ Some (flat_map (rows_through ops) a))
chains_make script inputs lists done left root [] n w run chain h =
    let there = listed_there (lists n) (run.listed n ∙ h) in
    let Is : ℕ → Type 0 = λ k. lists k ≡ Some there.0 in
    (there.0, subst Is (sym chain) there.1, there.1 ∙ ap Some (sym (through_none there.0)))
chains_make script inputs lists done left root (op ∷ ops) n w run chain h =
    let m = chain.0 in
    let later = chains_make script inputs lists done left m ops n w run chain.3 h in
    let m_done = roots_are_done script done left m ops n w chain.3 h in
    let Right : Option Statement → Type 0 = λ o. IsRightStatement inputs lists m o in
    let right = subst Right chain.2 (right_at script inputs lists done m run.right m_done) in
    let a = right.2.0 in
    let same : later.0 ≡ right.0 = some_rows later.0 right.0 (sym later.1 ∙ right.1) in (
      a,
      right.2.1,
      later.2 ∙ ap (λ (rs : List Row). Some (flat_map (rows_through ops) rs)) (same ∙ right.2.2)
          ∙ ap Some (flat_map-flat_map (rows_made op) (rows_through ops) a),
    )
