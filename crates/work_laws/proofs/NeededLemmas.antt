-- What is in the work is needed, and what is needed is in it.
use Rattle.std.proofs.Common.{◌≡◌, ℕ, ◌+◌, Bool, true, false, ◌&&◌, not, cond, eqb, List, [], ◌∷◌, ◌++◌, map, Some, IsSome, find, refl, sym, ◌∙◌, subst, inl, inr}
use Rattle.std.specs.Prelude.{◌↔◌}
use Rattle.std.specs.List.{AllByRecursion}
use Rattle.std.proofs.lemmas.Bool.{true≢false, eqb-true}
use Rattle.row_defs.specs.declared.kind.Kind.{Kind}
use Rattle.script_defs.specs.Scripts.{Form, lines_form, generate_form, local_form, cache_form, form_operands, Action, action_operand, Statement, line, act, operands_of, Numbered, Script, statement_at, IsLineIn}
use Rattle.script_defs.specs.Reading.{Earlier, Known, known_after, nothing_known}
use Rattle.script_defs.specs.Sound.{IsSound, IsSoundForm, IsSoundStatement, kinds_of_statement}
use Rattle.script_defs.specs.Work.{Item, do_line, do_action, has_number, closure, is_line, lines_to_do, work_from, work_of}
use Rattle.run_laws.proofs.WorkLemmas.{has_cases, sound_placed}
use Rattle.run_laws.proofs.RunLemmas.{every_push, some_statement, some_action, some_form}
use Rattle.work_laws.specs.Needed.{IsIn, Names, Leads, IsNeeded}
use Rattle.work_laws.specs.Ordered.{actions_in}
use Rattle.work_laws.proofs.OrderLemmas.{Among, in_among, among_in, among_left, among_cases, has_among, all_at, action_among, work_behind, work_actions}

-- statements name lines ------------------------------------------------------------------------------------------------

abbrev KnowsLines : Script → Known → Type 0
KnowsLines script known = AllByRecursion (λ (e : Earlier). IsLineIn script e.number) known.lines

earlier_line : (script : Script) (lines : List Earlier) (of : ℕ) → AllByRecursion (λ (e : Earlier). IsLineIn script e.number) lines
    → IsSome (find (λ (e : Earlier). eqb e.number of) lines) → IsLineIn script of
earlier_line script [] of all some = absurd (true≢false (sym some))
earlier_line script (e ∷ lines) of all some =
    elim (eqb e.number of) as (λ t. eqb e.number of ≡ t → IsSome (cond t (Some e) (find (λ (x : Earlier). eqb x.number of) lines)) → IsLineIn script of) [
      | true ↦ λ is s. (let Line : ℕ → Type 0 = λ n. IsLineIn script n in subst Line (eqb-true e.number of is) all.0)
      | false ↦ λ is s. earlier_line script lines of all.1 s
    ] refl some

form_names : (script : Script) (known : Known) (form : Form) → KnowsLines script known → IsSoundForm known form → AllByRecursion (λ of. IsLineIn script of) (form_operands form)
form_names script known (lines_form input) all h = tt
form_names script known (generate_form count) all h = tt
form_names script known (local_form of op) all h = (earlier_line script known.lines of all h.0, tt)
form_names script known (cache_form of) all h = (earlier_line script known.lines of all h, tt)

statement_names : (script : Script) (known : Known) (s : Statement) → KnowsLines script known → IsSoundStatement known s
    → AllByRecursion (λ of. IsLineIn script of) (operands_of s)
statement_names script known (line name form) all h = form_names script known form all h
statement_names script known (act action) all h = (earlier_line script known.lines (action_operand action) all h.0, tt)

knows_more : (script : Script) (known : Known) (k : ℕ) (s : Statement) (kinds : List Kind) → statement_at script k ≡ Some s → KnowsLines script known
    → KnowsLines script (known_after known k s kinds)
knows_more script known k (line name form) kinds at all =
    every_push (λ (e : Earlier). IsLineIn script e.number) known.lines (record { number = k; name = name; kinds = kinds }) all (name, form, at)
knows_more script known k (act action) kinds at all = all

abbrev IsAt : Script → Numbered → Type 0
IsAt script s = statement_at script s.number ≡ Some s.statement

-- it is found by its number, and names lines
abbrev IsPlaced : Script → Numbered → Type 0
IsPlaced script s = IsAt script s × AllByRecursion (λ of. IsLineIn script of) (operands_of s.statement)

all_placed : (script rest : Script) (known : Known) (n : ℕ) → IsSound known n rest → KnowsLines script known → AllByRecursion (IsAt script) rest
    → AllByRecursion (IsPlaced script) rest
all_placed script [] known n sound all at = tt
all_placed script (s ∷ later) known n sound all at =
    let kinds = kinds_of_statement known s.statement in (
      (at.0, statement_names script known s.statement all sound.1),
      all_placed script later (known_after known s.number s.statement kinds) (s.number + 1) sound.2 (knows_more script known s.number s.statement kinds at.0 all) at.1,
    )

pub script_placed : (script : Script) → IsSound nothing_known 1 script → AllByRecursion (IsPlaced script) script
script_placed script sound = all_placed script script nothing_known 1 sound tt (sound_placed script sound)

-- a closure holds what it is led to --------------------------------------------------------------------------------------

leads_push : (script : Script) (a : ℕ) (path : List ℕ) (b c : ℕ) → Leads script a path b → Names script b c → Leads script a (path ++ c ∷ []) c
leads_push script a [] b c h names = let From : ℕ → Type 0 = λ n. Names script n c in (subst From (sym h) names, refl)
leads_push script a (n ∷ path) b c h names = (h.0, leads_push script n path b c h.1 names)

-- a line that a path leads to
abbrev IsLed : Script → ℕ → ℕ → Type 0
IsLed script a b = IsLineIn script b × (path : List ℕ) × Leads script a path b

led_further : (script : Script) (a : ℕ) (s : Numbered) (m : ℕ) → IsPlaced script s → IsLed script a s.number → Among m (operands_of s.statement) → IsLed script a m
led_further script a s m placed led there =
    let l = led.0 in
    let same : s.statement ≡ line l.0 l.1 = some_statement s.statement (line l.0 l.1) (sym placed.0 ∙ l.2) in
    let There : Statement → Type 0 = λ x. Among m (operands_of x) in
    let names : Names script s.number m = (l.0, l.1, l.2, among_in m (form_operands l.1) (subst There same there)) in
    (all_at (λ of. IsLineIn script of) (operands_of s.statement) m placed.1 there, led.1 ++ m ∷ [], leads_push script a led.1 s.number m led.2 names)

closure_led : (script rest : Script) (a m : ℕ) → IsLineIn script a → AllByRecursion (IsPlaced script) rest → has_number (closure rest (a ∷ [])) m ≡ true → IsLed script a m
unfolding closure
closure_led script [] a m is placed h = elim (has_among (a ∷ []) m h) [
  | inl e ↦ (let Line : ℕ → Type 0 = λ n. IsLineIn script n in (subst Line e is, [], e))
  | inr e ↦ absurd e
]
closure_led script (s ∷ later) a m is placed h =
    let found = closure later (a ∷ []) in
    let ops = operands_of s.statement in
    elim (has_number found s.number) as (λ t. has_number found s.number ≡ t → has_number (cond t (found ++ ops) found) m ≡ true → IsLed script a m) [
      | true ↦ λ has e. elim (has_cases found ops m e) [
        | inl f ↦ closure_led script later a m is placed.1 f
        | inr f ↦ led_further script a s m placed.0 (closure_led script later a s.number is placed.1 has) (has_among ops m f)
      ]
      | false ↦ λ has e. closure_led script later a m is placed.1 e
    ] refl h

-- the work holds what is needed alone -------------------------------------------------------------------------------------

middle : (x y z : Bool) → (x && y && z) ≡ true → y ≡ true
middle true true z e = refl
middle true false z e = absurd (true≢false (sym e))
middle false y z e = absurd (true≢false (sym e))

to_do_needed : (rest : Script) (needed done : List ℕ) (n : ℕ) → Among n (lines_to_do rest needed done) → has_number needed n ≡ true
to_do_needed [] needed done n h = absurd h
to_do_needed (s ∷ later) needed done n h =
    let more = lines_to_do later needed done in
    let Need : ℕ → Type 0 = λ m. has_number needed m ≡ true in
    let test = is_line s.statement && has_number needed s.number && not (has_number done s.number) in
    elim test as (λ t. test ≡ t → Among n (cond t (s.number ∷ more) more) → has_number needed n ≡ true) [
      | true ↦ λ is e. elim e [
        | inl f ↦ subst Need f (middle (is_line s.statement) (has_number needed s.number) (not (has_number done s.number)) is)
        | inr f ↦ to_do_needed later needed done n f
      ]
      | false ↦ λ is e. to_do_needed later needed done n e
    ] refl h

line_in_map : (numbers : List ℕ) (n : ℕ) → Among (do_line n) (map do_line numbers) → Among n numbers
line_in_map [] n h = absurd h
line_in_map (m ∷ numbers) n h = elim h [ inl e ↦ inl cc | inr e ↦ inr (line_in_map numbers n e) ]

line_needed_by : (script later : Script) (k : ℕ) (s : Statement) (done : List ℕ) (n : ℕ) → AllByRecursion (IsPlaced script) script
    → IsPlaced script (record { number = k; statement = s })
    → ((done' : List ℕ) → Among (do_line n) (work_from script done' later) → IsNeeded script (do_line n))
    → Among (do_line n) (work_from script done (record { number = k; statement = s } ∷ later)) → IsNeeded script (do_line n)
unfolding work_from
line_needed_by script later k (line name form) done n all placed next h = next done h
line_needed_by script later k (act action) done n all placed next h =
    let needed = closure script (action_operand action ∷ []) in
    let new = lines_to_do script needed done in
    elim (among_cases (do_line n) (map do_line new) (do_action k ∷ work_from script (done ++ new) later) h) [
      | inl e ↦
          let led = closure_led script script (action_operand action) n placed.1.0 all (to_do_needed script needed done n (line_in_map new n e)) in
          (k, action, led.1, placed.0, led.2)
      | inr e ↦ elim e [
        | inl f ↦ (let wrong : ⊥ = cc in absurd wrong)
        | inr f ↦ next (done ++ new) f
      ]
    ]

line_needed : (script rest : Script) (done : List ℕ) (n : ℕ) → AllByRecursion (IsPlaced script) script → AllByRecursion (IsPlaced script) rest
    → Among (do_line n) (work_from script done rest) → IsNeeded script (do_line n)
unfolding work_from
line_needed script [] done n all placed h = absurd h
line_needed script (s ∷ later) done n all placed h =
    line_needed_by script later s.number s.statement done n all placed.0 (λ done' there. line_needed script later done' n all placed.1 there) h

in_needed : (script : Script) → IsSound nothing_known 1 script → (item : Item) → IsIn item (work_of script) → IsNeeded script item
in_needed script sound (do_line n) h =
    let placed = script_placed script sound in line_needed script script [] n placed placed (in_among (do_line n) (work_of script) h)
in_needed script sound (do_action n) h = let b = work_behind script sound h.0 h.1 (do_action n) h.2 in (b.0, b.1)

-- the work holds all that is needed -----------------------------------------------------------------------------------------

actions_later : (s : Numbered) (later : Script) (k : ℕ) → Among k (actions_in later) → Among k (actions_in (s ∷ later))
actions_later s later k h = elim (is_line s.statement) as (λ t. Among k (cond t (actions_in later) (s.number ∷ actions_in later))) [ true ↦ h | false ↦ inr h ]

action_here : (s : Numbered) (later : Script) (k : ℕ) (action : Action) → s.number ≡ k → s.statement ≡ act action → Among k (actions_in (s ∷ later))
action_here s later k action same is =
    let There : Statement → Type 0 = λ x. Among k (cond (is_line x) (actions_in later) (s.number ∷ actions_in later)) in
    subst There (sym is) (inl same)

action_in : (script : Script) (k : ℕ) (action : Action) → statement_at script k ≡ Some (act action) → Among k (actions_in script)
action_in [] k action e = let wrong : ⊥ = cc in absurd wrong
action_in (s ∷ later) k action e =
    elim (eqb s.number k) as (λ t. eqb s.number k ≡ t → cond t (Some s.statement) (statement_at later k) ≡ Some (act action) → Among k (actions_in (s ∷ later))) [
      | true ↦ λ is f. action_here s later k action (eqb-true s.number k is) (some_statement s.statement (act action) f)
      | false ↦ λ is f. actions_later s later k (action_in later k action f)
    ] refl e

pub action_done : (script : Script) (k : ℕ) (action : Action) → statement_at script k ≡ Some (act action) → IsIn (do_action k) (work_of script)
action_done script k action e =
    let There : List ℕ → Type 0 = λ xs. Among k xs in
    among_in (do_action k) (work_of script) (action_among (work_of script) k (subst There (sym (work_actions script)) (action_in script k action e)))

-- what stands before an item is in the work
before_in : (script : Script) (x : Item) (before after : List Item) → work_of script ≡ before ++ after → IsIn x before → IsIn x (work_of script)
before_in script x before after e h =
    let There : List Item → Type 0 = λ xs. Among x xs in
    among_in x (work_of script) (subst There (sym e) (among_left x before after (in_among x before h)))

operand_done : (script : Script) → IsSound nothing_known 1 script → (k : ℕ) (action : Action) → statement_at script k ≡ Some (act action)
    → IsIn (do_line (action_operand action)) (work_of script)
operand_done script sound k action e =
    let i = action_done script k action e in
    let b = work_behind script sound i.0 i.1 (do_action k) i.2 in
    let same : b.0 ≡ action = some_action b.0 action (sym b.1 ∙ e) in
    let There : Action → Type 0 = λ x. IsIn (do_line (action_operand x)) (work_of script) in
    subst There same (before_in script (do_line (action_operand b.0)) i.0 (do_action k ∷ i.1) i.2 b.2)

named_done : (script : Script) → IsSound nothing_known 1 script → (a b : ℕ) → IsIn (do_line a) (work_of script) → Names script a b → IsIn (do_line b) (work_of script)
named_done script sound a b i names =
    let behind = work_behind script sound i.0 i.1 (do_line a) i.2 in
    let same : names.1 ≡ behind.1 = some_form names.0 behind.0 names.1 behind.1 (sym names.2 ∙ behind.2) in
    let There : Form → Type 0 = λ f. IsIn b (form_operands f) in
    before_in script (do_line b) i.0 (do_line a ∷ i.1) i.2 (behind.3 b (subst There same names.3))

led_done : (script : Script) → IsSound nothing_known 1 script → (a : ℕ) (path : List ℕ) (b : ℕ) → IsIn (do_line a) (work_of script) → Leads script a path b
    → IsIn (do_line b) (work_of script)
led_done script sound a [] b i h = let There : ℕ → Type 0 = λ n. IsIn (do_line n) (work_of script) in subst There h i
led_done script sound a (n ∷ path) b i h = led_done script sound n path b (named_done script sound a n i h.0) h.1

needed_in : (script : Script) → IsSound nothing_known 1 script → (item : Item) → IsNeeded script item → IsIn item (work_of script)
needed_in script sound (do_line n) h = led_done script sound (action_operand h.1) h.2 n (operand_done script sound h.0 h.1 h.3) h.4
needed_in script sound (do_action n) h = action_done script n h.0 h.1

pub work_is_needed : (script : Script) → IsSound nothing_known 1 script → (item : Item) → IsIn item (work_of script) ↔ IsNeeded script item
work_is_needed script sound item = (in_needed script sound item, needed_in script sound item)
