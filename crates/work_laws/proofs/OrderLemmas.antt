-- The work stands in order: from the order that run_laws shows item by item, and from numbers that rise.
use Rattle.std.proofs.Common.{◌≡◌, ℕ, ◌+◌, ◌≤◌, true, false, eqb, List, [], ◌∷◌, ◌++◌, map, refl, sym, ap, ◌∙◌, subst, arith, ◌⊎◌, inl, inr, append_assoc, append-nil}
use Rattle.std.specs.List.{AllByRecursion}
use Rattle.std.proofs.lemmas.Bool.{or_left, or_right, true≢false, eqb-true, eq-eqb}
use Rattle.script_defs.specs.Scripts.{form_operands, action_operand, Statement, line, act, Script}
use Rattle.script_defs.specs.Reading.{Known, known_after, nothing_known}
use Rattle.script_defs.specs.Sound.{IsSound, kinds_of_statement}
use Rattle.script_defs.specs.Work.{Item, do_line, do_action, has_number, closure, lines_to_do, work_from, work_of}
use Rattle.run_laws.specs.Order.{lines_among, IsReadyLine, IsReadyAction, AreInOrder}
use Rattle.run_laws.proofs.WorkLemmas.{or_cases, work_order}
use Rattle.work_laws.specs.Needed.{IsIn}
use Rattle.work_laws.specs.Ordered.{actions_among, actions_in, IsBehind, AreOrdered}

-- elements ------------------------------------------------------------------------------------------------------------

abbrev pub Among : {X : Type 0} → X → List X → Type 0
Among x [] = ⊥
Among x (y ∷ ys) = (y ≡ x) ⊎ Among x ys

among_split : {X : Type 0} (x : X) (before after : List X) → Among x (before ++ x ∷ after)
among_split x [] after = inl refl
among_split x (y ∷ before) after = inr (among_split x before after)

pub in_among : {X : Type 0} (x : X) (xs : List X) → IsIn x xs → Among x xs
in_among x xs h = let There : List _ → Type 0 = λ ys. Among x ys in subst There (sym h.2) (among_split x h.0 h.1)

pub among_in : {X : Type 0} (x : X) (xs : List X) → Among x xs → IsIn x xs
among_in x [] h = absurd h
among_in x (y ∷ ys) h = elim h [
  | inl e ↦ ([], ys, ap (λ z. z ∷ ys) e)
  | inr e ↦ (let i = among_in x ys e in (y ∷ i.0, i.1, ap (λ zs. y ∷ zs) i.2))
]

pub among_left : {X : Type 0} (x : X) (xs ys : List X) → Among x xs → Among x (xs ++ ys)
among_left x [] ys h = absurd h
among_left x (z ∷ xs) ys h = elim h [ inl e ↦ inl e | inr e ↦ inr (among_left x xs ys e) ]

pub among_right : {X : Type 0} (x : X) (xs ys : List X) → Among x ys → Among x (xs ++ ys)
among_right x [] ys h = h
among_right x (z ∷ xs) ys h = inr (among_right x xs ys h)

pub among_cases : {X : Type 0} (x : X) (xs ys : List X) → Among x (xs ++ ys) → Among x xs ⊎ Among x ys
among_cases x [] ys h = inr h
among_cases x (z ∷ xs) ys h = elim h [
  | inl e ↦ inl (inl e)
  | inr e ↦ elim (among_cases x xs ys e) [ inl f ↦ inl (inr f) | inr f ↦ inr f ]
]

pub has_among : (xs : List ℕ) (n : ℕ) → has_number xs n ≡ true → Among n xs
has_among [] n h = absurd (true≢false (sym h))
has_among (x ∷ xs) n h = elim (or_cases (eqb x n) (has_number xs n) h) [ inl e ↦ inl (eqb-true x n e) | inr e ↦ inr (has_among xs n e) ]

pub among_has : (xs : List ℕ) (n : ℕ) → Among n xs → has_number xs n ≡ true
among_has [] n h = absurd h
among_has (x ∷ xs) n h = elim h [
  | inl e ↦ or_left (eqb x n) (has_number xs n) (eq-eqb x n e)
  | inr e ↦ or_right (eqb x n) (has_number xs n) (among_has xs n e)
]

pub all_at : {X : Type 0} (P : X → Type 0) (xs : List X) (x : X) → AllByRecursion P xs → Among x xs → P x
all_at P [] x all h = absurd h
all_at P (y ∷ ys) x all h = elim h [ inl e ↦ subst P e all.0 | inr e ↦ all_at P ys x all.1 e ]

-- lines and actions among items ----------------------------------------------------------------------------------------

pub line_among : (items : List Item) (n : ℕ) → Among n (lines_among items) → Among (do_line n) items
line_among [] n h = absurd h
line_among (do_line m ∷ items) n h = elim h [ inl e ↦ inl (ap do_line e) | inr e ↦ inr (line_among items n e) ]
line_among (do_action m ∷ items) n h = inr (line_among items n h)

among_lines : (items : List Item) (n : ℕ) → Among (do_line n) items → Among n (lines_among items)
among_lines [] n h = absurd h
among_lines (do_line m ∷ items) n h = elim h [ inl e ↦ inl cc | inr e ↦ inr (among_lines items n e) ]
among_lines (do_action m ∷ items) n h = elim h [ inl e ↦ (let wrong : ⊥ = cc in absurd wrong) | inr e ↦ among_lines items n e ]

pub action_among : (items : List Item) (n : ℕ) → Among n (actions_among items) → Among (do_action n) items
action_among [] n h = absurd h
action_among (do_action m ∷ items) n h = elim h [ inl e ↦ inl (ap do_action e) | inr e ↦ inr (action_among items n e) ]
action_among (do_line m ∷ items) n h = inr (action_among items n h)

among_actions : (items : List Item) (n : ℕ) → Among (do_action n) items → Among n (actions_among items)
among_actions [] n h = absurd h
among_actions (do_action m ∷ items) n h = elim h [ inl e ↦ inl cc | inr e ↦ inr (among_actions items n e) ]
among_actions (do_line m ∷ items) n h = elim h [ inl e ↦ (let wrong : ⊥ = cc in absurd wrong) | inr e ↦ among_actions items n e ]

actions_split : (before after : List Item) (n : ℕ) → actions_among (before ++ do_action n ∷ after) ≡ actions_among before ++ n ∷ actions_among after
actions_split [] after n = refl
actions_split (do_line m ∷ before) after n = actions_split before after n
actions_split (do_action m ∷ before) after n = ap (λ (xs : List ℕ). m ∷ xs) (actions_split before after n)

-- what is known of an item in order -------------------------------------------------------------------------------------

abbrev IsReadyNew : Script → List ℕ → Item → Type 0
IsReadyNew script done (do_line n) = IsReadyLine script done n × (has_number done n ≡ false)
IsReadyNew script done (do_action n) = IsReadyAction script done n

first_ready : (script : Script) (done : List ℕ) (item : Item) (after : List Item) → AreInOrder script done (item ∷ after) → IsReadyNew script done item
first_ready script done (do_line n) after h = (h.0, h.1)
first_ready script done (do_action n) after h = h.0

ready_at : (script : Script) (done : List ℕ) (before after : List Item) (item : Item) → AreInOrder script done (before ++ item ∷ after)
    → IsReadyNew script (done ++ lines_among before) item
ready_at script done [] after item h =
    let Ready : List ℕ → Type 0 = λ xs. IsReadyNew script xs item in subst Ready (sym (append-nil done)) (first_ready script done item after h)
ready_at script done (do_line n ∷ before) after item h =
    let Ready : List ℕ → Type 0 = λ xs. IsReadyNew script xs item in
    subst Ready (append_assoc done (n ∷ []) (lines_among before)) (ready_at script (done ++ n ∷ []) before after item h.2)
ready_at script done (do_action n ∷ before) after item h = ready_at script done before after item h.1

pub work_ready : (script : Script) → IsSound nothing_known 1 script → (before after : List Item) (item : Item) → work_of script ≡ before ++ item ∷ after
    → IsReadyNew script (lines_among before) item
work_ready script sound before after item e =
    let Order : List Item → Type 0 = λ items. AreInOrder script [] items in
    ready_at script [] before after item (subst Order e (work_order script sound))

pub behind_line : (script : Script) (before : List Item) (n : ℕ) → IsReadyLine script (lines_among before) n → IsBehind script before (do_line n)
behind_line script before n r = (
  r.name,
  r.form,
  r.is,
  λ m i. among_in (do_line m) before (line_among before m (has_among (lines_among before) m
      (all_at (λ of. has_number (lines_among before) of ≡ true) (form_operands r.form) m r.operands (in_among m (form_operands r.form) i)))),
)

pub behind_action : (script : Script) (before : List Item) (n : ℕ) → IsReadyAction script (lines_among before) n → IsBehind script before (do_action n)
behind_action script before n r = (
  r.action,
  r.is,
  among_in (do_line (action_operand r.action)) before
      (line_among before (action_operand r.action) (has_among (lines_among before) (action_operand r.action) r.operand)),
)

pub work_behind : (script : Script) → IsSound nothing_known 1 script → (before after : List Item) (item : Item) → work_of script ≡ before ++ item ∷ after
    → IsBehind script before item
work_behind script sound before after (do_line n) e = behind_line script before n (work_ready script sound before after (do_line n) e).0
work_behind script sound before after (do_action n) e = behind_action script before n (work_ready script sound before after (do_action n) e)

-- the actions of the work ------------------------------------------------------------------------------------------------

actions_skip : (numbers : List ℕ) (items : List Item) → actions_among (map do_line numbers ++ items) ≡ actions_among items
actions_skip [] items = refl
actions_skip (n ∷ numbers) items = actions_skip numbers items

actions_by : (script later : Script) (k : ℕ) (s : Statement) (done : List ℕ)
    → ((done' : List ℕ) → actions_among (work_from script done' later) ≡ actions_in later)
    → actions_among (work_from script done (record { number = k; statement = s } ∷ later)) ≡ actions_in (record { number = k; statement = s } ∷ later)
unfolding work_from
actions_by script later k (line name form) done next = next done
actions_by script later k (act action) done next =
    let new = lines_to_do script (closure script (action_operand action ∷ [])) done in
    actions_skip new (do_action k ∷ work_from script (done ++ new) later) ∙ ap (λ (xs : List ℕ). k ∷ xs) (next (done ++ new))

actions_from : (script rest : Script) (done : List ℕ) → actions_among (work_from script done rest) ≡ actions_in rest
unfolding work_from
actions_from script [] done = refl
actions_from script (s ∷ later) done = actions_by script later s.number s.statement done (λ done'. actions_from script later done')

pub work_actions : (script : Script) → actions_among (work_of script) ≡ actions_in script
work_actions script = actions_from script script []

-- numbers rise -----------------------------------------------------------------------------------------------------------

abbrev Rise : ℕ → List ℕ → Type 0
Rise low [] = Unit {0}
Rise low (n ∷ numbers) = (low ≤ n) × Rise (n + 1) numbers

rise_lower : (low lower : ℕ) (numbers : List ℕ) → lower ≤ low → Rise low numbers → Rise lower numbers
rise_lower low lower [] less h = tt
rise_lower low lower (n ∷ numbers) less h = (omega (arith, less, h.0), h.1)

rise_above : (low n : ℕ) (before after : List ℕ) → Rise low (before ++ n ∷ after) → low ≤ n
rise_above low n [] after h = h.0
rise_above low n (m ∷ before) after h = let less = rise_above (m + 1) n before after h.1 in omega (arith, less, h.0)

rise_once : (low n : ℕ) (before after : List ℕ) → Rise low (before ++ n ∷ after) → Among n before → ⊥
rise_once low n [] after h there = there
rise_once low n (m ∷ before) after h there = elim there [
  | inl e ↦ (let less = rise_above (m + 1) n before after h.1 in omega (arith, less, e))
  | inr e ↦ rise_once (m + 1) n before after h.1 e
]

actions_rise_by : (later : Script) (k n : ℕ) (s : Statement) → n ≤ k → Rise (k + 1) (actions_in later)
    → Rise n (actions_in (record { number = k; statement = s } ∷ later))
actions_rise_by later k n (line name form) low h = rise_lower (k + 1) n (actions_in later) (omega (arith, low)) h
actions_rise_by later k n (act action) low h = (low, h)

actions_rise : (script : Script) (known : Known) (n : ℕ) → IsSound known n script → Rise n (actions_in script)
actions_rise [] known n sound = tt
actions_rise (s ∷ later) known n sound =
    actions_rise_by later s.number n s.statement sound.0
    (actions_rise later (known_after known s.number s.statement (kinds_of_statement known s.statement)) (s.number + 1) sound.2)

-- each item once ------------------------------------------------------------------------------------------------------------

never_before : (script : Script) → IsSound nothing_known 1 script → (before after : List Item) (item : Item) → work_of script ≡ before ++ item ∷ after
    → Among item before → ⊥
never_before script sound before after (do_line n) e there =
    let new = (work_ready script sound before after (do_line n) e).1 in
    true≢false (sym (among_has (lines_among before) n (among_lines before n there)) ∙ new)
never_before script sound before after (do_action n) e there =
    let Rises : List ℕ → Type 0 = λ xs. Rise 1 xs in
    let same : actions_in script ≡ actions_among before ++ n ∷ actions_among after =
    sym (work_actions script) ∙ ap (λ items. actions_among items) e ∙ actions_split before after n in
    rise_once 1 n (actions_among before) (actions_among after) (subst Rises same (actions_rise script nothing_known 1 sound)) (among_actions before n there)

never_after : (script : Script) → IsSound nothing_known 1 script → (before after : List Item) (item : Item) → work_of script ≡ before ++ item ∷ after
    → IsIn item after → ⊥
never_after script sound before after item e there =
    never_before script sound (before ++ item ∷ there.0) there.1 item
    (e ∙ ap (λ (items : List Item). before ++ item ∷ items) there.2 ∙ sym (append_assoc before (item ∷ there.0) (item ∷ there.1)))
    (among_right item before (item ∷ there.0) (inl refl))

pub work_has_order : (script : Script) → IsSound nothing_known 1 script → AreOrdered script (work_of script)
work_has_order script sound = record {
  once = λ before after item e. (λ there. never_before script sound before after item e (in_among item before there), λ there. never_after script sound before after item e there);
  behind = λ before after item e. work_behind script sound before after item e;
  actions = work_actions script;
}
