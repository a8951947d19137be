-- The work of a script is in order.
use Rattle.std.proofs.Common.{◌≡◌, ℕ, ◌+◌, ◌<◌, ◌≤◌, Bool, true, false, not, ◌&&◌, ◌||◌, cond, eqb, List, [], ◌∷◌, ◌++◌, map, Some, IsSome, find, refl, sym, ap, ◌∙◌, subst, arith, ◌⊎◌, inl, inr, append_assoc, append-nil}
use Rattle.std.specs.List.{AllByRecursion}
use Rattle.std.proofs.lemmas.Bool.{or_left, or_right, true≢false, eqb-true, eq-eqb, ne_eqb}
use Rattle.std.proofs.lemmas.List.{map-append}
use Rattle.std.proofs.lemmas.List.Folds.{list_any-append}
use Rattle.row_defs.specs.declared.kind.Kind.{Kind}
use Rattle.script_defs.specs.Scripts.{Form, lines_form, generate_form, local_form, cache_form, form_operands, Action, action_operand, Statement, line, act, operands_of, Numbered, Script, statement_at}
use Rattle.script_defs.specs.Reading.{Earlier, Known, known_after, nothing_known}
use Rattle.script_defs.specs.Sound.{IsSound, IsSoundStatement, IsSoundForm, kinds_of_statement}
use Rattle.script_defs.specs.Work.{Item, do_line, do_action, has_number, closure, is_line, lines_to_do, work_from, work_of}
use Rattle.run_laws.specs.Order.{IsReadyLine, AreInOrder}

-- numbers among others ------------------------------------------------------------------------------------------

pub or_cases : (a b : Bool) → (a || b) ≡ true → (a ≡ true) ⊎ (b ≡ true)
or_cases true b e = inl refl
or_cases false b e = inr e

pub has_left : (xs ys : List ℕ) (n : ℕ) → has_number xs n ≡ true → has_number (xs ++ ys) n ≡ true
has_left xs ys n h = list_any-append (λ m. eqb m n) xs ys ∙ or_left (has_number xs n) (has_number ys n) h

pub has_right : (xs ys : List ℕ) (n : ℕ) → has_number ys n ≡ true → has_number (xs ++ ys) n ≡ true
has_right xs ys n h = list_any-append (λ m. eqb m n) xs ys ∙ or_right (has_number xs n) (has_number ys n) h

pub has_cases : (xs ys : List ℕ) (n : ℕ) → has_number (xs ++ ys) n ≡ true → (has_number xs n ≡ true) ⊎ (has_number ys n ≡ true)
has_cases xs ys n h = or_cases (has_number xs n) (has_number ys n) (sym (list_any-append (λ m. eqb m n) xs ys) ∙ h)

pub has_one : (n : ℕ) → has_number (n ∷ []) n ≡ true
has_one n = or_left (eqb n n) false (eq-eqb n n refl)

pub is_one : (n m : ℕ) → has_number (n ∷ []) m ≡ true → n ≡ m
is_one n m h = elim (or_cases (eqb n m) false h) [ inl e ↦ eqb-true n m e | inr e ↦ absurd (true≢false (sym e)) ]

pub every_map : {X : Type 0} (P Q : X → Type 0) → ((x : X) → P x → Q x) → (xs : List X) → AllByRecursion P xs → AllByRecursion Q xs
every_map P Q f [] h = tt
every_map P Q f (x ∷ xs) h = (f x h.0, every_map P Q f xs h.1)

every_both : {X : Type 0} (P Q R : X → Type 0) → ((x : X) → P x → Q x → R x) → (xs : List X) → AllByRecursion P xs → AllByRecursion Q xs → AllByRecursion R xs
every_both P Q R f [] h k = tt
every_both P Q R f (x ∷ xs) h k = (f x h.0 k.0, every_both P Q R f xs h.1 k.1)

has_among : (ops lines : List ℕ) (m : ℕ) → AllByRecursion (λ of. has_number lines of ≡ true) ops → has_number ops m ≡ true → has_number lines m ≡ true
has_among [] lines m all h = absurd (true≢false (sym h))
has_among (of ∷ ops) lines m all h = elim (or_cases (eqb of m) (has_number ops m) h) [
  | inl e ↦ (let Has : ℕ → Type 0 = λ k. has_number lines k ≡ true in subst Has (eqb-true of m e) all.0)
  | inr e ↦ has_among ops lines m all.1 e
]

every_has : (ops : List ℕ) → AllByRecursion (λ of. has_number ops of ≡ true) ops
every_has [] = tt
every_has (of ∷ ops) = (
  or_left (eqb of of) (has_number ops of) (eq-eqb of of refl),
  every_map (λ k. has_number ops k ≡ true) (λ k. has_number (of ∷ ops) k ≡ true) (λ k h. or_right (eqb of k) (has_number ops k) h) ops (every_has ops),
)

-- a script whose numbers rise and whose statements name earlier lines --------------------------------------------

abbrev pub more_lines : List ℕ → ℕ → Statement → List ℕ
more_lines lines n statement = cond (is_line statement) (lines ++ n ∷ []) lines

-- behind those lines, from that number on
abbrev pub Follows : List ℕ → ℕ → Script → Type 0
Follows lines n [] = Unit {0}
Follows lines n (s ∷ later) =
    (n ≤ s.number) × AllByRecursion (λ of. has_number lines of ≡ true) (operands_of s.statement) × Follows (more_lines lines s.number s.statement) (s.number + 1) later

abbrev numbers_in : List Earlier → List ℕ
numbers_in lines = map (λ (e : Earlier). e.number) lines

earlier_has : (lines : List Earlier) (of : ℕ) → IsSome (find (λ (e : Earlier). eqb e.number of) lines) → has_number (numbers_in lines) of ≡ true
earlier_has [] of some = absurd (true≢false (sym some))
earlier_has (e ∷ lines) of some =
    elim (eqb e.number of) as (λ t. IsSome (cond t (Some e) (find (λ (x : Earlier). eqb x.number of) lines)) → (t || has_number (numbers_in lines) of) ≡ true) [
      | true ↦ λ s. refl
      | false ↦ λ s. earlier_has lines of s
    ] some

form_named : (known : Known) (form : Form) → IsSoundForm known form → AllByRecursion (λ of. has_number (numbers_in known.lines) of ≡ true) (form_operands form)
form_named known (lines_form input) h = tt
form_named known (generate_form count) h = tt
form_named known (local_form of op) h = (earlier_has known.lines of h.0, tt)
form_named known (cache_form of) h = (earlier_has known.lines of h, tt)

statement_named : (known : Known) (s : Statement) → IsSoundStatement known s → AllByRecursion (λ of. has_number (numbers_in known.lines) of ≡ true) (operands_of s)
statement_named known (line name form) h = form_named known form h
statement_named known (act action) h = (earlier_has known.lines (action_operand action) h.0, tt)

lines_known : (known : Known) (n : ℕ) (s : Statement) (kinds : List Kind) → numbers_in (known_after known n s kinds).lines ≡ more_lines (numbers_in known.lines) n s
lines_known known n (line name form) kinds = map-append (λ (e : Earlier). e.number) known.lines (record { number = n; name = name; kinds = kinds } ∷ [])
lines_known known n (act action) kinds = refl

follows_from : (known : Known) (n : ℕ) (script : Script) → IsSound known n script → Follows (numbers_in known.lines) n script
follows_from known n [] h = tt
follows_from known n (s ∷ later) h =
    let after = known_after known s.number s.statement (kinds_of_statement known s.statement) in
    let Behind : List ℕ → Type 0 = λ lines. Follows lines (s.number + 1) later in (
      h.0,
      statement_named known s.statement h.1,
      subst Behind (lines_known known s.number s.statement (kinds_of_statement known s.statement)) (follows_from after (s.number + 1) later h.2),
    )

-- each statement is found by its number ---------------------------------------------------------------------------

abbrev IsPlaced : Script → ℕ → Numbered → Type 0
IsPlaced script n s = (statement_at script s.number ≡ Some s.statement) × (n ≤ s.number)

all_placed : (lines : List ℕ) (n : ℕ) (script : Script) → Follows lines n script → AllByRecursion (IsPlaced script n) script
all_placed lines n [] h = tt
all_placed lines n (s ∷ later) h = (
  (rw (eq-eqb s.number s.number refl) refl, h.0),
  every_map (IsPlaced later (s.number + 1)) (IsPlaced (s ∷ later) n)
      (λ t p. (rw (ne_eqb s.number t.number (λ same. omega (arith, p.1))) p.0, omega (arith, h.0, p.1)))
      later (all_placed (more_lines lines s.number s.statement) (s.number + 1) later h.2),
)

abbrev lines_in : Script → List ℕ
lines_in [] = []
lines_in (s ∷ later) = cond (is_line s.statement) (s.number ∷ lines_in later) (lines_in later)

-- the lines that are needed ------------------------------------------------------------------------------------------

abbrev IsClosedAt : List ℕ → Numbered → Type 0
IsClosedAt needed s = has_number needed s.number ≡ true → AllByRecursion (λ of. has_number needed of ≡ true) (operands_of s.statement)

closure_keeps : (script : Script) (wanted : List ℕ) (m : ℕ) → has_number wanted m ≡ true → has_number (closure script wanted) m ≡ true
unfolding closure
closure_keeps [] wanted m h = h
closure_keeps (s ∷ later) wanted m h =
    let found = closure later wanted in
    elim (has_number found s.number) as (λ t. has_number (cond t (found ++ operands_of s.statement) found) m ≡ true) [
      | true ↦ has_left found (operands_of s.statement) m (closure_keeps later wanted m h)
      | false ↦ closure_keeps later wanted m h
    ]

abbrev AreBelow : List ℕ → ℕ → Type 0
AreBelow lines n = (m : ℕ) → has_number lines m ≡ true → m < n

below_more : (lines : List ℕ) (n k : ℕ) (s : Statement) → AreBelow lines n → n ≤ k → AreBelow (more_lines lines k s) (k + 1)
below_more lines n k (line name form) below low = λ m h. elim (has_cases lines (k ∷ []) m h) [
  | inl e ↦ (let less = below m e in omega arith)
  | inr e ↦ (let same = is_one k m e in omega arith)
]
below_more lines n k (act action) below low = λ m h. let less = below m h in omega arith

closed_later : (found ops lines : List ℕ) (n k : ℕ) → AreBelow lines n → n ≤ k → AllByRecursion (λ of. has_number lines of ≡ true) ops
    → (t : Numbered) → IsClosedAt found t → (k + 1 ≤ t.number) → IsClosedAt (found ++ ops) t
closed_later found ops lines n k below low named t closed high = λ h. elim (has_cases found ops t.number h) [
  | inl e ↦ every_map (λ of. has_number found of ≡ true) (λ of. has_number (found ++ ops) of ≡ true) (λ of g. has_left found ops of g) (operands_of t.statement) (closed e)
  | inr e ↦ (let less = below t.number (has_among ops lines t.number named e) in absurd (omega arith))
]

closure_closed : (lines : List ℕ) (n : ℕ) (script : Script) (wanted : List ℕ) → AreBelow lines n → Follows lines n script
    → AllByRecursion (IsClosedAt (closure script wanted)) script
unfolding closure
closure_closed lines n [] wanted below h = tt
closure_closed lines n (s ∷ later) wanted below h =
    let found = closure later wanted in
    let ops = operands_of s.statement in
    let lines' = more_lines lines s.number s.statement in
    let rest = closure_closed lines' (s.number + 1) later wanted (below_more lines n s.number s.statement below h.0) h.2 in
    let high = every_map (IsPlaced later (s.number + 1)) (λ (t : Numbered). s.number + 1 ≤ t.number) (λ t p. p.1) later (all_placed lines' (s.number + 1) later h.2) in
    elim (has_number found s.number) as (λ t. has_number found s.number ≡ t → AllByRecursion (IsClosedAt (cond t (found ++ ops) found)) (s ∷ later)) [
      | true ↦ λ is. (
        λ e. every_map (λ of. has_number ops of ≡ true) (λ of. has_number (found ++ ops) of ≡ true) (λ of g. has_right found ops of g) ops (every_has ops),
        every_both (IsClosedAt found) (λ (t : Numbered). s.number + 1 ≤ t.number) (IsClosedAt (found ++ ops))
            (λ t closed up. closed_later found ops lines n s.number below h.0 h.1 t closed up) later rest high,
      )
      | false ↦ λ is. (λ e. absurd (true≢false (sym e ∙ is)), rest)
    ] refl

-- the lines that are done for an action ---------------------------------------------------------------------------------

to_do_cases : (x y z : Bool) → (((x && y && not z) ≡ true) × (x ≡ true) × (y ≡ true) × (z ≡ false)) ⊎ (((x && y && not z) ≡ false) × (x ≡ true → y ≡ true → z ≡ true))
to_do_cases true true true = inr (refl, λ e f. refl)
to_do_cases true true false = inl (refl, refl, refl, refl)
to_do_cases true false z = inr (refl, λ e f. absurd (true≢false (sym f)))
to_do_cases false y z = inr (refl, λ e f. absurd (true≢false (sym e)))

-- a needed line is done then
to_do_has : (script : Script) (needed done : List ℕ) (m : ℕ) → has_number (lines_in script) m ≡ true → has_number needed m ≡ true
    → has_number (done ++ lines_to_do script needed done) m ≡ true
to_do_has [] needed done m h need = absurd (true≢false (sym h))
to_do_has (s ∷ later) needed done m h need =
    let rest = lines_to_do later needed done in
    let Has : Bool → Type 0 = λ t. has_number (done ++ cond t (s.number ∷ rest) rest) m ≡ true in
    let longer : has_number (done ++ rest) m ≡ true → has_number (done ++ s.number ∷ rest) m ≡ true =
    λ e. elim (has_cases done rest m e) [
      | inl f ↦ has_left done (s.number ∷ rest) m f
      | inr f ↦ has_right done (s.number ∷ rest) m (or_right (eqb s.number m) (has_number rest m) f)
    ] in
    let here : s.number ≡ m → (is_line s.statement ≡ true)
    → Has (is_line s.statement && has_number needed s.number && not (has_number done s.number)) =
    λ same is. elim (to_do_cases (is_line s.statement) (has_number needed s.number) (has_number done s.number)) [
      | inl c ↦ subst Has (sym c.0) (has_right done (s.number ∷ rest) m (or_left (eqb s.number m) (has_number rest m) (eq-eqb s.number m same)))
      | inr c ↦
          let Need : ℕ → Type 0 = λ k. has_number needed k ≡ true in
          let Done : ℕ → Type 0 = λ k. has_number done k ≡ true in
          subst Has (sym c.0) (has_left done rest m (subst Done same (c.1 is (subst Need (sym same) need))))
    ] in
    let behind : has_number (lines_in later) m ≡ true → Has (is_line s.statement && has_number needed s.number && not (has_number done s.number)) =
    λ e. elim (is_line s.statement && has_number needed s.number && not (has_number done s.number)) as Has [
      | true ↦ longer (to_do_has later needed done m e need)
      | false ↦ to_do_has later needed done m e need
    ] in
    elim (is_line s.statement) as (λ t. is_line s.statement ≡ t → has_number (cond t (s.number ∷ lines_in later) (lines_in later)) m ≡ true
    → Has (is_line s.statement && has_number needed s.number && not (has_number done s.number))) [
      | true ↦ λ is e. elim (or_cases (eqb s.number m) (has_number (lines_in later) m) e) [
        | inl f ↦ here (eqb-true s.number m f) is
        | inr f ↦ behind f
      ]
      | false ↦ λ is e. behind e
    ] refl h

line_of : (s : Statement) → is_line s ≡ true → (name : List ℕ) × (form : Form) × (s ≡ line name form)
line_of (line name form) is = (name, form, refl)
line_of (act action) is = absurd (true≢false (sym is))

-- what is known in the midst of the lines to do: those before that are needed are done, and those that were done and no later ones
record IsMidst (needed done lines acc : List ℕ) (n : ℕ) : Type 0 where
  needed_done : (m : ℕ) → has_number lines m ≡ true → has_number needed m ≡ true → has_number acc m ≡ true
  still : (m : ℕ) → has_number done m ≡ true → has_number acc m ≡ true
  no_later : (m : ℕ) → has_number acc m ≡ true → (has_number done m ≡ true) ⊎ (m < n)

midst_line : (needed done lines acc : List ℕ) (n k : ℕ) (s : Statement) → n ≤ k → is_line s ≡ true → IsMidst needed done lines acc n
    → IsMidst needed done (more_lines lines k s) (acc ++ k ∷ []) (k + 1)
midst_line needed done lines acc n k (act action) low is h = absurd (true≢false (sym is))
midst_line needed done lines acc n k (line name form) low is h = record {
  needed_done = λ m e need. elim (has_cases lines (k ∷ []) m e) [
    | inl f ↦ has_left acc (k ∷ []) m (h.needed_done m f need)
    | inr f ↦ has_right acc (k ∷ []) m f
  ];
  still = λ m e. has_left acc (k ∷ []) m (h.still m e);
  no_later = λ m e. elim (has_cases acc (k ∷ []) m e) [
    | inl f ↦ elim (h.no_later m f) [ inl g ↦ inl g | inr g ↦ inr (omega (arith, low, g)) ]
    | inr f ↦ (let same = is_one k m f in inr (omega (arith, same)))
  ];
}

midst_other : (needed done lines acc : List ℕ) (n k : ℕ) (s : Statement) → n ≤ k
    → (is_line s ≡ true → has_number needed k ≡ true → has_number done k ≡ true) → IsMidst needed done lines acc n
    → IsMidst needed done (more_lines lines k s) acc (k + 1)
midst_other needed done lines acc n k (act action) low other h = record {
  needed_done = h.needed_done;
  still = h.still;
  no_later = λ m e. elim (h.no_later m e) [ inl g ↦ inl g | inr g ↦ inr (omega (arith, low, g)) ];
}
midst_other needed done lines acc n k (line name form) low other h = record {
  needed_done = λ m e need. elim (has_cases lines (k ∷ []) m e) [
    | inl f ↦ h.needed_done m f need
    | inr f ↦
        let Need : ℕ → Type 0 = λ j. has_number needed j ≡ true in
        let Acc : ℕ → Type 0 = λ j. has_number acc j ≡ true in
        let same = is_one k m f in
        subst Acc same (h.still k (other refl (subst Need (sym same) need)))
  ];
  still = h.still;
  no_later = λ m e. elim (h.no_later m e) [ inl g ↦ inl g | inr g ↦ inr (omega (arith, low, g)) ];
}

-- it isn't done, and the lines that it names are
ready_line : (script : Script) (needed done lines acc : List ℕ) (n : ℕ) (s : Numbered) → n ≤ s.number → is_line s.statement ≡ true
    → has_number needed s.number ≡ true → statement_at script s.number ≡ Some s.statement → AllByRecursion (λ of. has_number lines of ≡ true) (operands_of s.statement)
    → IsClosedAt needed s → IsMidst needed done lines acc n → IsReadyLine script acc s.number
ready_line script needed done lines acc n s low is need at named closed h =
    let l = line_of s.statement is in
    let Ops : Statement → Type 0 = λ x. AllByRecursion (λ of. has_number acc of ≡ true) (operands_of x) in
    let both = every_both (λ of. has_number lines of ≡ true) (λ of. has_number needed of ≡ true) (λ of. has_number acc of ≡ true) h.needed_done
    (operands_of s.statement) named (closed need) in
    record { name = l.0; form = l.1; is = at ∙ ap Some l.2; operands = subst Ops l.2 both }

new_line : (needed done lines acc : List ℕ) (n k : ℕ) → n ≤ k → has_number done k ≡ false → IsMidst needed done lines acc n → has_number acc k ≡ false
new_line needed done lines acc n k low new h =
    elim (has_number acc k) as (λ t. has_number acc k ≡ t → t ≡ false) [
      | true ↦ λ e. elim (h.no_later k e) [ inl g ↦ absurd (true≢false (sym g ∙ new)) | inr g ↦ absurd (omega (arith, low, g)) ]
      | false ↦ λ e. refl
    ] refl

to_do_in_order : (script : Script) (needed done : List ℕ) (tail : List Item) (rest : Script) (lines acc : List ℕ) (n : ℕ)
    → Follows lines n rest → AllByRecursion (λ (s : Numbered). statement_at script s.number ≡ Some s.statement) rest → AllByRecursion (IsClosedAt needed) rest
    → IsMidst needed done lines acc n → AreInOrder script (acc ++ lines_to_do rest needed done) tail
    → AreInOrder script acc (map do_line (lines_to_do rest needed done) ++ tail)
to_do_in_order script needed done tail [] lines acc n h at closed m last =
    let In : List ℕ → Type 0 = λ xs. AreInOrder script xs tail in subst In (append-nil acc) last
to_do_in_order script needed done tail (s ∷ later) lines acc n h at closed m last =
    let k = s.number in
    let rest = lines_to_do later needed done in
    let lines' = more_lines lines k s.statement in
    let Goal : Bool → Type 0 = λ t. AreInOrder script (acc ++ cond t (k ∷ rest) rest) tail → AreInOrder script acc (map do_line (cond t (k ∷ rest) rest) ++ tail) in
    let In : List ℕ → Type 0 = λ xs. AreInOrder script xs tail in
    let result : Goal (is_line s.statement && has_number needed k && not (has_number done k)) =
    elim (to_do_cases (is_line s.statement) (has_number needed k) (has_number done k)) [
      | inl c ↦ subst Goal (sym c.0) (λ e. (
        ready_line script needed done lines acc n s h.0 c.1 c.2 at.0 h.1 closed.0 m,
        new_line needed done lines acc n k h.0 c.3 m,
        to_do_in_order script needed done tail later lines' (acc ++ k ∷ []) (k + 1) h.2 at.1 closed.1 (midst_line needed done lines acc n k s.statement h.0 c.1 m)
            (subst In (sym (append_assoc acc (k ∷ []) rest)) e),
      ))
      | inr c ↦ subst Goal (sym c.0) (λ e.
          to_do_in_order script needed done tail later lines' acc (k + 1) h.2 at.1 closed.1 (midst_other needed done lines acc n k s.statement h.0 c.1 m) e)
    ] in
    result last

-- the whole work ----------------------------------------------------------------------------------------------------------

record IsWhole (script : Script) : Type 0 where
  follows : Follows [] 1 script
  at : AllByRecursion (λ (s : Numbered). statement_at script s.number ≡ Some s.statement) script

no_lines : AreBelow [] 1
no_lines = λ m h. absurd (true≢false (sym h))

at_first : (needed done : List ℕ) → IsMidst needed done [] done 1
at_first needed done = record { needed_done = λ m h need. absurd (true≢false (sym h)); still = λ m h. h; no_later = λ m h. inl h }

for_action : (script : Script) (done : List ℕ) (action : Action) (k : ℕ) (later : List Item) → IsWhole script → statement_at script k ≡ Some (act action)
    → has_number (lines_in script) (action_operand action) ≡ true
    → AreInOrder script (done ++ lines_to_do script (closure script (action_operand action ∷ [])) done) later
    → AreInOrder script done (map do_line (lines_to_do script (closure script (action_operand action ∷ [])) done) ++ do_action k ∷ later)
for_action script done action k later w at known last =
    let of = action_operand action in
    let needed = closure script (of ∷ []) in
    to_do_in_order script needed done (do_action k ∷ later) script [] done 1 w.follows w.at (closure_closed [] 1 script (of ∷ []) no_lines w.follows) (at_first needed done)
    (record { action = action; is = at; operand = to_do_has script needed done of known (closure_keeps script (of ∷ []) of (has_one of)) }, last)

abbrev AreKnown : Script → List ℕ → Type 0
AreKnown script lines = (m : ℕ) → has_number lines m ≡ true → has_number (lines_in script) m ≡ true

known_more : (script : Script) (lines : List ℕ) (n : ℕ) (s : Statement) → AreKnown script lines → (is_line s ≡ true → has_number (lines_in script) n ≡ true)
    → AreKnown script (more_lines lines n s)
known_more script lines n (act action) known new = known
known_more script lines n (line name form) known new = λ m h. elim (has_cases lines (n ∷ []) m h) [
  | inl e ↦ known m e
  | inr e ↦ (let Known : ℕ → Type 0 = λ j. has_number (lines_in script) j ≡ true in subst Known (is_one n m e) (new refl))
]

abbrev IsIn : Script → Numbered → Type 0
IsIn script s = (statement_at script s.number ≡ Some s.statement) × (is_line s.statement ≡ true → has_number (lines_in script) s.number ≡ true)

by_statement : (script later : Script) (lines : List ℕ) (k : ℕ) (s : Statement) (done : List ℕ) → IsWhole script
    → AllByRecursion (λ of. has_number lines of ≡ true) (operands_of s) → Follows (more_lines lines k s) (k + 1) later
    → statement_at script k ≡ Some s → (is_line s ≡ true → has_number (lines_in script) k ≡ true) → AreKnown script lines
    → ((more more' : List ℕ) → Follows more (k + 1) later → AreKnown script more → AreInOrder script more' (work_from script more' later))
    → AreInOrder script done (work_from script done (record { number = k; statement = s } ∷ later))
unfolding work_from
by_statement script later lines k (line name form) done w named h at new known next =
    next (lines ++ k ∷ []) done h (known_more script lines k (line name form) known new)
by_statement script later lines k (act action) done w named h at new known next =
    let more = lines_to_do script (closure script (action_operand action ∷ [])) done in
    for_action script done action k (work_from script (done ++ more) later) w at (known (action_operand action) named.0) (next lines (done ++ more) h known)

work_in_order : (script rest : Script) (lines : List ℕ) (n : ℕ) (done : List ℕ) → IsWhole script → Follows lines n rest → AllByRecursion (IsIn script) rest
    → AreKnown script lines → AreInOrder script done (work_from script done rest)
unfolding work_from
work_in_order script [] lines n done w h found known = tt
work_in_order script (s ∷ later) lines n done w h found known =
    by_statement script later lines s.number s.statement done w h.1 h.2 found.0.0 found.0.1 known
    (λ more after behind are. work_in_order script later more (s.number + 1) after w behind found.1 are)

all_in : (script : Script) → AllByRecursion (λ (s : Numbered). is_line s.statement ≡ true → has_number (lines_in script) s.number ≡ true) script
all_in [] = tt
all_in (s ∷ later) = (
  λ is. rw is (or_left (eqb s.number s.number) (has_number (lines_in later) s.number) (eq-eqb s.number s.number refl)),
  every_map (λ (t : Numbered). is_line t.statement ≡ true → has_number (lines_in later) t.number ≡ true)
      (λ (t : Numbered). is_line t.statement ≡ true → has_number (lines_in (s ∷ later)) t.number ≡ true)
      (λ t h is. longer t.number (h is)) later (all_in later),
)
  where
    longer : (m : ℕ) → has_number (lines_in later) m ≡ true → has_number (lines_in (s ∷ later)) m ≡ true
    longer m h = elim (is_line s.statement) as (λ t. has_number (cond t (s.number ∷ lines_in later) (lines_in later)) m ≡ true) [
      | true ↦ or_right (eqb s.number m) (has_number (lines_in later) m) h
      | false ↦ h
    ]

-- each statement of a sound script is found by its number
pub sound_placed : (script : Script) → IsSound nothing_known 1 script → AllByRecursion (λ (s : Numbered). statement_at script s.number ≡ Some s.statement) script
sound_placed script sound =
    every_map (IsPlaced script 1) (λ (s : Numbered). statement_at script s.number ≡ Some s.statement) (λ s p. p.0) script
    (all_placed [] 1 script (follows_from nothing_known 1 script sound))

pub work_order : (script : Script) → IsSound nothing_known 1 script → AreInOrder script [] (work_of script)
work_order script sound =
    let follows = follows_from nothing_known 1 script sound in
    let at = sound_placed script sound in
    work_in_order script script [] 1 [] (record { follows = follows; at = at }) follows
    (every_both (λ (s : Numbered). statement_at script s.number ≡ Some s.statement)
    (λ (s : Numbered). is_line s.statement ≡ true → has_number (lines_in script) s.number ≡ true) (IsIn script) (λ s p q. (p, q)) script at (all_in script))
    (λ m h. absurd (true≢false (sym h)))
