-- The kinds that are known of a line stay known behind the whole script.
use Rattle.std.proofs.Common.{◌≡◌, ℕ, ◌+◌, ◌<◌, ◌≤◌, true, false, cond, eqb, leb, List, [], ◌∷◌, ◌++◌, map, Option, None, Some, IsSome, find, refl, sym, ap, ◌∙◌, subst, arith}
use Rattle.std.specs.List.{AllByRecursion}
use Rattle.std.proofs.lemmas.Bool.{true≢false, eq-eqb, eqb-true, ne_eqb, leb-true, leb-false}
use Rattle.row_defs.specs.declared.kind.Kind.{Kind}
use Rattle.row_defs.specs.LocalOps.{IsSoundOp, op_kinds}
use Rattle.script_defs.specs.Scripts.{Form, lines_form, generate_form, local_form, cache_form, form_operands, form_kinds, Action, action_operand, Statement, line, act, Numbered, Script, statement_at, IsLineIn}
use Rattle.script_defs.specs.Reading.{Earlier, Known, known_after, nothing_known}
use Rattle.script_defs.specs.Sound.{earlier_numbered, kinds_of_earlier, kinds_numbered, kinds_of_form, kinds_of_statement, IsSound, IsSoundAction, IsSoundForm, IsSoundStatement}
use Rattle.script_defs.specs.Plans.{known_behind, kinds_at}
use Rattle.run_laws.proofs.WorkLemmas.{sound_placed}
use Rattle.run_laws.proofs.RunLemmas.{some_statement}

found_longer : (lines more : List Earlier) (n : ℕ) (e : Earlier) → find (λ (x : Earlier). eqb x.number n) lines ≡ Some e → find (λ (x : Earlier). eqb x.number n) (lines ++ more) ≡ Some e
found_longer [] more n e is = let wrong : ⊥ = cc in absurd wrong
found_longer (x ∷ lines) more n e is =
    elim (eqb x.number n) as (λ t. cond t (Some x) (find (λ (y : Earlier). eqb y.number n) lines) ≡ Some e
    → cond t (Some x) (find (λ (y : Earlier). eqb y.number n) (lines ++ more)) ≡ Some e) [
      | true ↦ λ f. f
      | false ↦ λ f. found_longer lines more n e f
    ] is

still_after : (known : Known) (m : ℕ) (s : Statement) (kinds : List Kind) (n : ℕ) (e : Earlier) → earlier_numbered known n ≡ Some e
    → earlier_numbered (known_after known m s kinds) n ≡ Some e
still_after known m (line name form) kinds n e is = found_longer known.lines (record { number = m; name = name; kinds = kinds } ∷ []) n e is
still_after known m (act action) kinds n e is = is

pub still_behind : (known : Known) (script : Script) (n : ℕ) (e : Earlier) → earlier_numbered known n ≡ Some e → earlier_numbered (known_behind known script) n ≡ Some e
still_behind known [] n e is = is
still_behind known (s ∷ later) n e is =
    let kinds = kinds_of_statement known s.statement in
    still_behind (known_after known s.number s.statement kinds) later n e (still_after known s.number s.statement kinds n e is)

there : (o : Option Earlier) → IsSome o → (e : Earlier) × (o ≡ Some e)
there None some = absurd (true≢false (sym some))
there (Some e) some = (e, refl)

-- a line that is known has the same kinds behind the script
pub kinds_stay : (known : Known) (script : Script) (n : ℕ) → IsSome (earlier_numbered known n) → kinds_numbered (known_behind known script) n ≡ kinds_numbered known n
kinds_stay known script n some =
    let e = there (earlier_numbered known n) some in
    ap kinds_of_earlier (still_behind known script n e.0 e.1 ∙ sym e.1)

sound_here : (known : Known) (s : Statement) (action : Action) (script : Script) → IsSoundStatement known s → s ≡ act action
    → IsSoundAction (kinds_numbered (known_behind known script) (action_operand action)) action
sound_here known s action script sound is =
    let Sound : Statement → Type 0 = λ x. IsSoundStatement known x in
    let a = subst Sound is sound in
    let On : List Kind → Type 0 = λ ks. IsSoundAction ks action in
    subst On (sym (kinds_stay known script (action_operand action) a.0)) a.1

sound_at : (known : Known) (n : ℕ) (script : Script) (m : ℕ) (action : Action) → IsSound known n script → statement_at script m ≡ Some (act action)
    → IsSoundAction (kinds_numbered (known_behind known script) (action_operand action)) action
sound_at known n [] m action sound is = let wrong : ⊥ = cc in absurd wrong
sound_at known n (s ∷ later) m action sound is =
    let kinds = kinds_of_statement known s.statement in
    let after = known_after known s.number s.statement kinds in
    elim (eqb s.number m) as (λ t. cond t (Some s.statement) (statement_at later m) ≡ Some (act action)
    → IsSoundAction (kinds_numbered (known_behind after later) (action_operand action)) action) [
      | true ↦ λ e. sound_here known s.statement action (s ∷ later) sound.1 (some_statement s.statement (act action) e)
      | false ↦ λ e. sound_at after (s.number + 1) later m action sound.2 e
    ] is

-- an action of an accepted script is sound on the kinds of its line
pub action_sound : (script : Script) (m : ℕ) (action : Action) → IsSound nothing_known 1 script → statement_at script m ≡ Some (act action)
    → IsSoundAction (kinds_at script (action_operand action)) action
action_sound script m action sound is = sound_at nothing_known 1 script m action sound is

-- lines ---------------------------------------------------------------------------------------------------------------

-- what an accepted script has of a line, where this is known behind it
abbrev pub IsFormIn : Script → Known → ℕ → Form → Type 0
IsFormIn script known n (lines_form input) = Unit {0}
IsFormIn script known n (generate_form count) = Unit {0}
IsFormIn script known n (local_form of op) = (of < n) × IsLineIn script of × IsSoundOp (kinds_numbered known of) op
IsFormIn script known n (cache_form of) = (of < n) × IsLineIn script of

pub record IsLineSound (script : Script) (known : Known) (n : ℕ) (form : Form) : Type 0 where
  pub kinds : kinds_numbered known n ≡ kinds_of_form known form
  pub stands : IsFormIn script known n form

-- the lines that are known stand before a number, and in the script
record IsBelow (script : Script) (known : Known) (n : ℕ) : Type 0 where
  new : (m : ℕ) → n ≤ m → earlier_numbered known m ≡ None
  is_in : (m : ℕ) → IsSome (earlier_numbered known m) → IsLineIn script m

find_none : (lines : List Earlier) (e : Earlier) (n : ℕ) → find (λ (x : Earlier). eqb x.number n) lines ≡ None
    → find (λ (x : Earlier). eqb x.number n) (lines ++ e ∷ []) ≡ cond (eqb e.number n) (Some e) None
find_none [] e n is = refl
find_none (x ∷ lines) e n is =
    elim (eqb x.number n) as (λ t. cond t (Some x) (find (λ (y : Earlier). eqb y.number n) lines) ≡ None
    → cond t (Some x) (find (λ (y : Earlier). eqb y.number n) (lines ++ e ∷ [])) ≡ cond (eqb e.number n) (Some e) None) [
      | true ↦ λ f. let wrong : ⊥ = cc in absurd wrong
      | false ↦ λ f. find_none lines e n f
    ] is

cases : (o : Option Earlier) → (o ≡ None → ⊥) → IsSome o
cases None some = absurd (some refl)
cases (Some e) some = refl

below_after : (script : Script) (known : Known) (n m : ℕ) (s : Statement) (kinds : List Kind) → IsBelow script known n → n ≤ m → statement_at script m ≡ Some s
    → IsBelow script (known_after known m s kinds) (m + 1)
below_after script known n m (act action) kinds h low at = record { new = λ k high. h.new k (omega (arith, low, high)); is_in = h.is_in }
below_after script known n m (line name form) kinds h low at =
    let e : Earlier = record { number = m; name = name; kinds = kinds } in
    record {
      new = λ k high. find_none known.lines e k (h.new k (omega (arith, low, high))) ∙ rw (ne_eqb m k (λ same. omega (arith, same, high))) refl;
      is_in = λ k some.
          elim (earlier_numbered known k) as (λ o. earlier_numbered known k ≡ o → IsLineIn script k) [
            | None ↦ λ none.
                elim (eqb m k) as (λ t. eqb m k ≡ t → IsSome (cond t (Some e) None) → IsLineIn script k) [
                  | true ↦ λ same yes. let In : ℕ → Type 0 = IsLineIn script in subst In (eqb-true m k same) (name, form, at)
                  | false ↦ λ other no. absurd (true≢false (sym no))
                ] refl (let Is : Option Earlier → Type 0 = λ o. IsSome o in subst Is (find_none known.lines e k none) some)
            | Some x ↦ λ found. h.is_in k (let Is : Option Earlier → Type 0 = λ o. IsSome o in subst Is (sym found) refl)
          ] refl;
    }

-- the line itself is found behind it
here_after : (known : Known) (m : ℕ) (name : List ℕ) (form : Form) (kinds : List Kind) → earlier_numbered known m ≡ None
    → earlier_numbered (known_after known m (line name form) kinds) m ≡ Some (record { number = m; name = name; kinds = kinds })
here_after known m name form kinds none =
    find_none known.lines (record { number = m; name = name; kinds = kinds }) m none ∙ rw (eq-eqb m m refl) refl

less_than : (known : Known) (n of : ℕ) → ((m : ℕ) → n ≤ m → earlier_numbered known m ≡ None) → IsSome (earlier_numbered known of) → of < n
less_than known n of new some =
    elim (leb n of) as (λ t. leb n of ≡ t → of < n) [
      | true ↦ λ high.
          let Is : Option Earlier → Type 0 = λ o. IsSome o in
          absurd (true≢false (sym (subst Is (new of (leb-true n of high)) some)))
      | false ↦ λ low. leb-false n of low
    ] refl

form_in_later : (script : Script) (known later : Known) (n m : ℕ) (form : Form) → IsBelow script known n → n ≤ m
    → ((k : ℕ) → IsSome (earlier_numbered known k) → kinds_numbered later k ≡ kinds_numbered known k) → IsSoundForm known form
    → IsFormIn script later m form × (kinds_of_form known form ≡ kinds_of_form later form)
form_in_later script known later n m (lines_form input) h low same sound = (tt, refl)
form_in_later script known later n m (generate_form count) h low same sound = (tt, refl)
form_in_later script known later n m (local_form of op) h low same sound =
    let kinds = same of sound.0 in
    let Sound : List Kind → Type 0 = λ ks. IsSoundOp ks op in
    let less = less_than known n of h.new sound.0 in
    ((omega (arith, less, low), h.is_in of sound.0, subst Sound (sym kinds) sound.1), ap (λ (ks : List Kind). op_kinds ks op) (sym kinds))
form_in_later script known later n m (cache_form of) h low same sound =
    let less = less_than known n of h.new sound in
    ((omega (arith, less, low), h.is_in of sound), sym (same of sound))

line_here : (script : Script) (known : Known) (n m : ℕ) (s : Statement) (name : List ℕ) (form : Form) (later : Script) → IsBelow script known n → n ≤ m
    → IsSoundStatement known s → s ≡ line name form → IsLineSound script (known_behind (known_after known m s (kinds_of_statement known s)) later) m form
line_here script known n m s name form later h low sound is =
    let Goal : Statement → Type 0 = λ x. IsSoundStatement known x → IsLineSound script (known_behind (known_after known m x (kinds_of_statement known x)) later) m form in
    let kinds = kinds_of_form known form in
    let after = known_after known m (line name form) kinds in
    let behind = known_behind after later in
    let base : Goal (line name form) = λ x.
    let stay : (k : ℕ) → IsSome (earlier_numbered known k) → kinds_numbered behind k ≡ kinds_numbered known k =
    λ k some. (let e = there (earlier_numbered known k) some in
    ap kinds_of_earlier (still_behind after later k e.0 (still_after known m (line name form) kinds k e.0 e.1) ∙ sym e.1)) in
    let f = form_in_later script known behind n m form h low stay x in
    let mine = still_behind after later m (record { number = m; name = name; kinds = kinds }) (here_after known m name form kinds (h.new m low)) in
    record { kinds = ap kinds_of_earlier mine ∙ f.1; stands = f.0 } in
    subst Goal (sym is) base sound

line_at : (script : Script) (known : Known) (n : ℕ) (rest : Script) (m : ℕ) (name : List ℕ) (form : Form) → IsSound known n rest
    → AllByRecursion (λ (s : Numbered). statement_at script s.number ≡ Some s.statement) rest → IsBelow script known n → statement_at rest m ≡ Some (line name form)
    → IsLineSound script (known_behind known rest) m form
line_at script known n [] m name form sound placed h is = let wrong : ⊥ = cc in absurd wrong
line_at script known n (s ∷ later) m name form sound placed h is =
    let kinds = kinds_of_statement known s.statement in
    let after = known_after known s.number s.statement kinds in
    elim (eqb s.number m) as (λ t. eqb s.number m ≡ t → cond t (Some s.statement) (statement_at later m) ≡ Some (line name form)
    → IsLineSound script (known_behind after later) m form) [
      | true ↦ λ same e.
          let At : ℕ → Type 0 = λ k. IsLineSound script (known_behind after later) k form in
          subst At (eqb-true s.number m same) (line_here script known n s.number s.statement name form later h sound.0 sound.1 (some_statement s.statement (line name form) e))
      | false ↦ λ other e.
          line_at script after (s.number + 1) later m name form sound.2 placed.1
          (below_after script known n s.number s.statement kinds h sound.0 placed.0) e
    ] refl is

-- a line of an accepted script
pub line_sound : (script : Script) (m : ℕ) (name : List ℕ) (form : Form) → IsSound nothing_known 1 script → statement_at script m ≡ Some (line name form)
    → IsLineSound script (known_behind nothing_known script) m form
line_sound script m name form sound is =
    line_at script nothing_known 1 script m name form sound (sound_placed script sound)
    (record { new = λ k high. refl; is_in = λ k some. absurd (true≢false (sym some)) }) is

-- the kinds of a line's rows come from those of the lines that it names
pub line_kinds : (script : Script) (n : ℕ) (name : List ℕ) (form : Form) → IsSound nothing_known 1 script → statement_at script n ≡ Some (line name form)
    → kinds_at script n ≡ form_kinds (map (kinds_at script) (form_operands form)) form
line_kinds script n name form sound is = (line_sound script n name form sound is).kinds

-- the line of an action
pub action_line : (script : Script) (m : ℕ) (action : Action) → IsSound nothing_known 1 script → statement_at script m ≡ Some (act action) → IsLineIn script (action_operand action)
action_line script m action sound is =
    in_at nothing_known 1 script sound (sound_placed script sound) (record { new = λ k high. refl; is_in = λ k some. absurd (true≢false (sym some)) }) is
  where
    in_at : (known : Known) (n : ℕ) (rest : Script) → IsSound known n rest → AllByRecursion (λ (s : Numbered). statement_at script s.number ≡ Some s.statement) rest
        → IsBelow script known n → statement_at rest m ≡ Some (act action) → IsLineIn script (action_operand action)
    in_at known n [] s placed h e = let wrong : ⊥ = cc in absurd wrong
    in_at known n (x ∷ later) s placed h e =
        let kinds = kinds_of_statement known x.statement in
        let after = known_after known x.number x.statement kinds in
        elim (eqb x.number m) as (λ t. cond t (Some x.statement) (statement_at later m) ≡ Some (act action) → IsLineIn script (action_operand action)) [
          | true ↦ λ f.
              let Sound : Statement → Type 0 = λ y. IsSoundStatement known y in
              h.is_in (action_operand action) (subst Sound (some_statement x.statement (act action) f) s.1).0
          | false ↦ λ f. in_at after (x.number + 1) later s.2 placed.1 (below_after script known n x.number x.statement kinds h s.0 placed.0) f
        ] e
