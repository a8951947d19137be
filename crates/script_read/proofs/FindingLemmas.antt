-- An earlier line that was found by its name is found again by its number.
use Rattle.std.proofs.Common.{◌≡◌, ℕ, ◌+◌, ◌≤◌, Bool, true, false, cond, eqb, List, [], ◌∷◌, ◌++◌, Option, None, Some, find, refl, sym, ◌∙◌, subst, arith}
use Rattle.std.proofs.lemmas.Bool.{eq-eqb, ne_eqb}
use Rattle.std.specs.Str.{bytes_eq}
use Rattle.row_defs.specs.declared.kind.Kind.{Kind}
use Rattle.script_defs.specs.Scripts.{Statement, line, act}
use Rattle.script_defs.specs.Reading.{Earlier, Known, nothing_known, earlier_named, known_after}
use Rattle.script_defs.specs.Sound.{earlier_numbered}

-- finding in a longer list -----------------------------------------------------------------------------------

find-append_some : {A : Type 0} (p : A → Bool) (xs ys : List A) (x : A) → find p xs ≡ Some x → find p (xs ++ ys) ≡ Some x
find-append_some p [] ys x is = cc
find-append_some p (a ∷ xs) ys x is =
    elim (p a) as (λ t. cond t (Some a) (find p xs) ≡ Some x → cond t (Some a) (find p (xs ++ ys)) ≡ Some x) [
      | true ↦ λ e. e
      | false ↦ λ e. find-append_some p xs ys x e
    ] is

find-append_none : {A : Type 0} (p : A → Bool) (xs ys : List A) → find p xs ≡ None → find p (xs ++ ys) ≡ find p ys
find-append_none p [] ys is = refl
find-append_none p (a ∷ xs) ys is =
    elim (p a) as (λ t. cond t (Some a) (find p xs) ≡ None → cond t (Some a) (find p (xs ++ ys)) ≡ find p ys) [
      | true ↦ λ e. let wrong : ⊥ = cc in absurd wrong
      | false ↦ λ e. find-append_none p xs ys e
    ] is

-- what was found is found again, and the number of the next line is new
pub record IsNumbered (known : Known) (n : ℕ) : Type 0 where
  pub again : (w : List ℕ) (e : Earlier) → earlier_named known w ≡ Some e → earlier_numbered known e.number ≡ Some e
  pub new : (m : ℕ) → n ≤ m → earlier_numbered known m ≡ None

pub numbered_nothing : IsNumbered nothing_known 1
numbered_nothing = record { again = λ w e is. cc; new = λ m low. refl }

find_one : {A : Type 0} (p : A → Bool) (x : A) → p x ≡ true → find p (x ∷ []) ≡ Some x
find_one p x is = rw is refl

find_not : {A : Type 0} (p : A → Bool) (x : A) → p x ≡ false → find p (x ∷ []) ≡ None
find_not p x is = rw is refl

some_same : (x y : Earlier) → Some x ≡ Some y → x ≡ y
some_same x y e = cc

only_one : (p : Earlier → Bool) (one e : Earlier) → find p (one ∷ []) ≡ Some e → one ≡ e
only_one p one e is =
    elim (p one) as (λ t. cond t (Some one) None ≡ Some e → one ≡ e) [
      | true ↦ λ same. some_same one e same
      | false ↦ λ wrong. let no : ⊥ = cc in absurd no
    ] is

found_again : (known : Known) (n : ℕ) (one : Earlier) → IsNumbered known n → n ≤ one.number → (w : List ℕ) (e : Earlier) (o : Option Earlier)
    → earlier_named known w ≡ o → find (λ (x : Earlier). bytes_eq x.name w) (known.lines ++ one ∷ []) ≡ Some e
    → find (λ (x : Earlier). eqb x.number e.number) (known.lines ++ one ∷ []) ≡ Some e
found_again known n one h low w e (Some x) was is =
    let same : x ≡ e = some_same x e (sym (find-append_some (λ (y : Earlier). bytes_eq y.name w) known.lines (one ∷ []) x was) ∙ is) in
    let Again : Earlier → Type 0 = λ y. earlier_numbered known y.number ≡ Some y in
    find-append_some (λ (y : Earlier). eqb y.number e.number) known.lines (one ∷ []) e (subst Again same (h.again w x was))
found_again known n one h low w e None was is =
    let same : one ≡ e = only_one (λ (y : Earlier). bytes_eq y.name w) one e
    (sym (find-append_none (λ (y : Earlier). bytes_eq y.name w) known.lines (one ∷ []) was) ∙ is) in
    let Again : Earlier → Type 0 = λ y. find (λ (x : Earlier). eqb x.number y.number) (known.lines ++ one ∷ []) ≡ Some y in
    subst Again same
    (find-append_none (λ (x : Earlier). eqb x.number one.number) known.lines (one ∷ []) (h.new one.number low)
    ∙ find_one (λ (x : Earlier). eqb x.number one.number) one (eq-eqb one.number one.number refl))

-- one more line keeps that
pub numbered_line : (known : Known) (n m : ℕ) (s : Statement) (kinds : List Kind) → IsNumbered known n → n ≤ m → IsNumbered (known_after known m s kinds) (m + 1)
numbered_line known n m (act action) kinds h low = record { again = h.again; new = λ k high. h.new k (omega arith) }
numbered_line known n m (line name form) kinds h low =
    let one : Earlier = record { number = m; name = name; kinds = kinds } in
    record {
      again = λ w e is. found_again known n one h low w e (earlier_named known w) refl is;
      new = λ k high.
          find-append_none (λ (x : Earlier). eqb x.number k) known.lines (one ∷ []) (h.new k (omega arith))
          ∙ find_not (λ (x : Earlier). eqb x.number k) one (ne_eqb m k (λ same. omega arith));
    }
