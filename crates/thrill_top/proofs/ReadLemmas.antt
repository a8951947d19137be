-- The bytes of a script.
use Rattle.std.proofs.Common.{◌≡◌, ℕ, ◌+◌, ◌-◌, ◌<◌, ◌≤◌, true, false, ltb, List, [], ◌∷◌, ◌++◌, length, take, Option, None, Some, Result, Ok, Err, IfOk, IfSome, IsSome, refl, sym, ap, ◌∙◌, subst, arith, length-take}
use Rattle.std.proofs.lemmas.Bool.{ltb-true, ltb-false, lt-ltb, true≢false}
use Rattle.std.proofs.lemmas.List.{take_all}
use Rattle.row_defs.specs.declared.cause.Cause.TheVariants.{ScriptLong}
use Rattle.script_defs.specs.Limits.{script_limit, script_lines_limit}
use Rattle.script_defs.specs.Reading.{reading_of}
use Rattle.row_defs.specs.Inputs.{Inputs}
use Rattle.dia_edge.specs.Shelves.{Holdings, GivesPrefix, IsOpened, IsAtEnd}
use Rattle.dia_edge.proofs.ShelfLemmas.{gives_then}
use Rattle.dia_lines.proofs.InputLemmas.{take-append-past}

take_prefix : (xs ys : List ℕ) → take (length xs) (xs ++ ys) ≡ xs
take_prefix [] ys = refl
take_prefix (x ∷ xs) ys = ap (λ (zs : List ℕ). x ∷ zs) (take_prefix xs ys)

-- the prefix that a buffer is of its memory
pub whole_prefix : (xs ys : List ℕ) (n : ℕ) → n ≡ length xs → take n (xs ++ ys) ≡ xs
whole_prefix xs ys n long = ap (λ (k : ℕ). take k (xs ++ ys)) long ∙ take_prefix xs ys

-- what is in the buffer behind a read
pub buffer_more : (all left now : Option (List ℕ)) (buffer prefix room : List ℕ) (total n : ℕ) → GivesPrefix all (take total buffer) left → prefix ≡ take total buffer
    → length prefix ≡ total → GivesPrefix left (take n room) now → GivesPrefix all (take (total + n) (prefix ++ room)) now
buffer_more all left now buffer prefix room total n before is long h =
    let Gives : List ℕ → Type 0 = λ xs. GivesPrefix all xs now in
    let Before : List ℕ → Type 0 = λ xs. GivesPrefix all xs left in
    let behind : total + n - length prefix ≡ n = omega (arith, long) in
    let whole : take (total + n) (prefix ++ room) ≡ prefix ++ take n room =
    take-append-past (total + n) prefix room (omega (arith, long)) ∙ ap (λ (k : ℕ). prefix ++ take k room) behind in
    subst Gives (sym whole) (gives_then all left now prefix (take n room) (subst Before (sym is) before) h)

-- the buffer is full
pub buffer_full : (all left : Option (List ℕ)) (buffer : List ℕ) (total : ℕ) → GivesPrefix all (take total buffer) left → length buffer ≤ total
    → IfSome all (λ bytes. take total buffer ≡ take (length buffer) bytes)
buffer_full None left buffer total h full = tt
buffer_full (Some bytes) left buffer total h full =
    let whole = take_all total buffer full in
    whole ∙ sym (ap (take (length buffer)) (h.1 ∙ ap (λ (xs : List ℕ). xs ++ h.0) whole) ∙ take_prefix buffer h.0)

-- nothing is left
pub buffer_all : (all left : Option (List ℕ)) (buffer : List ℕ) (total : ℕ) → GivesPrefix all (take total buffer) left → total ≤ length buffer → IsAtEnd left
    → IfSome all (λ bytes. take total buffer ≡ take (length buffer) bytes)
buffer_all None left buffer total h within end = tt
buffer_all (Some bytes) left buffer total h within end =
    let End : Option (List ℕ) → Type 0 = IsAtEnd in
    let none : h.0 ≡ [] = subst End h.2 end in
    let all : bytes ≡ take total buffer = h.1 ∙ ap (λ (xs : List ℕ). take total buffer ++ xs) none ∙ nothing_more (take total buffer) in
    let short : length bytes ≤ length buffer = (let long = ap length all ∙ length-take total buffer in omega (arith, long)) in
    sym all ∙ sym (take_all (length buffer) bytes short)
  where
    nothing_more : (xs : List ℕ) → xs ++ [] ≡ xs
    nothing_more [] = refl
    nothing_more (x ∷ xs) = ap (λ (zs : List ℕ). x ∷ zs) (nothing_more xs)

pub asked_bytes : (o : Option (List ℕ)) (buffer items : List ℕ) (n asked : ℕ) → IfSome o (λ all. take n buffer ≡ take (length buffer) all)
    → items ≡ take n buffer → length buffer ≡ asked → IfSome o (λ all. items ≡ take asked all)
asked_bytes None buffer items n asked h is long = tt
asked_bytes (Some all) buffer items n asked h is long = is ∙ h ∙ ap (λ (k : ℕ). take k all) long

some_bytes : (o : Option (List ℕ)) → IsSome o → (all : List ℕ) × (o ≡ Some all)
some_bytes None some = absurd (true≢false (sym some))
some_bytes (Some all) some = (all, refl)

-- what was opened are the input's bytes
pub opened_bytes : {V E : Type 0} (r : Result V E) (P : V → List ℕ → Type 0) (holds : Option Holdings) (left : Option (List ℕ)) (inputs : Inputs) (name : List ℕ)
    → holds ≡ Some inputs → IsOpened holds name left → IfOk r (λ v. IfSome left (λ all. P v all))
    → IfOk r (λ v. (all : List ℕ) × (inputs name ≡ Some all) × P v all)
opened_bytes (Err e) P holds left inputs name is opened h = tt
opened_bytes (Ok v) P holds left inputs name is opened h =
    let Opened : Option Holdings → Type 0 = λ o. IsOpened o name left in
    let o = subst Opened is opened in
    let all = some_bytes (inputs name) o.0 in
    let Left : Option (List ℕ) → Type 0 = λ l. IfSome l (λ bytes. P v bytes) in
    (all.0, all.1, subst Left (o.1 ∙ all.1) h)

-- one byte more than a script may have is enough
long_reading : (bytes : List ℕ) → script_limit < length bytes → reading_of bytes ≡ Err (script_lines_limit + 1, ScriptLong)
unfolding reading_of
long_reading bytes long = rw (lt-ltb script_limit (length bytes) long) refl

pub reading_cut : (bytes : List ℕ) (asked : ℕ) → asked ≡ script_limit + 1 → reading_of (take asked bytes) ≡ reading_of bytes
reading_cut bytes asked is =
    elim (ltb (length bytes) asked) as (λ t. ltb (length bytes) asked ≡ t → reading_of (take asked bytes) ≡ reading_of bytes) [
      | true ↦ λ e. ap reading_of (take_all asked bytes (let less = ltb-true (length bytes) asked e in omega (arith, less)))
      | false ↦ λ e.
          let low = ltb-false (length bytes) asked e in
          let cut : length (take asked bytes) ≡ asked = (let long = length-take asked bytes in omega (arith, long, low)) in
          long_reading (take asked bytes) (omega (arith, cut, is)) ∙ sym (long_reading bytes (omega (arith, low, is)))
    ] refl
