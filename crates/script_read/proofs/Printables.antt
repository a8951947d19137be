-- The words of a line with no byte outside 0x20 to 0x7E are texts.
use Rattle.std.proofs.Common.{◌≡◌, ℕ, Bool, true, false, List, [], ◌∷◌, ◌++◌, filter, cond, eqb, refl, arith, leb}
use Rattle.std.specs.List.{list_all}
use Rattle.std.specs.Str.{IsAscii, bytes_eq}
use Rattle.std.specs.Prelude.{codes, Option, None, Some, unwrap_or, slice_get}
use Rattle.script_read.specs.Accepting.{AreTexts}
use Rattle.std.proofs.lemmas.Bool.{and_parts, and_from, leb-true}
use Rattle.std.proofs.lemmas.Str.Ascii.{IsAscii-nil, IsAscii-cons}
use Rattle.row_defs.specs.Pieces.{pieces_from, last_piece, words_of, is_some_bytes, space}
use Rattle.script_defs.specs.Reading.{is_printable, sentence_of, defining}

-- every word passes
abbrev pub all_pass : (ℕ → Bool) → List (List ℕ) → Bool
all_pass p words = list_all (list_all p) words

list_all-append : (p : ℕ → Bool) (xs ys : List ℕ) → list_all p xs ≡ true → list_all p ys ≡ true → list_all p (xs ++ ys) ≡ true
list_all-append p [] ys a b = b
list_all-append p (x ∷ xs) ys a b =
    let parts = and_parts (p x) (list_all p xs) a in
    and_from (p x) (list_all p (xs ++ ys)) parts.0 (list_all-append p xs ys parts.1 b)

all_pass-last : (p : ℕ → Bool) (run : List ℕ) → list_all p run ≡ true → all_pass p (last_piece run) ≡ true
all_pass-last p [] a = refl
all_pass-last p (b ∷ run) a = and_from (list_all p (b ∷ run)) true a refl

pub all_pass-pieces : (p : ℕ → Bool) (separator : ℕ) (run bytes : List ℕ) → list_all p run ≡ true → list_all p bytes ≡ true
    → all_pass p (pieces_from separator run bytes) ≡ true
unfolding pieces_from
all_pass-pieces p separator run [] a b = all_pass-last p run a
all_pass-pieces p separator run (x ∷ bytes) a b =
    let parts = and_parts (p x) (list_all p bytes) b in
    elim (eqb x separator) as (λ t. all_pass p (cond t (run ∷ pieces_from separator [] bytes) (pieces_from separator (run ++ x ∷ []) bytes)) ≡ true) [
      | true ↦ and_from (list_all p run) _ a (all_pass-pieces p separator [] bytes refl parts.1)
      | false ↦ all_pass-pieces p separator (run ++ x ∷ []) bytes (list_all-append p run (x ∷ []) a (and_from (p x) true parts.0 refl)) parts.1
    ]

all_pass-filter : (p : ℕ → Bool) (f : List ℕ → Bool) (words : List (List ℕ)) → all_pass p words ≡ true → all_pass p (filter f words) ≡ true
all_pass-filter p f [] a = refl
all_pass-filter p f (w ∷ words) a =
    let parts = and_parts (list_all p w) (all_pass p words) a in
    elim (f w) as (λ t. all_pass p (cond t (w ∷ filter f words) (filter f words)) ≡ true) [
      | true ↦ and_from (list_all p w) _ parts.0 (all_pass-filter p f words parts.1)
      | false ↦ all_pass-filter p f words parts.1
    ]

pub all_pass-words : (p : ℕ → Bool) (line : List ℕ) → list_all p line ≡ true → all_pass p (words_of line) ≡ true
all_pass-words p line a = all_pass-filter p is_some_bytes (pieces_from space [] line) (all_pass-pieces p space [] line refl a)

pub IsAscii-printable : (word : List ℕ) → list_all is_printable word ≡ true → IsAscii word
IsAscii-printable [] a = IsAscii-nil
IsAscii-printable (b ∷ word) a =
    let parts = and_parts (is_printable b) (list_all is_printable word) a in
    let range = and_parts (leb 32 b) (leb b 126) parts.0 in
    let most = leb-true b 126 range.1 in
    IsAscii-cons b word (omega arith) (IsAscii-printable word parts.1)

-- the name and the words after the statement word are words of the line
defining_texts : (name : List ℕ) (words : List (List ℕ)) → list_all is_printable name ≡ true → all_pass is_printable words ≡ true
    → AreTexts (defining name words).defines (defining name words).args
defining_texts name [] a b = (a, refl)
defining_texts name (w ∷ words) a b = (a, (and_parts (list_all is_printable w) (all_pass is_printable words) b).1)

pub sentence_texts : (words : List (List ℕ)) → all_pass is_printable words ≡ true
    → AreTexts (sentence_of words).defines (sentence_of words).args
sentence_texts [] a = refl
sentence_texts (w ∷ []) a = refl
sentence_texts (v ∷ w ∷ words) a =
    let first = and_parts (list_all is_printable v) (all_pass is_printable (w ∷ words)) a in
    let second = and_parts (list_all is_printable w) (all_pass is_printable words) first.1 in
    elim (bytes_eq w (codes "=")) as (λ t.
    AreTexts (cond t (defining v words) (record { defines = None; word = v; args = w ∷ words })).defines
    (cond t (defining v words) (record { defines = None; word = v; args = w ∷ words })).args) [
      | true ↦ defining_texts v words first.0 second.1
      | false ↦ first.1
    ]

-- a word in its place, or none
pub first_printable : (args : List (List ℕ)) → all_pass is_printable args ≡ true → list_all is_printable (unwrap_or (slice_get args 0) []) ≡ true
first_printable [] a = refl
first_printable (w ∷ args) a = (and_parts (list_all is_printable w) (all_pass is_printable args) a).0

pub name_printable : (name : Option (List ℕ)) (args : List (List ℕ)) → AreTexts name args → list_all is_printable (unwrap_or name []) ≡ true
name_printable None args a = refl
name_printable (Some name) args a = a.0

pub args_printable : (name : Option (List ℕ)) (args : List (List ℕ)) → AreTexts name args → all_pass is_printable args ≡ true
args_printable None args a = a
args_printable (Some name) args a = a.1
