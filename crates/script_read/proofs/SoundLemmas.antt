-- An accepted script is sound.
use Rattle.std.proofs.Common.{◌≡◌, ℕ, ◌+◌, ◌≤◌, true, false, cond, ltb, List, [], ◌∷◌, length, Option, None, Some, Result, Ok, Err, refl, subst, arith}
use Rattle.std.proofs.lemmas.Bool.{ltb-false}
use Rattle.row_defs.specs.declared.kind.Kind.{Kind}
use Rattle.row_defs.specs.declared.cause.Cause.{Cause}
use Rattle.row_defs.specs.declared.cause.Cause.TheVariants.{LineLong, TooManyColumns}
use Rattle.script_defs.specs.declared.word.Word.{Word}
use Rattle.row_defs.specs.Pieces.{words_of, lines_of}
use Rattle.script_defs.specs.Scripts.{Statement, Script}
use Rattle.script_defs.specs.Reading.{Known, nothing_known, Sentence, sentence_of, word_in, LineReading, skipped, refused, stated, line_reading, reading_of_parts, reading_of_word, reading_without, unknown_cause, within_columns, first_cause, tests_of, tests_of_unknown, shape_in, statement_in, kinds_of_line, is_skipped_words, known_after, onto_script, reading_from}
use Rattle.script_defs.specs.Limits.{line_limit}
use Rattle.row_defs.specs.Limits.{most_columns}
use Rattle.script_defs.specs.Sound.{IsSound}
use Rattle.script_read.proofs.FindingLemmas.{IsNumbered, numbered_nothing, numbered_line}
use Rattle.script_read.proofs.AcceptedLemmas.{accepted}
use Rattle.script_read.proofs.WordLemmas.{IsSoundStated, word_told}

-- a line without a cause -------------------------------------------------------------------------------------

stated_same : (s x : Statement) (kinds ys : List Kind) → stated s kinds ≡ stated x ys → (s ≡ x) × (kinds ≡ ys)
stated_same s x kinds ys e = (cc, cc)

-- a line whose rows haven't too many columns
within_sound : (known : Known) (t s : Statement) (ks kinds : List Kind) → (length ks ≤ most_columns → IsSoundStated known t ks)
    → within_columns t ks ≡ stated s kinds → IsSoundStated known s kinds
within_sound known t s ks kinds sound is =
    elim (ltb most_columns (length ks)) as (λ b. ltb most_columns (length ks) ≡ b → cond b (refused TooManyColumns) (stated t ks) ≡ stated s kinds → IsSoundStated known s kinds) [
      | true ↦ λ many e. let wrong : ⊥ = cc in absurd wrong
      | false ↦ λ few e.
          let same = stated_same t s ks kinds e in
          let As : Statement → Type 0 = λ x. IsSoundStated known x ks in
          let Of : List Kind → Type 0 = λ ys. IsSoundStated known s ys in
          subst Of same.1 (subst As same.0 (sound (ltb-false most_columns (length ks) few)))
    ] refl is

word_sound : (known : Known) (n : ℕ) (bytes : List ℕ) (p : Sentence) (s : Statement) (kinds : List Kind) (word : Word) (f : Option Cause) → IsNumbered known n
    → first_cause (tests_of known bytes p (shape_in word p.args)) ≡ f → reading_without known p word f ≡ stated s kinds → IsSoundStated known s kinds
word_sound known n bytes p s kinds word (Some cause) numbered is e = let wrong : ⊥ = cc in absurd wrong
word_sound known n bytes p s kinds word None numbered is e =
    let told = word_told known p.defines word p.args (accepted known bytes p (shape_in word p.args) is).0 in
    within_sound known (statement_in known p.defines word p.args) s (kinds_of_line known p.defines word p.args) kinds (told.stated n numbered) e

unknown_unstated : (f : Option Cause) (s : Statement) (kinds : List Kind) → unknown_cause f ≡ stated s kinds → ⊥
unknown_unstated None s kinds e = cc
unknown_unstated (Some cause) s kinds e = cc

stated_sound : (known : Known) (n : ℕ) (bytes : List ℕ) (p : Sentence) (s : Statement) (kinds : List Kind) (w : Option Word) → IsNumbered known n
    → reading_of_word known bytes p w ≡ stated s kinds → IsSoundStated known s kinds
stated_sound known n bytes p s kinds None numbered e = absurd (unknown_unstated (first_cause (tests_of_unknown known bytes p)) s kinds e)
stated_sound known n bytes p s kinds (Some word) numbered e =
    word_sound known n bytes p s kinds word (first_cause (tests_of known bytes p (shape_in word p.args))) numbered refl e

line_parts : (known : Known) (bytes : List ℕ) (s : Statement) (kinds : List Kind) → line_reading known bytes ≡ stated s kinds
    → reading_of_parts known bytes (sentence_of (words_of bytes)) ≡ stated s kinds
unfolding line_reading
line_parts known bytes s kinds is =
    elim (ltb line_limit (length bytes)) as (λ t.
    cond t (refused LineLong) (cond (is_skipped_words (words_of bytes)) skipped (reading_of_parts known bytes (sentence_of (words_of bytes)))) ≡ stated s kinds
    → reading_of_parts known bytes (sentence_of (words_of bytes)) ≡ stated s kinds) [
      | true ↦ λ e. let wrong : ⊥ = cc in absurd wrong
      | false ↦ λ e. elim (is_skipped_words (words_of bytes)) as (λ t.
          cond t skipped (reading_of_parts known bytes (sentence_of (words_of bytes))) ≡ stated s kinds
          → reading_of_parts known bytes (sentence_of (words_of bytes)) ≡ stated s kinds) [
            | true ↦ λ f. let wrong : ⊥ = cc in absurd wrong
            | false ↦ λ f. f
          ] e
    ] is

line_sound : (known : Known) (n : ℕ) (bytes : List ℕ) (s : Statement) (kinds : List Kind) → IsNumbered known n → line_reading known bytes ≡ stated s kinds
    → IsSoundStated known s kinds
line_sound known n bytes s kinds numbered is =
    let p = sentence_of (words_of bytes) in
    stated_sound known n bytes p s kinds (word_in p.defines p.word) numbered (line_parts known bytes s kinds is)

-- scripts --------------------------------------------------------------------------------------------------------

sound_from : (known : Known) (m n : ℕ) (script : Script) → n ≤ m → IsSound known m script → IsSound known n script
sound_from known m n [] low h = tt
sound_from known m n (s ∷ later) low h = (omega (arith, h.0), h.1, h.2)

abbrev ok_script : Script → Result Script (ℕ × Cause)
ok_script x = Ok x

ok_same : (x y : Script) → ok_script x ≡ ok_script y → x ≡ y
ok_same x y e = cc

sound_onto : (known : Known) (n : ℕ) (s : Statement) (kinds : List Kind) (rest : Result Script (ℕ × Cause)) (script : Script) → IsSoundStated known s kinds
    → ((later : Script) → rest ≡ Ok later → IsSound (known_after known n s kinds) (n + 1) later) → onto_script n s rest ≡ Ok script → IsSound known n script
sound_onto known n s kinds (Err e) script sound later is = let wrong : ⊥ = cc in absurd wrong
sound_onto known n s kinds (Ok more) script sound later is =
    let same : record { number = n; statement = s } ∷ more ≡ script = ok_same (record { number = n; statement = s } ∷ more) script is in
    let Sound : Script → Type 0 = λ xs. IsSound known n xs in
    let After : List Kind → Type 0 = λ ks. IsSound (known_after known n s ks) (n + 1) more in
    let low : n ≤ n = omega arith in
    subst Sound same (low, sound.sound, subst After sound.result (later more refl))

by_reading : (known : Known) (n : ℕ) (more : List (List ℕ)) (script : Script) (r : LineReading) → IsNumbered known n
    → ((s : Statement) (kinds : List Kind) → r ≡ stated s kinds → IsSoundStated known s kinds)
    → ((k : Known) (m : ℕ) (later : Script) → IsNumbered k m → reading_from k m more ≡ Ok later → IsSound k m later)
    → elim r as (λ _. Result Script (ℕ × Cause)) [
      | skipped ↦ reading_from known (n + 1) more
      | refused cause ↦ Err (n, cause)
      | stated statement kinds ↦ onto_script n statement (reading_from (known_after known n statement kinds) (n + 1) more)
    ] ≡ Ok script
    → IsSound known n script
by_reading known n more script skipped h sound later is =
    let low : n ≤ n + 1 = omega arith in
    sound_from known (n + 1) n script low (later known (n + 1) script (record { again = h.again; new = λ m high. h.new m (omega arith) }) is)
by_reading known n more script (refused cause) h sound later is = let wrong : ⊥ = cc in absurd wrong
by_reading known n more script (stated s kinds) h sound later is =
    let low : n ≤ n = omega arith in
    sound_onto known n s kinds (reading_from (known_after known n s kinds) (n + 1) more) script (sound s kinds refl)
    (λ rest e. later (known_after known n s kinds) (n + 1) rest (numbered_line known n n s kinds h low) e) is

script_sound : (known : Known) (n : ℕ) (lines : List (List ℕ)) (script : Script) → IsNumbered known n → reading_from known n lines ≡ Ok script → IsSound known n script
unfolding reading_from
script_sound known n [] script h is =
    let none : [] ≡ script = cc in
    let Sound : Script → Type 0 = λ xs. IsSound known n xs in
    subst Sound none tt
script_sound known n (bytes ∷ more) script h is =
    by_reading known n more script (line_reading known bytes) h (λ s kinds e. line_sound known n bytes s kinds h e)
    (λ k m later i e. script_sound k m more later i e) is

pub lines_sound : (bytes : List ℕ) (script : Script) → reading_from nothing_known 1 (lines_of bytes) ≡ Ok script → IsSound nothing_known 1 script
lines_sound bytes script is = script_sound nothing_known 1 (lines_of bytes) script numbered_nothing is
