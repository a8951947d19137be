-- How many words texts have.
use Rattle.std.proofs.Common.{◌≡◌, ℕ, zero, suc, ◌+◌, ◌*◌, ◌/◌, ◌%◌, ◌<◌, ◌≤◌, ◌==◌, Bool, true, false, if◌then◌else◌, List, [], ◌∷◌, ◌++◌, length, take, drop, refl, sym, ap, subst, ◌∙◌, arith, append_assoc, append-nil, length-append}
use Rattle.std.specs.List.{AllByRecursion}
use Rattle.std.proofs.lemmas.Bool.{lt-ltb, ne_eqb}
use Rattle.std.specs.Fmt.{decimal, digits, digits_onto, digit_glyph}
use Rattle.row_defs.specs.Texts.{is_blank, ended_word, words_after, words_in_text}
use Rattle.dia_expr.specs.Runs.{AreNoBlanks}
use Rattle.row_growth.specs.Growth.{most_words}

words_end : (run : List ℕ) → words_after run [] ≡ ended_word run
unfolding words_after
words_end run = refl

words_next : (run : List ℕ) (b : ℕ) (bytes : List ℕ) → words_after run (b ∷ bytes) ≡ (if is_blank b then ended_word run ++ words_after [] bytes else words_after (run ++ b ∷ []) bytes)
unfolding words_after
words_next run b bytes = refl

-- of a word that has begun, one is made
ended_one : (run : List ℕ) → length (ended_word run) ≤ 1
ended_one [] = omega arith
ended_one (b ∷ run) = omega arith

begun_one : (run : List ℕ) (b : ℕ) → length (ended_word (run ++ b ∷ [])) ≡ 1
begun_one [] b = refl
begun_one (x ∷ run) b = refl

pub no_words : length (words_in_text []) ≡ 0
no_words = ap (λ (ws : List (List ℕ)). length ws) (words_end [])

-- at most -------------------------------------------------------------------------------------------------------------

ended_few : (run : List ℕ) → 2 * length (ended_word run) ≤ length run + 1
ended_few [] = omega arith
ended_few (b ∷ run) = omega arith

-- a word has a byte, and a blank stands before the next
after_few : (run bytes : List ℕ) → 2 * length (words_after run bytes) ≤ length run + length bytes + 1
after_few run [] = rw (words_end run) (omega (arith, ended_few run))
after_few run (b ∷ bytes) =
    let n = length run + length (b ∷ bytes) + 1 in
    rw (words_next run b bytes) (
    elim (is_blank b) as (λ t. 2 * length (if t then ended_word run ++ words_after [] bytes else words_after (run ++ b ∷ []) bytes) ≤ n) [
      | true ↦ omega (arith, length-append (ended_word run) (words_after [] bytes), ended_few run, after_few [] bytes)
      | false ↦ omega (arith, length-append run (b ∷ []), after_few (run ++ b ∷ []) bytes)
    ]
    )

pub words_few : (bytes : List ℕ) → length (words_in_text bytes) ≤ most_words (length bytes)
words_few bytes = omega (arith, after_few [] bytes)

-- parts ---------------------------------------------------------------------------------------------------------------

-- where a word has begun, there are no fewer
begun_more : (run more bytes : List ℕ) → length (ended_word run) ≤ length (ended_word more) → length (words_after run bytes) ≤ length (words_after more bytes)
begun_more run more [] h = rw (words_end run, words_end more) h
begun_more run more (b ∷ bytes) h =
    let later = words_after [] bytes in
    rw (words_next run b bytes, words_next more b bytes) (
    elim (is_blank b) as (λ t. length (if t then ended_word run ++ later else words_after (run ++ b ∷ []) bytes) ≤ length (if t then ended_word more ++ later else words_after (more ++ b ∷ []) bytes)) [
      | true ↦ omega (arith, h, length-append (ended_word run) later, length-append (ended_word more) later)
      | false ↦ begun_more (run ++ b ∷ []) (more ++ b ∷ []) bytes (omega (arith, begun_one run b, begun_one more b))
    ]
    )

ends_fewer : (run bytes : List ℕ) → length (ended_word run) ≤ length (words_after run bytes)
ends_fewer run [] = rw (words_end run) (omega arith)
ends_fewer run (b ∷ bytes) =
    let later = words_after [] bytes in
    rw (words_next run b bytes) (
    elim (is_blank b) as (λ t. length (ended_word run) ≤ length (if t then ended_word run ++ later else words_after (run ++ b ∷ []) bytes)) [
      | true ↦ omega (arith, length-append (ended_word run) later)
      | false ↦ omega (arith, ended_one run, begun_one run b, ends_fewer (run ++ b ∷ []) bytes)
    ]
    )

take_fewer : (n : ℕ) (run bytes : List ℕ) → length (words_after run (take n bytes)) ≤ length (words_after run bytes)
take_fewer zero run bytes = rw (words_end run) (ends_fewer run bytes)
take_fewer (suc n) run [] = omega arith
take_fewer (suc n) run (b ∷ bytes) =
    let less = words_after [] (take n bytes) in
    let later = words_after [] bytes in
    rw (words_next run b (take n bytes), words_next run b bytes) (
    elim (is_blank b) as (λ t. length (if t then ended_word run ++ less else words_after (run ++ b ∷ []) (take n bytes)) ≤ length (if t then ended_word run ++ later else words_after (run ++ b ∷ []) bytes)) [
      | true ↦ omega (arith, length-append (ended_word run) less, length-append (ended_word run) later, take_fewer n [] bytes)
      | false ↦ take_fewer n (run ++ b ∷ []) bytes
    ]
    )

pub first_fewer : (n : ℕ) (bytes : List ℕ) → length (words_in_text (take n bytes)) ≤ length (words_in_text bytes)
first_fewer n bytes = take_fewer n [] bytes

next_fewer : (b : ℕ) (bytes : List ℕ) → length (words_in_text bytes) ≤ length (words_in_text (b ∷ bytes))
next_fewer b bytes =
    let later = words_after [] bytes in
    rw (words_next [] b bytes) (
    elim (is_blank b) as (λ t. length later ≤ length (if t then later else words_after (b ∷ []) bytes)) [
      | true ↦ omega arith
      | false ↦ begun_more [] (b ∷ []) bytes (omega arith)
    ]
    )

pub last_fewer : (n : ℕ) (bytes : List ℕ) → length (words_in_text (drop n bytes)) ≤ length (words_in_text bytes)
last_fewer zero bytes = omega arith
last_fewer (suc n) [] = omega arith
last_fewer (suc n) (b ∷ bytes) = omega (arith, last_fewer n bytes, next_fewer b bytes)

-- no blanks -----------------------------------------------------------------------------------------------------------

run_whole : (run bytes : List ℕ) → AreNoBlanks bytes → words_after run bytes ≡ ended_word (run ++ bytes)
run_whole run [] h = words_end run ∙ ap ended_word (sym (append-nil run))
run_whole run (b ∷ bytes) h = rw (words_next run b bytes, h.0) (run_whole (run ++ b ∷ []) bytes h.1 ∙ ap ended_word (append_assoc run (b ∷ []) bytes))

pub one_word : (bytes : List ℕ) → AreNoBlanks bytes → length (words_in_text bytes) ≤ 1
one_word bytes h = rw (run_whole [] bytes h) (ended_one bytes)

no_blanks_both : (xs ys : List ℕ) → AreNoBlanks xs → AreNoBlanks ys → AreNoBlanks (xs ++ ys)
no_blanks_both [] ys p q = q
no_blanks_both (x ∷ xs) ys p q = (p.0, no_blanks_both xs ys p.1 q)

all_both : {A : Type 0} (P : A → Type 0) (xs ys : List A) → AllByRecursion P xs → AllByRecursion P ys → AllByRecursion P (xs ++ ys)
all_both P [] ys p q = q
all_both P (x ∷ xs) ys p q = (p.0, all_both P xs ys p.1 q)

ended_whole : (run : List ℕ) → AreNoBlanks run → AllByRecursion AreNoBlanks (ended_word run)
ended_whole [] h = tt
ended_whole (b ∷ run) h = (h, tt)

after_whole : (run bytes : List ℕ) → AreNoBlanks run → AllByRecursion AreNoBlanks (words_after run bytes)
after_whole run [] h = let All : List (List ℕ) → Type 0 = λ ws. AllByRecursion AreNoBlanks ws in subst All (sym (words_end run)) (ended_whole run h)
after_whole run (b ∷ bytes) h =
    let All : List (List ℕ) → Type 0 = λ ws. AllByRecursion AreNoBlanks ws in
    subst All (sym (words_next run b bytes)) ((elim (is_blank b) as (λ t. is_blank b ≡ t → All (if t then ended_word run ++ words_after [] bytes else words_after (run ++ b ∷ []) bytes)) [
      | true ↦ λ e. all_both AreNoBlanks (ended_word run) (words_after [] bytes) (ended_whole run h) (after_whole [] bytes tt)
      | false ↦ λ e. after_whole (run ++ b ∷ []) bytes (no_blanks_both run (b ∷ []) h (e, tt))
    ]) refl)

-- words have none
pub words_whole : (bytes : List ℕ) → AllByRecursion AreNoBlanks (words_in_text bytes)
words_whole bytes = after_whole [] bytes tt

digit_whole : (n : ℕ) → is_blank (digit_glyph false (n % 10)) ≡ false
digit_whole n =
    let d = n % 10 in
    rw (lt-ltb d 10 (omega arith), ne_eqb (48 + d) 32 (λ e. omega (arith, e)), ne_eqb (48 + d) 9 (λ e. omega (arith, e)), ne_eqb (48 + d) 13 (λ e. omega (arith, e))) refl

onto_whole : (k n : ℕ) (after : List ℕ) → AreNoBlanks after → AreNoBlanks (digits_onto k 10 false n after)
onto_whole zero n after h = h
onto_whole (suc k) n after h =
    let more = digit_glyph false (n % 10) ∷ after in
    elim (n / 10 == 0) as (λ t. AreNoBlanks (if t then more else digits_onto k 10 false (n / 10) more)) [
      | true ↦ (digit_whole n, h)
      | false ↦ onto_whole k (n / 10) more (digit_whole n, h)
    ]

-- nor have digits
pub decimal_whole : (n : ℕ) → AreNoBlanks (decimal n)
unfolding digits
decimal_whole n = onto_whole 64 n [] tt
