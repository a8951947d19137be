-- The words of a text, from the beginning.
use Rattle.std.proofs.Common.{◌≡◌, ℕ, zero, suc, ◌<◌, ◌≤◌, true, false, List, [], ◌∷◌, ◌++◌, length, take, drop, refl, sym, ap, ◌∙◌, append_assoc, append-nil, arith}
use Rattle.std.proofs.lemmas.List.{take-append-drop, length-take-le}
use Rattle.row_defs.specs.Texts.{is_blank, words_after, words_in_text}
use Rattle.dia_expr.specs.Runs.{AreNoBlanks, EndsWord}

pub words_nil : words_in_text [] ≡ []
unfolding words_after
words_nil = refl

pub words_blank : (b : ℕ) (bytes : List ℕ) → is_blank b ≡ true → words_in_text (b ∷ bytes) ≡ words_in_text bytes
unfolding words_after
words_blank b bytes h = rw h refl

run_on : (run bytes after : List ℕ) → AreNoBlanks bytes → words_after run (bytes ++ after) ≡ words_after (run ++ bytes) after
unfolding words_after
run_on run [] after h = ap (λ (xs : List ℕ). words_after xs after) (sym (append-nil run))
run_on run (b ∷ bytes) after h = rw h.0 (run_on (run ++ b ∷ []) bytes after h.1 ∙ ap (λ (xs : List ℕ). words_after xs after) (append_assoc run (b ∷ []) bytes))

run_ends : (b : ℕ) (run after : List ℕ) → EndsWord after → words_after (b ∷ run) after ≡ (b ∷ run) ∷ words_in_text after
unfolding words_after
run_ends b run [] h = refl
run_ends b run (x ∷ after) h = rw h refl

words_word : (word after : List ℕ) → 0 < length word → AreNoBlanks word → EndsWord after → words_in_text (word ++ after) ≡ word ∷ words_in_text after
words_word [] after some h e = absurd (omega arith)
words_word (b ∷ word) after some h e = run_on [] (b ∷ word) after h ∙ run_ends b word after e

-- the first word of a text
pub words_split : (text : List ℕ) (n : ℕ) → 0 < n → n ≤ length text → AreNoBlanks (take n text) → EndsWord (drop n text) → words_in_text text ≡ take n text ∷ words_in_text (drop n text)
words_split text n some le h e =
    ap (λ (xs : List ℕ). words_in_text xs) (sym (take-append-drop n text)) ∙ words_word (take n text) (drop n text) (omega (arith, length-take-le n text le)) h e

-- one byte more
pub AreNoBlanks-more : (n : ℕ) (text : List ℕ) (b : ℕ) (tail : List ℕ) → drop n text ≡ b ∷ tail → AreNoBlanks (take n text) → is_blank b ≡ false → AreNoBlanks (take (suc n) text)
AreNoBlanks-more zero [] b tail e h k = absurd cc
AreNoBlanks-more zero (x ∷ text) b tail e h k = let s : x ≡ b = cc in (rw s k, tt)
AreNoBlanks-more (suc n) [] b tail e h k = absurd cc
AreNoBlanks-more (suc n) (x ∷ text) b tail e h k = (h.0, AreNoBlanks-more n text b tail e h.1 k)

pub drop-more : (n : ℕ) (text : List ℕ) (b : ℕ) (tail : List ℕ) → drop n text ≡ b ∷ tail → drop (suc n) text ≡ tail
drop-more zero [] b tail e = absurd cc
drop-more zero (x ∷ text) b tail e = cc
drop-more (suc n) [] b tail e = absurd cc
drop-more (suc n) (x ∷ text) b tail e = drop-more n text b tail e

pub words_none : (text : List ℕ) → length text ≡ 0 → words_in_text text ≡ []
words_none [] e = words_nil
words_none (b ∷ text) e = absurd (omega arith)

pub run_some : (text : List ℕ) (n : ℕ) → 0 < length text → AreNoBlanks (take 1 text) → EndsWord (drop n text) → 0 < n
run_some [] n some h e = absurd (omega arith)
run_some (b ∷ text) zero some h e = absurd (cc (h.0, e))
run_some (b ∷ text) (suc n) some h e = omega arith
