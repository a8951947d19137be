-- Words with gaps around them.
use Rattle.std.proofs.Common.{◌<◌, ◌≤◌, ◌≡◌, ℕ, Bool, true, false, cond, eqb, List, [], ◌∷◌, ◌++◌, length, filter, refl, sym, ap, ◌∙◌, subst, arith, append_assoc, append-nil}
use Rattle.std.specs.List.{AllByRecursion}
use Rattle.std.proofs.lemmas.Bool.{lt-ltb}
use Rattle.row_defs.specs.Pieces.{pieces_from, is_some_bytes, space}
use Rattle.row_defs.specs.Texts.{is_blank, ended_word, words_after}
use Rattle.piece_laws.specs.Words.{IsGap, IsWord, IsSpread, AreWords, is_space}

-- how words are cut, where `run` came since the last byte that parts them
record Cuts (parts : ℕ → Bool) (cut : List ℕ → List ℕ → List (List ℕ)) : Type 0 where
  pub end : (run : List ℕ) → cut run [] ≡ ended_word run
  pub step : (run : List ℕ) (b : ℕ) (bytes : List ℕ)
      → cut run (b ∷ bytes) ≡ cond (parts b) (ended_word run ++ cut [] bytes) (cut (run ++ b ∷ []) bytes)

abbrev HasNone : (ℕ → Bool) → List ℕ → Type 0
HasNone parts bytes = AllByRecursion (λ b. parts b ≡ false) bytes

none_push : (parts : ℕ → Bool) (run : List ℕ) (b : ℕ) → HasNone parts run → parts b ≡ false → HasNone parts (run ++ b ∷ [])
none_push parts [] b h is = (is, tt)
none_push parts (c ∷ run) b h is = (h.0, none_push parts run b h.1 is)

-- one more byte in the first gap
wider : (parts : ℕ → Bool) (b : ℕ) (bytes : List ℕ) (words : List (List ℕ)) → parts b ≡ true → IsSpread parts 0 bytes words → IsSpread parts 1 (b ∷ bytes) words
wider parts b bytes [] is h = (is, h)
wider parts b bytes (word ∷ words) is h =
    (b ∷ h.0, h.1, (is, h.2), omega arith, ap (λ (xs : List ℕ). b ∷ xs) h.4, h.5)

looser : (parts : ℕ → Bool) (bytes : List ℕ) (words : List (List ℕ)) → IsSpread parts 1 bytes words → IsSpread parts 0 bytes words
looser parts bytes [] h = h
looser parts bytes (word ∷ words) h = (h.0, h.1, h.2, omega arith, h.4, h.5)

-- a word that has begun ends here
ends : (parts : ℕ → Bool) (run rest : List ℕ) (words : List (List ℕ)) → HasNone parts run → IsSpread parts 1 rest words → AllByRecursion (IsWord parts) words
    → AreWords parts (run ++ rest) (ended_word run ++ words)
ends parts [] rest words none spread each = record { each = each; spread = looser parts rest words spread }
ends parts (b ∷ run) rest words none spread each = record {
  each = ((omega arith, none), each);
  spread = ([], rest, tt, omega arith, refl, spread);
}

words_cut : (parts : ℕ → Bool) (cut : List ℕ → List ℕ → List (List ℕ)) (cuts : Cuts parts cut) (run bytes : List ℕ) → HasNone parts run
    → AreWords parts (run ++ bytes) (cut run bytes)
words_cut parts cut cuts run [] none =
    let Are : List (List ℕ) → Type 0 = λ words. AreWords parts (run ++ []) words in
    subst Are (append-nil (ended_word run) ∙ sym (cuts.end run)) (ends parts run [] [] none tt tt)
words_cut parts cut cuts run (b ∷ bytes) none =
    let Are : List (List ℕ) → Type 0 = λ words. AreWords parts (run ++ b ∷ bytes) words in
    subst Are (sym (cuts.step run b bytes))
    (elim (parts b) as (λ t. parts b ≡ t → Are (cond t (ended_word run ++ cut [] bytes) (cut (run ++ b ∷ []) bytes))) [
      | true ↦ λ is.
          let later = words_cut parts cut cuts [] bytes tt in
          ends parts run (b ∷ bytes) (cut [] bytes) none (wider parts b bytes (cut [] bytes) is later.spread) later.each
      | false ↦ λ is.
          let On : List ℕ → Type 0 = λ xs. AreWords parts xs (cut (run ++ b ∷ []) bytes) in
          subst On (append_assoc run (b ∷ []) bytes) (words_cut parts cut cuts (run ++ b ∷ []) bytes (none_push parts run b none is))
    ] refl)

-- words with gaps around them are the words cut --------------------------------------------------------------------------

skip : (parts : ℕ → Bool) (cut : List ℕ → List ℕ → List (List ℕ)) (cuts : Cuts parts cut) (gap rest : List ℕ) → IsGap parts gap
    → cut [] (gap ++ rest) ≡ cut [] rest
skip parts cut cuts [] rest is = refl
skip parts cut cuts (b ∷ gap) rest is =
    cuts.step [] b (gap ++ rest) ∙ ap (λ t. cond t (cut [] (gap ++ rest)) (cut (b ∷ []) (gap ++ rest))) is.0 ∙ skip parts cut cuts gap rest is.1

through : (parts : ℕ → Bool) (cut : List ℕ → List ℕ → List (List ℕ)) (cuts : Cuts parts cut) (run word rest : List ℕ) → HasNone parts word
    → cut run (word ++ rest) ≡ cut (run ++ word) rest
through parts cut cuts run [] rest none = ap (λ xs. cut xs rest) (sym (append-nil run))
through parts cut cuts run (b ∷ word) rest none =
    cuts.step run b (word ++ rest)
    ∙ ap (λ t. cond t (ended_word run ++ cut [] (word ++ rest)) (cut (run ++ b ∷ []) (word ++ rest))) none.0
    ∙ through parts cut cuts (run ++ b ∷ []) word rest none.1
    ∙ ap (λ xs. cut xs rest) (append_assoc run (b ∷ []) word)

-- behind a word comes a byte that parts words, if any
first_parts : (parts : ℕ → Bool) (b : ℕ) (bytes : List ℕ) (words : List (List ℕ)) → IsSpread parts 1 (b ∷ bytes) words → parts b ≡ true
first_parts parts b bytes [] h = h.0
first_parts parts b bytes (word ∷ words) h = of_gap h.0 h.2 h.3 h.4
  where
    of_gap : (gap : List ℕ) → IsGap parts gap → 1 ≤ length gap → b ∷ bytes ≡ gap ++ (word ++ h.1) → parts b ≡ true
    of_gap [] is some e = absurd (omega (arith, some))
    of_gap (c ∷ gap) is some e = let same : b ≡ c = cc in ap parts same ∙ is.0

ends_here : (parts : ℕ → Bool) (cut : List ℕ → List ℕ → List (List ℕ)) (cuts : Cuts parts cut) (run rest : List ℕ) (words : List (List ℕ))
    → IsSpread parts 1 rest words → cut run rest ≡ ended_word run ++ cut [] rest
ends_here parts cut cuts run [] words spread =
    cuts.end run ∙ sym (append-nil (ended_word run)) ∙ ap (λ later. ended_word run ++ later) (sym (cuts.end []))
ends_here parts cut cuts run (b ∷ bytes) words spread =
    let is = first_parts parts b bytes words spread in
    cuts.step run b bytes ∙ ap (λ t. cond t (ended_word run ++ cut [] bytes) (cut (run ++ b ∷ []) bytes)) is
    ∙ ap (λ later. ended_word run ++ later)
    (sym (cuts.step [] b bytes ∙ ap (λ t. cond t (cut [] bytes) (cut (b ∷ []) bytes)) is))

ended : (word : List ℕ) (words : List (List ℕ)) → 0 < length word → ended_word word ++ words ≡ word ∷ words
ended [] words some = absurd (omega (arith, some))
ended (b ∷ word) words some = refl

only_cut : (parts : ℕ → Bool) (cut : List ℕ → List ℕ → List (List ℕ)) (cuts : Cuts parts cut) (words : List (List ℕ)) (bytes : List ℕ)
    → AllByRecursion (IsWord parts) words → IsSpread parts 0 bytes words → words ≡ cut [] bytes
only_cut parts cut cuts [] bytes each spread =
    sym (ap (cut []) (sym (append-nil bytes)) ∙ skip parts cut cuts bytes [] spread ∙ cuts.end [])
only_cut parts cut cuts (word ∷ words) bytes each spread =
    let gap = spread.0 in
    let rest = spread.1 in
    let later = only_cut parts cut cuts words rest each.1 (looser parts rest words spread.5) in
    ap (λ more. word ∷ more) later
    ∙ sym (ap (cut []) spread.4 ∙ skip parts cut cuts gap (word ++ rest) spread.2 ∙ through parts cut cuts [] word rest each.0.1
    ∙ ends_here parts cut cuts word rest words spread.5 ∙ ended word (cut [] rest) each.0.0)

-- both kinds of words are cut so ---------------------------------------------------------------------------------------

text_cuts : Cuts is_blank words_after
unfolding words_after
text_cuts = record { end = λ run. refl; step = λ run b bytes. refl }

abbrev words_past : List ℕ → List ℕ → List (List ℕ)
words_past run bytes = filter is_some_bytes (pieces_from space run bytes)

is_some : (b : ℕ) (run : List ℕ) → is_some_bytes (b ∷ run) ≡ true
is_some b run = lt-ltb 0 (length (b ∷ run)) (omega arith)

past_end : (run : List ℕ) → words_past run [] ≡ ended_word run
unfolding pieces_from
past_end [] = refl
past_end (b ∷ run) = rw (is_some b run) refl

past_piece : (run : List ℕ) (pieces : List (List ℕ)) → filter is_some_bytes (run ∷ pieces) ≡ ended_word run ++ filter is_some_bytes pieces
past_piece [] pieces = refl
past_piece (b ∷ run) pieces = rw (is_some b run) refl

past_step : (run : List ℕ) (b : ℕ) (bytes : List ℕ)
    → words_past run (b ∷ bytes) ≡ cond (is_space b) (ended_word run ++ words_past [] bytes) (words_past (run ++ b ∷ []) bytes)
unfolding pieces_from
past_step run b bytes =
    elim (eqb b space) as (λ t. filter is_some_bytes (cond t (run ∷ pieces_from space [] bytes) (pieces_from space (run ++ b ∷ []) bytes))
    ≡ cond t (ended_word run ++ words_past [] bytes) (words_past (run ++ b ∷ []) bytes)) [
      | true ↦ past_piece run (pieces_from space [] bytes)
      | false ↦ refl
    ]

line_cuts : Cuts is_space words_past
line_cuts = record { end = past_end; step = past_step }

pub line_words : (line : List ℕ) → AreWords is_space line (words_past [] line)
line_words line = words_cut is_space words_past line_cuts [] line tt

pub text_words : (bytes : List ℕ) → AreWords is_blank bytes (words_after [] bytes)
text_words bytes = words_cut is_blank words_after text_cuts [] bytes tt

pub only_line_words : (line : List ℕ) (words : List (List ℕ)) → AreWords is_space line words → words ≡ words_past [] line
only_line_words line words are = only_cut is_space words_past line_cuts words line are.each are.spread

pub only_text_words : (bytes : List ℕ) (words : List (List ℕ)) → AreWords is_blank bytes words → words ≡ words_after [] bytes
only_text_words bytes words are = only_cut is_blank words_after text_cuts words bytes are.each are.spread
