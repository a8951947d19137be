-- What a line reads as that is neither too long nor skipped.
use Rattle.std.proofs.Common.{◌≡◌, ℕ, ◌+◌, ◌≤◌, List, [], ◌∷◌, ◌++◌, length, false, refl, ap, sym, ◌∙◌, arith, append_assoc, append-nil, Result, Ok, Err}
use Rattle.std.proofs.lemmas.Bool.{le-ltb}
use Rattle.row_defs.specs.Pieces.{pieces_from, line_feed, words_of}
use Rattle.row_defs.specs.declared.cause.Cause.{Cause}
use Rattle.row_defs.specs.declared.kind.Kind.{Kind}
use Rattle.script_defs.specs.Scripts.{Statement, Script}
use Rattle.script_defs.specs.Reading.{Known, is_skipped_words, sentence_of, reading_of_parts, line_reading, stated, known_after, onto_script, reading_from}
use Rattle.script_read.specs.Answering.{after_all}

pub line_reading-parts : (known : Known) (bytes : List ℕ) → length bytes ≤ 512 → is_skipped_words (words_of bytes) ≡ false
    → line_reading known bytes ≡ reading_of_parts known bytes (sentence_of (words_of bytes))
unfolding line_reading
line_reading-parts known bytes short unskipped = rw (le-ltb 512 (length bytes) short, unskipped) refl

after_all-onto : (script : Script) (n : ℕ) (s : Statement) (rest : Result Script (ℕ × Cause))
    → after_all script (onto_script n s rest) ≡ after_all (script ++ record { number = n; statement = s } ∷ []) rest
after_all-onto script n s (Ok more) = ap Ok (sym (append_assoc script (record { number = n; statement = s } ∷ []) more))
after_all-onto script n s (Err e) = refl

-- a statement that is read goes behind those that were
pub reading-stated : (known later : Known) (n : ℕ) (bytes : List ℕ) (more : List (List ℕ)) (script longer : Script)
    (s : Statement) (kinds : List Kind) → line_reading known bytes ≡ stated s kinds → later ≡ known_after known n s kinds
    → longer ≡ script ++ record { number = n; statement = s } ∷ []
    → after_all script (reading_from known n (bytes ∷ more)) ≡ after_all longer (reading_from later (n + 1) more)
unfolding reading_from
reading-stated known later n bytes more script longer s kinds is after onto =
    rw (is, after, onto, reading_from) (after_all-onto script n s (reading_from (known_after known n s kinds) (n + 1) more))

-- at the end of the bytes the script is what was read
pub reading-done : (script : Script) (known : Known) (n : ℕ) (rest : List ℕ) (reading : Result Script (ℕ × Cause)) → length rest ≡ 0
    → after_all script (reading_from known n (pieces_from line_feed [] rest)) ≡ reading → reading ≡ Ok script
unfolding reading_from pieces_from
reading-done script known n [] reading end is = sym is ∙ ap Ok (append-nil script)
reading-done script known n (b ∷ rest) reading end is = absurd (omega arith)
