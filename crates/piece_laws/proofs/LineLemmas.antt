-- Lines, joined again.
use Rattle.std.proofs.Common.{◌⊎◌, inl, inr, ◌≡◌, ◌≢◌, ℕ, true, false, cond, eqb, List, [], ◌∷◌, ◌++◌, length, refl, sym, ap, ◌∙◌, subst, arith, append_assoc, append-nil, length-append}
use Rattle.std.specs.List.{AllByRecursion, join_with_byte}
use Rattle.std.proofs.lemmas.Bool.{eqb-true, eq-eqb, ne_eqb, true≢false}
use Rattle.row_defs.specs.Pieces.{pieces_from, last_piece, line_feed}
use Rattle.piece_laws.specs.Lines.{final_line_feed, HasNoLineFeed, AreLines}

none_push : (run : List ℕ) (b : ℕ) → HasNoLineFeed run → b ≢ line_feed → HasNoLineFeed (run ++ b ∷ [])
none_push [] b h is = (is, tt)
none_push (c ∷ run) b h is = (h.0, none_push run b h.1 is)

-- the lines where `run` came since the last LF
abbrev lines_past : List ℕ → List ℕ → List (List ℕ)
lines_past run bytes = pieces_from line_feed run bytes

past_end : (run : List ℕ) → lines_past run [] ≡ last_piece run
unfolding pieces_from
past_end run = refl

past_step : (run : List ℕ) (b : ℕ) (bytes : List ℕ)
    → lines_past run (b ∷ bytes) ≡ cond (eqb b line_feed) (run ∷ lines_past [] bytes) (lines_past (run ++ b ∷ []) bytes)
unfolding pieces_from
past_step run b bytes = refl

whole_past : (run bytes : List ℕ) → HasNoLineFeed run → AllByRecursion HasNoLineFeed (lines_past run bytes)
whole_past run [] none =
    let Whole : List (List ℕ) → Type 0 = λ lines. AllByRecursion HasNoLineFeed lines in
    subst Whole (sym (past_end run)) (of_last run none)
  where
    of_last : (run : List ℕ) → HasNoLineFeed run → AllByRecursion HasNoLineFeed (last_piece run)
    of_last [] none = tt
    of_last (b ∷ run) none = (none, tt)
whole_past run (b ∷ bytes) none =
    let Whole : List (List ℕ) → Type 0 = λ lines. AllByRecursion HasNoLineFeed lines in
    subst Whole (sym (past_step run b bytes))
    (elim (eqb b line_feed) as (λ t. eqb b line_feed ≡ t → Whole (cond t (run ∷ lines_past [] bytes) (lines_past (run ++ b ∷ []) bytes))) [
      | true ↦ λ is. (none, whole_past [] bytes tt)
      | false ↦ λ is. whole_past (run ++ b ∷ []) bytes (none_push run b none (λ e. true≢false (sym (eq-eqb b line_feed e) ∙ is)))
    ] refl)

-- there is no line only where there is no byte
none_past : (run bytes : List ℕ) → lines_past run bytes ≡ [] → (run ≡ []) × (bytes ≡ [])
none_past [] [] e = (refl, refl)
none_past (c ∷ run) [] e = let wrong : (c ∷ run) ∷ [] ≡ [] = sym (past_end (c ∷ run)) ∙ e in absurd cc
none_past run (b ∷ bytes) e =
    elim (eqb b line_feed) as (λ t. cond t (run ∷ lines_past [] bytes) (lines_past (run ++ b ∷ []) bytes) ≡ [] → (run ≡ []) × (b ∷ bytes ≡ [])) [
      | true ↦ λ none. absurd cc
      | false ↦ λ none.
          let longer = length-append run (b ∷ []) in
          let short = ap length (none_past (run ++ b ∷ []) bytes none).0 in
          absurd (omega arith)
    ] (sym (past_step run b bytes) ∙ e)

join_more : (line : List ℕ) (lines : List (List ℕ)) → (lines ≡ [] → ⊥)
    → join_with_byte line_feed (line ∷ lines) ≡ line ++ (line_feed ∷ join_with_byte line_feed lines)
join_more line [] some = absurd (some refl)
join_more line (next ∷ lines) some = refl

join_past : (run bytes : List ℕ) → join_with_byte line_feed (lines_past run bytes) ++ final_line_feed bytes ≡ run ++ bytes
join_past [] [] = ap (λ lines. join_with_byte line_feed lines ++ []) (past_end [])
join_past (c ∷ run) [] = ap (λ lines. join_with_byte line_feed lines ++ []) (past_end (c ∷ run))
join_past run (b ∷ []) =
    ap (λ lines. join_with_byte line_feed lines ++ final_line_feed (b ∷ [])) (past_step run b [])
    ∙ elim (eqb b line_feed) as (λ t. eqb b line_feed ≡ t
    → join_with_byte line_feed (cond t (run ∷ lines_past [] []) (lines_past (run ++ b ∷ []) [])) ++ cond t (line_feed ∷ []) [] ≡ run ++ b ∷ []) [
      | true ↦ λ is.
          ap (λ lines. join_with_byte line_feed (run ∷ lines) ++ line_feed ∷ []) (past_end [])
          ∙ ap (λ (c : ℕ). run ++ c ∷ []) (sym (eqb-true b line_feed is))
      | false ↦ λ is. join_past (run ++ b ∷ []) [] ∙ append-nil (run ++ b ∷ [])
    ] refl
join_past run (b ∷ c ∷ bytes) =
    let more = c ∷ bytes in
    let last = final_line_feed more in
    ap (λ lines. join_with_byte line_feed lines ++ last) (past_step run b more)
    ∙ elim (eqb b line_feed) as (λ t. eqb b line_feed ≡ t
    → join_with_byte line_feed (cond t (run ∷ lines_past [] more) (lines_past (run ++ b ∷ []) more)) ++ last ≡ run ++ b ∷ more) [
      | true ↦ λ is.
          let some : lines_past [] more ≡ [] → ⊥ = λ none. let wrong = (none_past [] more none).1 in cc in
          ap (λ (xs : List ℕ). xs ++ last) (join_more run (lines_past [] more) some)
          ∙ append_assoc run (line_feed ∷ join_with_byte line_feed (lines_past [] more)) last
          ∙ ap (λ (xs : List ℕ). run ++ line_feed ∷ xs) (join_past [] (c ∷ bytes))
          ∙ ap (λ (d : ℕ). run ++ d ∷ more) (sym (eqb-true b line_feed is))
      | false ↦ λ is. join_past (run ++ b ∷ []) (c ∷ bytes) ∙ append_assoc run (b ∷ []) more
    ] refl

pub lines_of_bytes : (bytes : List ℕ) → AreLines bytes (lines_past [] bytes)
lines_of_bytes bytes = record {
  joined = join_past [] bytes;
  whole = whole_past [] bytes tt;
  none = (λ e. (none_past [] bytes e).1, λ e. ap (lines_past []) e ∙ past_end []);
}

-- no other lists are the lines -------------------------------------------------------------------------------------------

through : (run line rest : List ℕ) → HasNoLineFeed line → lines_past run (line ++ rest) ≡ lines_past (run ++ line) rest
through run [] rest none = ap (λ xs. lines_past xs rest) (sym (append-nil run))
through run (b ∷ line) rest none =
    past_step run b (line ++ rest)
    ∙ ap (λ t. cond t (run ∷ lines_past [] (line ++ rest)) (lines_past (run ++ b ∷ []) (line ++ rest))) (ne_eqb b line_feed none.0)
    ∙ through (run ++ b ∷ []) line rest none.1
    ∙ ap (λ xs. lines_past xs rest) (append_assoc run (b ∷ []) line)

-- the first line and those of the rest
first_line : (line rest : List ℕ) → HasNoLineFeed line → lines_past [] (line ++ (line_feed ∷ rest)) ≡ line ∷ lines_past [] rest
first_line line rest none = through [] line (line_feed ∷ rest) none ∙ past_step line line_feed rest

-- a line with no LF behind it
last_line : (line : List ℕ) → HasNoLineFeed line → (line ≡ [] → ⊥) → lines_past [] line ≡ line ∷ []
last_line line none some = ap (lines_past []) (sym (append-nil line)) ∙ through [] line [] none ∙ past_end line ∙ of_some line some
  where
    of_some : (xs : List ℕ) → (xs ≡ [] → ⊥) → last_piece xs ≡ xs ∷ []
    of_some [] is = absurd (is refl)
    of_some (b ∷ xs) is = refl

final_cases : (bytes : List ℕ) → (final_line_feed bytes ≡ []) ⊎ (final_line_feed bytes ≡ line_feed ∷ [])
final_cases [] = inl refl
final_cases (b ∷ []) = elim (eqb b line_feed) as (λ t. (cond t (line_feed ∷ []) [] ≡ []) ⊎ (cond t (line_feed ∷ []) [] ≡ line_feed ∷ [])) [
  | true ↦ inr refl
  | false ↦ inl refl
]
final_cases (b ∷ c ∷ bytes) = final_cases (c ∷ bytes)

final_at : (line : List ℕ) → final_line_feed (line ++ line_feed ∷ []) ≡ line_feed ∷ []
final_at [] = refl
final_at (b ∷ []) = refl
final_at (b ∷ c ∷ line) = final_at (c ∷ line)

final_later : (line : List ℕ) (b : ℕ) (rest : List ℕ) → final_line_feed (line ++ (line_feed ∷ b ∷ rest)) ≡ final_line_feed (b ∷ rest)
final_later [] b rest = refl
final_later (c ∷ []) b rest = refl
final_later (c ∷ d ∷ line) b rest = final_later (d ∷ line) b rest

-- the lines behind the first are those of the rest
are_later : (line next : List ℕ) (lines : List (List ℕ)) (bytes rest : List ℕ) → bytes ≡ line ++ (line_feed ∷ rest)
    → join_with_byte line_feed (next ∷ lines) ++ final_line_feed bytes ≡ rest → AllByRecursion HasNoLineFeed (next ∷ lines)
    → AreLines rest (next ∷ lines)
are_later line next lines bytes [] is joined whole =
    let last = ap final_line_feed is ∙ final_at line in
    let length_last = ap length last in
    let parts = sym (length-append (join_with_byte line_feed (next ∷ lines)) (final_line_feed bytes)) ∙ ap length joined in
    absurd (omega arith)
are_later line next lines bytes (b ∷ rest) is joined whole = record {
  joined = ap (λ (xs : List ℕ). join_with_byte line_feed (next ∷ lines) ++ xs) (sym (ap final_line_feed is ∙ final_later line b rest)) ∙ joined;
  whole = whole;
  none = (λ e. absurd cc, λ e. absurd cc);
}

only_lines : (lines : List (List ℕ)) (bytes : List ℕ) → AreLines bytes lines → lines ≡ lines_past [] bytes
only_lines [] bytes are = sym (ap (lines_past []) (are.none.0 refl) ∙ past_end [])
only_lines (line ∷ []) bytes are = elim (final_cases bytes) [
  | inl last ↦
      let same : bytes ≡ line = sym are.joined ∙ ap (λ (xs : List ℕ). line ++ xs) last ∙ append-nil line in
      let some : line ≡ [] → ⊥ = λ none. let wrong = are.none.1 (same ∙ none) in cc in
      sym (ap (lines_past []) same ∙ last_line line are.whole.0 some)
  | inr last ↦
      let same : bytes ≡ line ++ (line_feed ∷ []) = sym are.joined ∙ ap (λ (xs : List ℕ). line ++ xs) last in
      sym (ap (lines_past []) same ∙ first_line line [] are.whole.0 ∙ ap (λ lines. line ∷ lines) (past_end []))
]
only_lines (line ∷ next ∷ lines) bytes are =
    let rest = join_with_byte line_feed (next ∷ lines) ++ final_line_feed bytes in
    let same : bytes ≡ line ++ (line_feed ∷ rest) =
    sym are.joined ∙ append_assoc line (line_feed ∷ join_with_byte line_feed (next ∷ lines)) (final_line_feed bytes) in
    ap (λ more. line ∷ more) (only_lines (next ∷ lines) rest (are_later line next lines bytes rest same refl are.whole.1))
    ∙ sym (ap (lines_past []) same ∙ first_line line rest are.whole.0)

pub no_other_lines : (bytes : List ℕ) (lines : List (List ℕ)) → AreLines bytes lines → lines ≡ lines_past [] bytes
no_other_lines bytes lines are = only_lines lines bytes are
