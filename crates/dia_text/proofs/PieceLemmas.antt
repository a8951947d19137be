-- The first piece of bytes, by the place of the first separator.
use Rattle.std.proofs.Common.{true, false, eqb, cond, length-append, IfSome, sym, filter, Option, None, Some, MatchOption, ◌≡◌, ◌≢◌, ℕ, suc, ◌+◌, ◌<◌, List, [], ◌∷◌, ◌++◌, length, take, drop, get_or, eq-eqb, refl, ap, ◌∙◌, arith, append_assoc, append-nil}
use Rattle.std.proofs.lemmas.List.{get_or-take, take_more, length-take-le, take-append-drop}
use Rattle.std.proofs.lemmas.Bool.{ne_eqb, eqb-true}
use Rattle.memchr.specs.Find.{IsFirstByte, is_byte}
use Rattle.dia_text.specs.Unbroken.{IsUnbroken}
use Rattle.row_defs.specs.Pieces.{pieces_from, last_piece, is_some_bytes, space}

-- bytes without a separator go on with the piece
pub pieces-through : (a : ℕ) (run prefix rest : List ℕ) → ((k : ℕ) → k < length prefix → get_or prefix k 0 ≢ a)
    → pieces_from a run (prefix ++ rest) ≡ pieces_from a (run ++ prefix) rest
unfolding pieces_from
pieces-through a run [] rest none = rw append-nil refl
pieces-through a run (b ∷ prefix) rest none =
    rw (ne_eqb b a (none 0 (omega arith)))
    (pieces-through a (run ++ b ∷ []) prefix rest (λ k h. none (suc k) (omega arith))
    ∙ ap (λ (more : List ℕ). pieces_from a more rest) (append_assoc run (b ∷ []) prefix))

-- a separator ends the piece
pub pieces-at : (a : ℕ) (run rest : List ℕ) → pieces_from a run (a ∷ rest) ≡ run ∷ pieces_from a [] rest
unfolding pieces_from
pieces-at a run rest = rw (eq-eqb a a refl) refl

pub pieces-empty : (a : ℕ) → pieces_from a [] [] ≡ []
unfolding pieces_from
pieces-empty a = refl

pub last_piece-some : (bytes : List ℕ) → 0 < length bytes → last_piece bytes ≡ bytes ∷ []
last_piece-some [] some = absurd (omega arith)
last_piece-some (b ∷ bytes) some = refl

-- without a separator the bytes are one piece
pub pieces-one : (a : ℕ) (bytes : List ℕ) → 0 < length bytes → IsUnbroken a bytes → pieces_from a [] bytes ≡ bytes ∷ pieces_from a [] []
unfolding pieces_from
pieces-one a bytes some through =
    ap (pieces_from a []) (sym (append-nil bytes)) ∙ through [] [] ∙ last_piece-some bytes some

-- the first piece and those of the rest
pub pieces-first : (a i : ℕ) (bytes : List ℕ) → IsUnbroken a (take i bytes) → take (i + 1) bytes ≡ take i bytes ++ a ∷ []
    → pieces_from a [] bytes ≡ take i bytes ∷ pieces_from a [] (drop (i + 1) bytes)
pieces-first a i bytes through ends =
    let rest = drop (i + 1) bytes in
    let parts : bytes ≡ take i bytes ++ (a ∷ rest) =
    sym (take-append-drop (i + 1) bytes) ∙ ap (λ (xs : List ℕ). xs ++ rest) ends ∙ append_assoc (take i bytes) (a ∷ []) rest in
    ap (pieces_from a []) parts ∙ through [] (a ∷ rest) ∙ pieces-at a (take i bytes) rest

-- what a search for the separator says of the pieces
pub unbroken-by_search : (a : ℕ) (bytes : List ℕ) (place : Option ℕ) → IsFirstByte (is_byte a) bytes place
    → MatchOption place (IsUnbroken a bytes) (λ i. IsUnbroken a (take i bytes))
unbroken-by_search a bytes None is = λ run rest. pieces-through a run bytes rest (λ k low e. is k (omega arith) low (eq-eqb _ _ e))
unbroken-by_search a bytes (Some i) is = λ run rest.
    let high = is.0.high in
    let short : length (take i bytes) ≡ i = length-take-le i bytes (omega arith) in
    pieces-through a run (take i bytes) rest
    (λ k low e. is.0.before k (omega arith) (omega (arith, short, low)) (eq-eqb _ _ (sym (get_or-take i bytes k 0 (omega (arith, short, low))) ∙ e)))

pub ends-by_search : (a : ℕ) (bytes : List ℕ) (place : Option ℕ) → IsFirstByte (is_byte a) bytes place
    → IfSome place (λ i. take (i + 1) bytes ≡ take i bytes ++ a ∷ [])
ends-by_search a bytes None is = tt
ends-by_search a bytes (Some i) is =
    let high = is.0.high in
    take_more bytes i 0 high ∙ ap (λ (b : ℕ). take i bytes ++ b ∷ []) (eqb-true _ _ is.1)

-- a piece that has begun is the first
pub pieces-begin : (a : ℕ) (run bytes : List ℕ) → 0 < length run
    → (rest : List ℕ) × (later : List (List ℕ)) × (pieces_from a run bytes ≡ (run ++ rest) ∷ later)
unfolding pieces_from
pieces-begin a run [] some = ([], [], last_piece-some run some ∙ ap (λ (xs : List ℕ). xs ∷ []) (sym (append-nil run)))
pieces-begin a run (b ∷ bytes) some =
    elim (eqb b a) as (λ t. (rest : List ℕ) × (later : List (List ℕ))
    × (cond t (run ∷ pieces_from a [] bytes) (pieces_from a (run ++ b ∷ []) bytes) ≡ (run ++ rest) ∷ later)) [
      | true ↦ ([], pieces_from a [] bytes, ap (λ (xs : List ℕ). xs ∷ pieces_from a [] bytes) (sym (append-nil run)))
      | false ↦
          let longer = length-append run (b ∷ []) in
          let begun = pieces-begin a (run ++ b ∷ []) bytes (omega arith) in
          (b ∷ begun.0, begun.1, begun.2 ∙ ap (λ (xs : List ℕ). xs ∷ begun.1) (append_assoc run (b ∷ []) begun.0))
    ]

-- at the end of the bytes all words are there
pub words-done : (words all : List (List ℕ)) (rest : List ℕ) → length rest ≡ 0
    → words ++ filter is_some_bytes (pieces_from space [] rest) ≡ all → words ≡ all
unfolding pieces_from
words-done words all [] end is = rw append-nil at is
words-done words all (b ∷ rest) end is = absurd (omega arith)
