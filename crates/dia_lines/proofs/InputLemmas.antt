-- What an input holds and how far it was read.
use Rattle.std.proofs.Common.{◌≡◌, ℕ, suc, ◌+◌, ◌-◌, ◌<◌, ◌≤◌, Bool, true, List, [], ◌∷◌, ◌++◌, length, take, cond, Option, None, Some, IfSome, refl, sym, ap, ◌∙◌, subst, arith, append_assoc, append-nil, length-append, add-zero, Result, Ok, Err, OnOk, IsSome}
use Rattle.std.proofs.lemmas.List.{take_all}
use Rattle.std.proofs.Math.Seq.{take-append-add, take-append_seam}
use Rattle.std.proofs.lemmas.Bool.{true≢false, and_parts, leb-true, le-leb, lt-ltb, le-ltb}
use Rattle.std.specs.List.{list_all, position_from}
use Rattle.row_defs.specs.Limits.{longest_text, longest_input}
use Rattle.row_defs.specs.Pieces.{pieces_from, lines_of}
use Rattle.row_defs.specs.Inputs.{is_long, line_too_long, input_too_long, failure_of_input, failure_of_long_line}
use Rattle.dia_edge.specs.Shelves.{Holdings, GivesPrefix, IsShut, IsOpened, and_asked}
use Rattle.dia_edge.specs.declared.shelf.Shelf as shelves
use Rattle.dia_edge.proofs.ShelfLemmas.{asked_none, gives_none, gives_then}
use Rattle.dia_lines.specs.declared.line_taker.LineTaker.{Ghosts}
use Rattle.dia_lines.specs.declared.cutter.Cutter.{Cutter}
use Rattle.dia_lines.specs.declared.cutter.TakeErr.{TakeErr}
use Rattle.dia_lines.specs.declared.cutter.TakeErr.TheVariants as takes
use Rattle.dia_lines.specs.declared.input.InputErr.{InputErr}
use Rattle.dia_lines.specs.declared.input.InputErr.TheVariants.{Missing, LineTooLong, InputTooLong, Refused, Read, NoMemory}
use Rattle.dia_lines.specs.Taking.{is_text, AreTaken, HasTaken, IsLong, IsTurnedAway, IsOfTaker, IsCut, TookAllOf}
use Rattle.dia_lines.specs.Inputs.{AskedSome, Asks, IsReading, IsInputReason, IsTakersOwn, TookInput, reason_of}
use Rattle.dia_lines.proofs.TakeLemmas.{list_all-push}

pub take-append-past : (n : ℕ) (xs ys : List ℕ) → length xs ≤ n → take n (xs ++ ys) ≡ xs ++ take (n - length xs) ys
take-append-past n xs ys low =
    let parts : n ≡ length xs + (n - length xs) = omega arith in
    ap (λ (m : ℕ). take m (xs ++ ys)) parts ∙ take-append-add xs ys (n - length xs)

no_long : (n : ℕ) (lines : List (List ℕ)) → list_all is_text lines ≡ true → position_from is_long n lines ≡ None
no_long n [] all = refl
no_long n (line ∷ lines) all =
    let parts = and_parts (is_text line) (list_all is_text lines) all in
    rw (le-ltb longest_text (length line) (leb-true (length line) longest_text parts.0)) (no_long (n + 1) lines parts.1)

first_long : (n : ℕ) (done : List (List ℕ)) (long : List ℕ) (later : List (List ℕ)) → list_all is_text done ≡ true → longest_text < length long
    → position_from is_long n (done ++ long ∷ later) ≡ Some (n + length done)
first_long n [] long later all longer = rw (lt-ltb longest_text (length long) longer) (ap Some (sym (add-zero n)))
first_long n (line ∷ done) long later all longer =
    let parts = and_parts (is_text line) (list_all is_text done) all in
    let more : n + 1 + length done ≡ n + suc (length done) = omega arith in
    rw (le-ltb longest_text (length line) (leb-true (length line) longest_text parts.0))
    (first_long (n + 1) done long later parts.1 longer ∙ ap Some more)

-- nothing keeps the input from being read
free_input : (limit : ℕ) (bytes : List ℕ) → length bytes ≤ limit → list_all is_text (lines_of bytes) ≡ true
    → position_from is_long 1 (lines_of (take limit bytes)) ≡ None
free_input limit bytes few all = ap (λ (xs : List ℕ). position_from is_long 1 (lines_of xs)) (take_all limit bytes few) ∙ no_long 1 (lines_of bytes) all

pub block_free : (bytes : List ℕ) → length bytes ≤ longest_input → list_all is_text (lines_of bytes) ≡ true → failure_of_input (Some bytes) ≡ None
block_free bytes few all =
    ap (λ (o : Option ℕ). failure_of_long_line o bytes) (free_input longest_input bytes few all)
    ∙ ap (λ (t : Bool). cond t (Some input_too_long) None) (le-ltb longest_input (length bytes) few)

long_input : (limit n : ℕ) (prefix rest : List ℕ) → length prefix ≤ limit → IsLong n prefix
    → position_from is_long 1 (lines_of (take limit (prefix ++ rest))) ≡ Some n
long_input limit n prefix rest few is =
    let cut = take-append-past limit prefix rest few in
    let p = is.pieces (take (limit - length prefix) rest) in
    ap (λ (xs : List ℕ). position_from is_long 1 (lines_of xs)) cut
    ∙ ap (position_from is_long 1) p.3
    ∙ first_long 1 is.done p.0 p.1 is.texts p.2
    ∙ ap Some (let one : 1 + length is.done ≡ n = omega (arith, is.count) in one)

pub block_long : (n : ℕ) (prefix rest : List ℕ) → length prefix ≤ longest_input → IsLong n prefix → failure_of_input (Some (prefix ++ rest)) ≡ Some (line_too_long n)
block_long n prefix rest few is = ap (λ (o : Option ℕ). failure_of_long_line o (prefix ++ rest)) (long_input longest_input n prefix rest few is)

past_input : (limit : ℕ) (seen rest : List ℕ) → length seen ≡ limit → list_all is_text (lines_of seen) ≡ true
    → position_from is_long 1 (lines_of (take limit (seen ++ rest))) ≡ None
past_input limit seen rest all texts =
    ap (λ (xs : List ℕ). position_from is_long 1 (lines_of xs)) (ap (λ (n : ℕ). take n (seen ++ rest)) (sym all) ∙ take-append_seam seen rest) ∙ no_long 1 (lines_of seen) texts

pub block_past : (seen rest : List ℕ) → length seen ≡ longest_input → 0 < length rest → list_all is_text (lines_of seen) ≡ true
    → failure_of_input (Some (seen ++ rest)) ≡ Some input_too_long
block_past seen rest all some texts =
    let len = length-append seen rest in
    ap (λ (o : Option ℕ). failure_of_long_line o (seen ++ rest)) (past_input longest_input seen rest all texts)
    ∙ ap (λ (t : Bool). cond t (Some input_too_long) None) (lt-ltb longest_input (length (seen ++ rest)) (omega arith))

-- nothing is left, so all bytes were seen
all_seen : (bytes : List ℕ) (left : Option (List ℕ)) (seen : List ℕ) → GivesPrefix (Some bytes) seen left → IsShut left → bytes ≡ seen
all_seen bytes left seen gives end =
    let none = subst IsShut gives.2 end in
    gives.1 ∙ ap (λ (xs : List ℕ). seen ++ xs) none ∙ append-nil seen

module _ {T D R : Type 0} (g : Ghosts T D R) where
  -- the lines so far may all be texts, the last one too
  seen_texts : (began now : T) (ended : ℕ) (run seen : List ℕ) → AreTaken g began now ended run seen → length run ≤ longest_text → list_all is_text (lines_of seen) ≡ true
  unfolding pieces_from
  seen_texts began now ended [] seen h short =
      let whole : h.done ≡ lines_of seen = sym (append-nil h.done) ∙ h.pieces [] ∙ ap lines_of (append-nil seen) in
      let All : List (List ℕ) → Type 0 = λ ls. list_all is_text ls ≡ true in
      subst All whole h.texts
  seen_texts began now ended (b ∷ run) seen h short =
      let whole : h.done ++ (b ∷ run) ∷ [] ≡ lines_of seen = h.pieces [] ∙ ap lines_of (append-nil seen) in
      let All : List (List ℕ) → Type 0 = λ ls. list_all is_text ls ≡ true in
      subst All whole (list_all-push h.done (b ∷ run) h.texts (le-leb (length (b ∷ run)) longest_text short))

  -- one more piece
  pub reading_more : (all left now : Option (List ℕ)) (began t u : T) (c d : Cutter) (total n : ℕ) (piece : List ℕ) → IsReading g all began t c total left
      → GivesPrefix left piece now → length piece ≡ n → ((began : T) (seen : List ℕ) → HasTaken g began t c seen → HasTaken g began u d (seen ++ piece)) → IsReading g all began u d (total + n) now
  reading_more all left now began t u c d total n piece h gives len taken =
      let longer = length-append h.seen piece in
      record {
        seen = h.seen ++ piece;
        taken = taken began h.seen h.taken;
        count = omega (arith, h.count);
        prefix = gives_then all left now h.seen piece h.prefix gives;
      }

  -- a line of the piece is too long, or was refused
  pub reading_cut : (e : TakeErr R) (all left now : Option (List ℕ)) (began t u : T) (a b : D) (c : Cutter) (total : ℕ) (piece : List ℕ)
      → IsReading g all began t c total left → GivesPrefix left piece now → total + length piece ≤ longest_input
      → ((began : T) (seen : List ℕ) → HasTaken g began t c seen → IsCut g began a u b e seen piece)
      → IfSome all (λ bytes. IsInputReason g began a u b (reason_of e) (Some bytes))
  reading_cut e None left now began t u a b c total piece h gives few cut = tt
  reading_cut (takes.LineTooLong n) (Some bytes) left now began t u a b c total piece h gives few cut =
      let whole = gives_then (Some bytes) left now h.seen piece h.prefix gives in
      let q = cut began h.seen h.taken in
      let parts : bytes ≡ (h.seen ++ q.prefix) ++ (q.rest ++ whole.0) =
      whole.1 ∙ ap (λ (xs : List ℕ). (h.seen ++ xs) ++ whole.0) q.parts
      ∙ ap (λ (xs : List ℕ). xs ++ whole.0) (sym (append_assoc h.seen q.prefix q.rest))
      ∙ append_assoc (h.seen ++ q.prefix) q.rest whole.0 in
      let longer = length-append h.seen q.prefix in
      let cut_len = ap length q.parts ∙ length-append q.prefix q.rest in
      ap (λ (xs : List ℕ). failure_of_input (Some xs)) parts ∙ block_long n (h.seen ++ q.prefix) (q.rest ++ whole.0) (omega (arith, h.count)) q.reason
  reading_cut (takes.Refused e) (Some bytes) left now began t u a b c total piece h gives few cut =
      let whole = gives_then (Some bytes) left now h.seen piece h.prefix gives in
      let q = cut began h.seen h.taken in
      let parts : bytes ≡ (h.seen ++ q.prefix) ++ (q.rest ++ whole.0) =
      whole.1 ∙ ap (λ (xs : List ℕ). (h.seen ++ xs) ++ whole.0) q.parts
      ∙ ap (λ (xs : List ℕ). xs ++ whole.0) (sym (append_assoc h.seen q.prefix q.rest))
      ∙ append_assoc (h.seen ++ q.prefix) q.rest whole.0 in
      let Away : List ℕ → Type 0 = λ xs. IsTurnedAway g began a u b e xs in
      subst Away (sym parts) (q.reason (q.rest ++ whole.0))

  -- there is one more byte than an input may have
  pub reading_past : (all left now : Option (List ℕ)) (began t : T) (c : Cutter) (a b : D) (total : ℕ) (piece : List ℕ)
      → IsReading g all began t c total left → total ≡ longest_input → GivesPrefix left piece now → 0 < length piece → length c.run.items ≤ longest_text
      → IfSome all (λ bytes. IsInputReason g began a t b InputTooLong (Some bytes))
  reading_past None left now began t c a b total piece h limit gives some short = tt
  reading_past (Some bytes) left now began t c a b total piece h limit gives some short =
      let Gives : Option (List ℕ) → Type 0 = λ o. GivesPrefix o piece now in
      let q = subst Gives h.prefix.2 gives in
      let rest_len = ap length q.1 ∙ length-append piece q.0 in
      ap (λ (xs : List ℕ). failure_of_input (Some xs)) h.prefix.1
      ∙ block_past h.seen h.prefix.0 (h.count ∙ limit) (omega arith) (seen_texts began t c.ended c.run.items h.seen h.taken short)

  -- nothing was read
  pub reading_none : (t : T) (c : Cutter) (left : Option (List ℕ)) → HasTaken g t t c [] → IsReading g left t t c 0 left
  reading_none t c left taken = record { seen = []; taken = taken; count = refl; prefix = gives_none left }

  -- all was read
  pub reading_end : (all left : Option (List ℕ)) (began t u : T) (c : Cutter) (total : ℕ) → IsReading g all began t c total left → total ≤ longest_input
      → IsShut left → ((began : T) (seen : List ℕ) → HasTaken g began t c seen → TookAllOf g began u seen) → IfSome all (λ bytes. TookInput g began u (Some bytes))
  reading_end None left began t u c total h few end read = tt
  reading_end (Some bytes) left began t u c total h few end read =
      let r = read began h.seen h.taken in
      let same = all_seen bytes left h.seen h.prefix end in
      let All : List ℕ → Type 0 = λ xs. list_all is_text (lines_of xs) ≡ true in
      let Took : List ℕ → Type 0 = λ xs. g.took began (lines_of xs) u in
      let len = ap length same in
      record {
        bytes = bytes;
        there = refl;
        took = subst Took (sym same) r.took;
        free = block_free bytes (omega (arith, h.count)) (subst All (sym same) r.texts);
      }

  -- all was read, and the last line was refused
  pub reading_refused : (all left : Option (List ℕ)) (began t u : T) (a b : D) (c : Cutter) (total : ℕ) (e : R) → IsReading g all began t c total left
      → IsShut left → ((began : T) (seen : List ℕ) → HasTaken g began t c seen → IsTurnedAway g began a u b e seen)
      → IfSome all (λ bytes. IsInputReason g began a u b (Refused e) (Some bytes))
  reading_refused None left began t u a b c total e h end away = tt
  reading_refused (Some bytes) left began t u a b c total e h end away =
      let Away : List ℕ → Type 0 = λ xs. IsTurnedAway g began a u b e xs in
      subst Away (sym (all_seen bytes left h.seen h.prefix end)) (away began h.seen h.taken)

  -- a refusal, seen from an earlier desk
  pub input_from :
      ((s t : T) (a b c : D) (line : List ℕ) (e : R) → g.follows a b → g.refused s b line e t c → g.refused s a line e t c)
      → (e : InputErr R) (all : Option (List ℕ)) (began u : T) (a m b : D) → g.follows a m
      → IfSome all (λ bytes. IsInputReason g began m u b e (Some bytes)) → IfSome all (λ bytes. IsInputReason g began a u b e (Some bytes))
  input_from from e None began u a m b f is = tt
  input_from from Missing (Some bytes) began u a m b f is = is
  input_from from (LineTooLong n) (Some bytes) began u a m b f is = is
  input_from from InputTooLong (Some bytes) began u a m b f is = is
  input_from from (Refused e) (Some bytes) began u a m b f is = record {
    done = is.done;
    line = is.line;
    later = is.later;
    at = is.at;
    took = is.took;
    refused = from is.at u a m b is.line e f is.refused;
    lines = is.lines;
  }
  input_from from (Read count) (Some bytes) began u a m b f is = tt
  input_from from NoMemory (Some bytes) began u a m b f is = tt

  took_held : (held : Option (List ℕ)) (began u : T) → IsSome held → IfSome held (λ bytes. TookInput g began u (Some bytes)) → TookInput g began u held
  took_held None began u some took = absurd (true≢false (sym some))
  took_held (Some bytes) began u some took = took

  -- what was left when the name was opened is what it holds
  pub opened_took : {V E : Type 0} (r : Result V E) (holds now : Option Holdings) (name : List ℕ) (left : Option (List ℕ)) (began u : T) → holds ≡ now → IsOpened holds name left
      → OnOk r (IfSome left (λ bytes. TookInput g began u (Some bytes))) → OnOk r (IfSome now (λ held. TookInput g began u (held name)))
  opened_took (Err e) holds now name left began u same opened took = tt
  opened_took (Ok v) None now name left began u same opened took =
      let Is : Option Holdings → Type 0 = λ o. IfSome o (λ held. TookInput g began u (held name)) in subst Is same tt
  opened_took (Ok v) (Some held) now name left began u same opened took =
      let Is : Option Holdings → Type 0 = λ o. IfSome o (λ h. TookInput g began u (h name)) in
      let Left : Option (List ℕ) → Type 0 = λ o. IfSome o (λ bytes. TookInput g began u (Some bytes)) in
      subst Is same (took_held (held name) began u opened.0 (subst Left opened.1 took))

-- the name that was opened is the one that was asked for
pub asked_here : {V E N : Type 0} (s : shelves.Ghosts N) (r : Result V E) (old at now : N) (name : List ℕ) → s.asked at ≡ and_asked (s.asked old) (name ∷ []) → s.asked now ≡ s.asked at
    → Asks s old now (name ∷ []) r
asked_here s (Ok v) old at now name asked same = same ∙ asked
asked_here s (Err e) old at now name asked same = ([], record { done = name ∷ []; parts = refl; is = same ∙ asked })

-- nothing was asked for
pub asked_nothing : {N : Type 0} (s : shelves.Ghosts N) (old now : N) (names : List (List ℕ)) → s.asked now ≡ s.asked old → AskedSome s old now names
asked_nothing s old now names same = (names, record { done = []; parts = refl; is = same ∙ asked_none (s.asked old) })

-- a refusal is the taker's own from each desk that the later one follows
pub own_before :
    {T D R : Type 0} (g : Ghosts T D R)
    → ((s t : T) (a b c : D) (line : List ℕ) (e : R) → g.follows a b → g.refused s b line e t c → g.refused s a line e t c)
    → (u : T) (a m b : D) (e : InputErr R) → g.follows a m → IsTakersOwn g m u b e → IsTakersOwn g a u b e
own_before g from u a m b Missing f h = tt
own_before g from u a m b (LineTooLong line) f h = tt
own_before g from u a m b InputTooLong f h = tt
own_before g from u a m b (Refused e) f h = record { at = h.at; line = h.line; refused = from h.at u a m b h.line e f h.refused }
own_before g from u a m b (Read count) f h = tt
own_before g from u a m b NoMemory f h = tt

-- a piece that isn't taken
pub own_piece : {T D R : Type 0} (g : Ghosts T D R) (a : D) (u : T) (b : D) (e : TakeErr R) → IsOfTaker g a u b e → IsTakersOwn g a u b (reason_of e)
own_piece g a u b (takes.LineTooLong n) h = tt
own_piece g a u b (takes.Refused e) h = h
