-- Lines that are taken piece by piece.
use Rattle.std.proofs.Common.{◌≡◌, ℕ, ◌+◌, ◌<◌, ◌≤◌, true, List, [], ◌∷◌, ◌++◌, length, refl, sym, ap, ◌∙◌, subst, arith, append_assoc, append-nil, length-append, Result, Ok, Err, OnOk, IfErr}
use Rattle.std.proofs.lemmas.Bool.{and_parts, and_from, le-leb}
use Rattle.std.specs.List.{list_all}
use Rattle.row_defs.specs.Limits.{longest_text}
use Rattle.row_defs.specs.Pieces.{pieces_from, lines_of, line_feed}
use Rattle.dia_text.specs.Unbroken.{IsUnbroken}
use Rattle.dia_text.proofs.PieceLemmas.{pieces-at, pieces-begin}
use Rattle.dia_lines.specs.Taking.{is_text, AreTaken, HasTaken, IsLong, IsTurnedAway, IsOfTaker, IsTakeReason, Consumes, IsCut, TookAllOf}
use Rattle.dia_lines.specs.declared.line_taker.LineTaker.{Ghosts}
use Rattle.dia_lines.specs.declared.cutter.Cutter.{Cutter}
use Rattle.dia_lines.specs.declared.cutter.TakeErr.{TakeErr}
use Rattle.dia_lines.specs.declared.cutter.TakeErr.TheVariants.{LineTooLong, Refused}

pub list_all-push : (lines : List (List ℕ)) (line : List ℕ) → list_all is_text lines ≡ true → is_text line ≡ true → list_all is_text (lines ++ line ∷ []) ≡ true
list_all-push [] line all is = and_from (is_text line) true is refl
list_all-push (l ∷ lines) line all is =
    let parts = and_parts (is_text l) (list_all is_text lines) all in
    and_from (is_text l) (list_all is_text (lines ++ line ∷ [])) parts.0 (list_all-push lines line parts.1 is)

-- the lines so far, a line that ends here, and what follows
line_ends : (done : List (List ℕ)) (run seen bytes more : List ℕ) → ((more : List ℕ) → done ++ pieces_from line_feed run more ≡ lines_of (seen ++ more)) → IsUnbroken line_feed bytes
    → done ++ (run ++ bytes) ∷ pieces_from line_feed [] more ≡ lines_of ((seen ++ (bytes ++ line_feed ∷ [])) ++ more)
line_ends done run seen bytes more pieces unbroken =
    ap (λ (ps : List (List ℕ)). done ++ ps) (sym (unbroken run (line_feed ∷ more) ∙ pieces-at line_feed (run ++ bytes) more))
    ∙ pieces (bytes ++ (line_feed ∷ more))
    ∙ ap lines_of (ap (λ (xs : List ℕ). seen ++ xs) (sym (append_assoc bytes (line_feed ∷ []) more)) ∙ sym (append_assoc seen (bytes ++ line_feed ∷ []) more))

long_more : (n : ℕ) (seen more : List ℕ) → IsLong n seen → IsLong n (seen ++ more)
long_more n seen more is = record {
  done = is.done;
  count = is.count;
  texts = is.texts;
  pieces = λ later. let p = is.pieces (more ++ later) in (p.0, p.1, p.2, ap lines_of (append_assoc seen more later) ∙ p.3);
}

module _ {T D R : Type 0} (g : Ghosts T D R) where
  -- nothing was taken
  pub taken_none : (t : T) (c : Cutter) → g.took t [] t → c.ended ≡ 0 → c.run.items ≡ [] → HasTaken g t t c []
  taken_none t c none no_lines no_run = record {
    done = [];
    took = none;
    count = no_lines;
    pieces = λ more. ap (λ (r : List ℕ). pieces_from line_feed r more) no_run;
    texts = refl;
  }

  -- a line has ended
  pub taken_line :
      ((a b c : T) (xs ys : List (List ℕ)) → g.took a xs b → g.took b ys c → g.took a (xs ++ ys) c)
      → (began now next : T) (ended more : ℕ) (run rest seen bytes : List ℕ) → AreTaken g began now ended run seen
      → IsUnbroken line_feed bytes → length run + length bytes ≤ longest_text
      → g.took now ((run ++ bytes) ∷ []) next → more ≡ ended + 1 → rest ≡ []
      → AreTaken g began next more rest (seen ++ (bytes ++ line_feed ∷ []))
  taken_line took_more began now next ended more run rest seen bytes h unbroken short took one none =
      let line = run ++ bytes in
      let len = length-append run bytes in
      record {
        done = h.done ++ line ∷ [];
        took = took_more began now next h.done (line ∷ []) h.took took;
        count = (let more_lines = length-append h.done (line ∷ []) in omega (arith, h.count));
        pieces = λ later.
            append_assoc h.done (line ∷ []) (pieces_from line_feed rest later)
            ∙ ap (λ (r : List ℕ). h.done ++ (line ∷ pieces_from line_feed r later)) none
            ∙ line_ends h.done run seen bytes later h.pieces unbroken;
        texts = list_all-push h.done line h.texts (le-leb (length line) longest_text (omega arith));
      }

  -- the line that ends here was refused
  pub taken_refused : (began now u : T) (a b : D) (ended : ℕ) (run seen bytes : List ℕ) (e : R) → AreTaken g began now ended run seen → IsUnbroken line_feed bytes
      → g.refused now a (run ++ bytes) e u b → IsTakeReason g began a u b (Refused e) (seen ++ (bytes ++ line_feed ∷ []))
  taken_refused began now u a b ended run seen bytes e h unbroken refused = λ more. record {
    done = h.done;
    line = run ++ bytes;
    later = pieces_from line_feed [] more;
    at = now;
    took = h.took;
    refused = refused;
    lines = sym (line_ends h.done run seen bytes more h.pieces unbroken);
  }

  -- a line goes on
  pub taken_more : (began now : T) (ended : ℕ) (run longer seen bytes : List ℕ) → AreTaken g began now ended run seen → IsUnbroken line_feed bytes
      → longer ≡ run ++ bytes → AreTaken g began now ended longer (seen ++ bytes)
  taken_more began now ended run longer seen bytes h unbroken onto = record {
    done = h.done;
    took = h.took;
    count = h.count;
    pieces = λ more.
        ap (λ (r : List ℕ). h.done ++ pieces_from line_feed r more) onto
        ∙ ap (λ (ps : List (List ℕ)). h.done ++ ps) (sym (unbroken run more))
        ∙ h.pieces (bytes ++ more) ∙ ap lines_of (sym (append_assoc seen bytes more));
    texts = h.texts;
  }

  -- a line is too long
  pub taken_long : (began now : T) (ended : ℕ) (run seen bytes : List ℕ) → AreTaken g began now ended run seen → IsUnbroken line_feed bytes
      → longest_text < length run + length bytes → IsLong (ended + 1) (seen ++ bytes)
  taken_long began now ended run seen bytes h unbroken long = record {
    done = h.done;
    count = ap (λ (n : ℕ). n + 1) h.count;
    texts = h.texts;
    pieces = λ more.
        let line = run ++ bytes in
        let len = length-append run bytes in
        let begun = pieces-begin line_feed line more (omega arith) in
        let whole = length-append line begun.0 in (
          line ++ begun.0,
          begun.1,
          omega arith,
          ap lines_of (append_assoc seen bytes more) ∙ sym (h.pieces (bytes ++ more))
              ∙ ap (λ (ps : List (List ℕ)). h.done ++ ps) (unbroken run more ∙ begun.2),
        );
  }

  -- and so it is behind its end
  pub taken_long_line : (began now : T) (ended : ℕ) (run seen bytes : List ℕ) → AreTaken g began now ended run seen → IsUnbroken line_feed bytes
      → longest_text < length run + length bytes → IsLong (ended + 1) (seen ++ (bytes ++ line_feed ∷ []))
  taken_long_line began now ended run seen bytes h unbroken long =
      let Long : List ℕ → Type 0 = IsLong (ended + 1) in
      subst Long (append_assoc seen bytes (line_feed ∷ [])) (long_more (ended + 1) (seen ++ bytes) (line_feed ∷ []) (taken_long began now ended run seen bytes h unbroken long))

  pub consumes_then : (t u v : T) (c d e : Cutter) (bytes rest later : List ℕ) → Consumes g t c u d bytes rest → Consumes g u d v e rest later → Consumes g t c v e bytes later
  consumes_then t u v c d e bytes rest later p q = record {
    prefix = p.prefix ++ q.prefix;
    parts = p.parts ∙ ap (λ (xs : List ℕ). p.prefix ++ xs) q.parts ∙ sym (append_assoc p.prefix q.prefix later);
    taken = λ began seen h.
        let Taken : List ℕ → Type 0 = λ xs. HasTaken g began v e xs in
        subst Taken (append_assoc seen p.prefix q.prefix) (q.taken began (seen ++ p.prefix) (p.taken began seen h));
  }

  -- a refusal, seen from an earlier desk
  pub reason_from :
      ((s t : T) (a b c : D) (line : List ℕ) (e : R) → g.follows a b → g.refused s b line e t c → g.refused s a line e t c)
      → (began u : T) (a m b : D) (e : TakeErr R) (seen : List ℕ) → g.follows a m → IsTakeReason g began m u b e seen → IsTakeReason g began a u b e seen
  reason_from from began u a m b (LineTooLong n) seen f is = is
  reason_from from began u a m b (Refused e) seen f is = λ more. let r = is more in record {
    done = r.done;
    line = r.line;
    later = r.later;
    at = r.at;
    took = r.took;
    refused = from r.at u a m b r.line e f r.refused;
    lines = r.lines;
  }

  pub cut_after :
      ((s t : T) (a b c : D) (line : List ℕ) (e : R) → g.follows a b → g.refused s b line e t c → g.refused s a line e t c)
      → (t m u : T) (c d : Cutter) (a n b : D) (e : TakeErr R) (bytes rest : List ℕ) → g.follows a n → Consumes g t c m d bytes rest
      → ((began : T) (seen : List ℕ) → HasTaken g began m d seen → IsCut g began n u b e seen rest)
      → (began : T) (seen : List ℕ) → HasTaken g began t c seen → IsCut g began a u b e seen bytes
  cut_after from t m u c d a n b e bytes rest f p cut began seen h =
      let q = cut began (seen ++ p.prefix) (p.taken began seen h) in
      let Reason : List ℕ → Type 0 = λ xs. IsTakeReason g began a u b e xs in
      record {
        prefix = p.prefix ++ q.prefix;
        rest = q.rest;
        parts = p.parts ∙ ap (λ (xs : List ℕ). p.prefix ++ xs) q.parts ∙ sym (append_assoc p.prefix q.prefix q.rest);
        reason = subst Reason (append_assoc seen p.prefix q.prefix) (reason_from from began u a n b e ((seen ++ p.prefix) ++ q.prefix) f q.reason);
      }

  pub cut_whole : (began u : T) (a b : D) (e : TakeErr R) (seen bytes : List ℕ) → IsTakeReason g began a u b e (seen ++ bytes) → IsCut g began a u b e seen bytes
  cut_whole began u a b e seen bytes reason = record { prefix = bytes; rest = []; parts = sym (append-nil bytes); reason = reason }

  pub cut_prefix : (began u : T) (a b : D) (e : TakeErr R) (seen bytes prefix rest : List ℕ) → bytes ≡ prefix ++ rest → IsTakeReason g began a u b e (seen ++ prefix)
      → IsCut g began a u b e seen bytes
  cut_prefix began u a b e seen bytes prefix rest parts reason = record { prefix = prefix; rest = rest; parts = parts; reason = reason }

  pub consumes_all : (t u : T) (c d : Cutter) (bytes : List ℕ) → ((began : T) (seen : List ℕ) → HasTaken g began t c seen → HasTaken g began u d (seen ++ bytes)) → Consumes g t c u d bytes []
  consumes_all t u c d bytes taken = record { prefix = bytes; parts = sym (append-nil bytes); taken = taken }

  pub consumes_none : (t : T) (c : Cutter) (bytes : List ℕ) → Consumes g t c t c bytes bytes
  consumes_none t c bytes = record {
    prefix = [];
    parts = refl;
    taken = λ began seen h. let Taken : List ℕ → Type 0 = λ xs. HasTaken g began t c xs in subst Taken (sym (append-nil seen)) h;
  }

  -- at the end of the input
  pub read_all : (began now : T) (ended : ℕ) (run seen : List ℕ) → AreTaken g began now ended run seen → length run ≡ 0 → TookAllOf g began now seen
  unfolding pieces_from
  read_all began now ended [] seen h none =
      let whole : h.done ≡ lines_of seen = sym (append-nil h.done) ∙ h.pieces [] ∙ ap lines_of (append-nil seen) in
      let All : List (List ℕ) → Type 0 = λ ls. list_all is_text ls ≡ true in
      let Took : List (List ℕ) → Type 0 = λ ls. g.took began ls now in
      record { took = subst Took whole h.took; texts = subst All whole h.texts }
  read_all began now ended (b ∷ run) seen h none = absurd (omega arith)

  last_line : (began now : T) (ended : ℕ) (run seen : List ℕ) → (h : AreTaken g began now ended run seen) → 0 < length run → h.done ++ run ∷ [] ≡ lines_of seen
  unfolding pieces_from
  last_line began now ended [] seen h some = absurd (omega arith)
  last_line began now ended (b ∷ run) seen h some = h.pieces [] ∙ ap lines_of (append-nil seen)

  read_last :
      ((a b c : T) (xs ys : List (List ℕ)) → g.took a xs b → g.took b ys c → g.took a (xs ++ ys) c)
      → (began now next : T) (ended : ℕ) (run seen : List ℕ) → AreTaken g began now ended run seen → 0 < length run → length run ≤ longest_text
      → g.took now ((run ++ []) ∷ []) next → TookAllOf g began next seen
  read_last took_more began now next ended run seen h some short took =
      let whole = last_line began now ended run seen h some in
      let All : List (List ℕ) → Type 0 = λ ls. list_all is_text ls ≡ true in
      let Took : List (List ℕ) → Type 0 = λ ls. g.took began ls next in
      let One : List ℕ → Type 0 = λ r. g.took now (r ∷ []) next in
      record {
        took = subst Took whole (took_more began now next h.done (run ∷ []) h.took (subst One (append-nil run) took));
        texts = subst All whole (list_all-push h.done run h.texts (le-leb (length run) longest_text short));
      }

  read_refused : (began now u : T) (a b : D) (ended : ℕ) (run seen : List ℕ) (e : R) → AreTaken g began now ended run seen → 0 < length run
      → g.refused now a (run ++ []) e u b → IsTurnedAway g began a u b e seen
  read_refused began now u a b ended run seen e h some refused =
      let One : List ℕ → Type 0 = λ r. g.refused now a r e u b in
      record {
        done = h.done;
        line = run;
        later = [];
        at = now;
        took = h.took;
        refused = subst One (append-nil run) refused;
        lines = sym (last_line began now ended run seen h some);
      }

  -- both, of what the taker answers
  pub read_last_of :
      ((a b c : T) (xs ys : List (List ℕ)) → g.took a xs b → g.took b ys c → g.took a (xs ++ ys) c)
      → (now next : T) (c : Cutter) (r : Result (Unit {0}) R) → 0 < length c.run.items → length c.run.items ≤ longest_text → OnOk r (g.took now ((c.run.items ++ []) ∷ []) next)
      → OnOk r ((began : T) (seen : List ℕ) → HasTaken g began now c seen → TookAllOf g began next seen)
  read_last_of took_more now next c (Ok done) some short took = λ began seen taken. read_last took_more began now next c.ended c.run.items seen taken some short took
  read_last_of took_more now next c (Err e) some short took = tt

  pub read_refused_of : (now u : T) (a b : D) (c : Cutter) (r : Result (Unit {0}) R) → 0 < length c.run.items → IfErr r (λ e. g.refused now a (c.run.items ++ []) e u b)
      → IfErr r (λ e. (began : T) (seen : List ℕ) → HasTaken g began now c seen → IsTurnedAway g began a u b e seen)
  read_refused_of now u a b c (Ok done) some refused = tt
  read_refused_of now u a b c (Err e) some refused = λ began seen taken. read_refused began now u a b c.ended c.run.items seen e taken some refused

-- a refusal is the taker's own from each desk that the later one follows
pub taker_before :
    {T D R : Type 0} (g : Ghosts T D R)
    → ((s t : T) (a b c : D) (line : List ℕ) (e : R) → g.follows a b → g.refused s b line e t c → g.refused s a line e t c)
    → (u : T) (a m b : D) (e : TakeErr R) → g.follows a m → IsOfTaker g m u b e → IsOfTaker g a u b e
taker_before g from u a m b (LineTooLong n) f h = tt
taker_before g from u a m b (Refused e) f h = record { at = h.at; line = h.line; refused = from h.at u a m b h.line e f h.refused }
