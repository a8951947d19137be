-- Rows with their numbers, and what a sink has written that may number its rows.
use Rattle.std.specs.Prelude.{◌≡◌, ℕ, suc, ◌+◌, ◌≤◌, false, List, [], ◌∷◌, ◌++◌, length, Option, None, Some, is_some, refl, ⊤}
use Rattle.std.proofs.Common.{sym, ap, ◌∙◌, subst, arith, length-append}
use Rattle.row_defs.specs.declared.kind.Kind.{Kind}
use Rattle.row_defs.specs.declared.kind.Kind.TheVariants.{Int}
use Rattle.row_defs.specs.Limits.{most_columns, most_rows}
use Rattle.row_defs.specs.Rows.{Row, int}
use Rattle.block_pool.specs.Handles.{PoolName, HandValue, Follows}
use Rattle.dia_file.specs.Writers.{WriterValue}
use Rattle.dia_file.specs.declared.refusals.PushErr.{PushErr}
use Rattle.file_sink.specs.Sinks.{SinkValue, Wrote, RefusesTake, KeepsFile, wrote_none, wrote_more, keeps_none, keeps_more, refuses_from}

-- each row behind its number, the first of which is this
abbrev pub numbered : ℕ → List Row → List Row
numbered n [] = []
numbered n (row ∷ rows) = (int n ∷ row) ∷ numbered (n + 1) rows

-- the sink of the file, and the number of the next row, where rows are numbered
pub record NumberedValue : Type 0 where
  pub sink : SinkValue
  pub next : Option ℕ

-- the rows that are written of these, where the first of them has this number
abbrev pub rows_behind : Option ℕ → List Row → List Row
rows_behind None rows = rows
rows_behind (Some n) rows = numbered n rows

-- the number of the row after so many
abbrev pub next_behind : Option ℕ → ℕ → Option ℕ
next_behind None rows = None
next_behind (Some n) rows = Some (n + rows)

-- the kinds that are written of rows of these
abbrev pub kinds_behind : Option ℕ → List Kind → List Kind
kinds_behind None kinds = kinds
kinds_behind (Some n) kinds = Int ∷ kinds

-- the sink of the file wrote no row yet; it is of this pool, for rows of these kinds, at most so many of them
pub record IsNewSink (pool : PoolName) (kinds : List Kind) (limit : ℕ) (s : SinkValue) : Type 0 where
  pub own : s.pool ≡ pool
  pub kinds_are : s.writer.kinds ≡ kinds
  pub limit_is : s.writer.limit ≡ limit
  pub rows : s.writer.rows ≡ []
  pub blocks : s.writer.blocks ≡ []
  pub frame : s.writer.frame ≡ None
  pub is_open : s.is_shut ≡ false

-- these rows were taken, and written with their numbers where rows are numbered
pub record Took (s : NumberedValue) (rows : List Row) (t : NumberedValue) : Type 0 where
  pub wrote : Wrote s.sink.writer (rows_behind s.next rows) t.sink.writer
  pub next : t.next ≡ next_behind s.next (length rows)

-- why a row isn't taken; what was written is as before
pub record RefusesNumbered (e : PushErr) (s : NumberedValue) (a : HandValue) (t : NumberedValue) (b : HandValue) : Type 0 where
  pub refuses : RefusesTake e s.sink.writer a t.sink.writer b
  pub next : t.next ≡ s.next

-- what stays, whatever is answered
pub record KeepsNumbered (s t : NumberedValue) : Type 0 where
  pub file : KeepsFile s.sink t.sink
  pub numbers : is_some t.next ≡ is_some s.next

-- the numbers of rows that a writer has room for stay small
abbrev pub NumbersFit : WriterValue → Option ℕ → Type 0
NumbersFit w None = ⊤
NumbersFit w (Some n) = (n ≤ most_rows + length w.rows) × (length w.kinds ≤ most_columns)

-- laws ----------------------------------------------------------------------------------------------------------------

pub numbered-append : (n : ℕ) (xs ys : List Row) → numbered n (xs ++ ys) ≡ numbered n xs ++ numbered (n + length xs) ys
numbered-append n [] ys = let same : n ≡ n + 0 = omega arith in ap (λ (k : ℕ). numbered k ys) same
numbered-append n (x ∷ xs) ys =
    let at : n + 1 + length xs ≡ n + suc (length xs) = omega arith in
    ap (λ (l : List Row). (int n ∷ x) ∷ l) (numbered-append (n + 1) xs ys ∙ ap (λ (k : ℕ). numbered (n + 1) xs ++ numbered k ys) at)

pub length-numbered : (n : ℕ) (rows : List Row) → length (numbered n rows) ≡ length rows
length-numbered n [] = refl
length-numbered n (row ∷ rows) = ap (λ (k : ℕ). suc k) (length-numbered (n + 1) rows)

rows_behind-append : (o : Option ℕ) (xs ys : List Row) → rows_behind o (xs ++ ys) ≡ rows_behind o xs ++ rows_behind (next_behind o (length xs)) ys
rows_behind-append None xs ys = refl
rows_behind-append (Some n) xs ys = numbered-append n xs ys

next_behind-add : (o : Option ℕ) (m n : ℕ) → next_behind (next_behind o m) n ≡ next_behind o (m + n)
next_behind-add None m n = refl
next_behind-add (Some k) m n = let sum : k + m + n ≡ k + (m + n) = omega arith in ap (λ (i : ℕ). Some i) sum

rows_behind-nil : (o : Option ℕ) → let no : List Row = [] in rows_behind o no ≡ no
rows_behind-nil None = refl
rows_behind-nil (Some n) = refl

next_behind-zero : (o : Option ℕ) → o ≡ next_behind o 0
next_behind-zero None = refl
next_behind-zero (Some n) = let same : n ≡ n + 0 = omega arith in ap (λ (i : ℕ). Some i) same

pub kinds_behind-next : (o : Option ℕ) (n : ℕ) (kinds : List Kind) → kinds_behind (next_behind o n) kinds ≡ kinds_behind o kinds
kinds_behind-next None n kinds = refl
kinds_behind-next (Some k) n kinds = refl

pub is_some-next : (o : Option ℕ) (n : ℕ) → is_some (next_behind o n) ≡ is_some o
is_some-next None n = refl
is_some-next (Some k) n = refl

pub took_none : (s : NumberedValue) → Took s [] s
took_none s = record {
  wrote = let P : List Row → Type 0 = λ rows. Wrote s.sink.writer rows s.sink.writer in subst P (sym (rows_behind-nil s.next)) (wrote_none s.sink.writer);
  next = next_behind-zero s.next;
}

pub took_more : (a b c : NumberedValue) (xs ys : List Row) → Took a xs b → Took b ys c → Took a (xs ++ ys) c
took_more a b c xs ys p q =
    let P : List Row → Type 0 = λ rows. Wrote a.sink.writer rows c.sink.writer in
    let both : Wrote a.sink.writer (rows_behind a.next xs ++ rows_behind b.next ys) c.sink.writer =
    wrote_more a.sink.writer b.sink.writer c.sink.writer (rows_behind a.next xs) (rows_behind b.next ys) p.wrote q.wrote in
    let are : rows_behind a.next xs ++ rows_behind b.next ys ≡ rows_behind a.next (xs ++ ys) =
    ap (λ (o : Option ℕ). rows_behind a.next xs ++ rows_behind o ys) p.next ∙ sym (rows_behind-append a.next xs ys) in
    let long : length xs + length ys ≡ length (xs ++ ys) = sym (length-append xs ys) in
    record {
      wrote = subst P are both;
      next = q.next ∙ ap (λ (o : Option ℕ). next_behind o (length ys)) p.next ∙ next_behind-add a.next (length xs) (length ys) ∙ ap (next_behind a.next) long;
    }

pub numbers_kept : (s : NumberedValue) → KeepsNumbered s s
numbers_kept s = record { file = keeps_none s.sink; numbers = refl }

pub numbers_kept_more : (s t u : NumberedValue) → KeepsNumbered s t → KeepsNumbered t u → KeepsNumbered s u
numbers_kept_more s t u p q = record { file = keeps_more s.sink t.sink u.sink p.file q.file; numbers = q.numbers ∙ p.numbers }

pub refuses_numbered_from : (e : PushErr) (s t : NumberedValue) (a b c : HandValue) → Follows a b → RefusesNumbered e s b t c → RefusesNumbered e s a t c
refuses_numbered_from e s t a b c p q = record { refuses = refuses_from e s.sink.writer t.sink.writer a b c p q.refuses; next = q.next }
