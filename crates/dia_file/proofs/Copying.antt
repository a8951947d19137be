-- Rows passed so far.
use Rattle.std.proofs.Common.{◌≡◌, ℕ, zero, suc, ◌+◌, true, List, [], ◌∷◌, length, drop, Some, Option, Result, Ok, Err, IfOk, OnOk, IfErr, OnErr, IfSome, IfNone, slice_get, zero-add, refl, sym, ap, subst, ◌∙◌, arith}
use Rattle.std.proofs.Math.Numerals.{suc-eq-add-one}
use Rattle.row_defs.specs.Rows.{Row}
use Rattle.block_pool.specs.Handles.{HandValue, PoolName, Follows, SameTally}
use Rattle.block_pool.specs.Follows.{follows_trans}
use Rattle.pool_core.specs.declared.refusals.PinErr.{PinErr}
use Rattle.dia_item.specs.declared.row_ref.RowRef.{RowRef}
use Rattle.dia_item.specs.Lent.{row_in_ref}
use Rattle.dia_file.specs.Refusals.{RefusesRead, RefusesWithin}
use Rattle.dia_file.specs.Files.{FileValue, IsFileOf}
use Rattle.dia_file.specs.Readers.{KeeperValue, Gives, StaysAt, Keeps}

pub record PassedSoFar (first : HandValue) (from : KeeperValue) (hand : HandValue) (reader : KeeperValue) (n : ℕ) : Type 0 where
  pub file : reader.file ≡ from.file
  pub own : IsFileOf hand.pool reader.file
  pub count : length reader.left + n ≡ length from.left
  pub told : first.pool.opening.tells ≡ true → reader.left ≡ drop n from.left
  pub permits : hand.permits + reader.pinned ≡ first.permits + from.pinned
  pub tally : SameTally first.notes hand.notes
  pub follows : Follows first hand

-- the next row is passed too
drop_next : (rows : List Row) (n : ℕ) (row : Row) (more : List Row) → drop n rows ≡ row ∷ more → (drop (suc n) rows ≡ more) × (slice_get rows n ≡ Some row)
drop_next [] zero row more e = absurd (cc)
drop_next [] (suc n) row more e = absurd (cc)
drop_next (x ∷ rows) zero row more e = (cc, cc)
drop_next (x ∷ rows) (suc n) row more e = drop_next rows n row more e

pub drop_more : (rows : List Row) (n : ℕ) (row : Row) (more : List Row) → drop n rows ≡ row ∷ more → (drop (n + 1) rows ≡ more) × (slice_get rows n ≡ Some row)
drop_more rows n row more e =
    let next = drop_next rows n row more e in
    (subst (λ (k : ℕ). drop k rows ≡ more) (suc-eq-add-one n) next.0, next.1)

-- what a keeping reader's `next` says of its answer
abbrev pub Answers : Result (Option RowRef) PinErr → HandValue → HandValue → KeeperValue → KeeperValue → Type 0
Answers r h k a b =
    IfOk r (λ o. IfSome o (λ row. Gives h.pool a.file.kinds a.left (row_in_ref row) b.left × (b.pinned ≡ 1))
    × IfNone o ((a.left ≡ []) × (b.left ≡ []) × (b.pinned ≡ 0)))
    × OnErr r (StaysAt h.pool a.left b.left)
    × Keeps h k a b

gave_row :
    (r : Result (Option RowRef) PinErr) (o : Option RowRef) (row : RowRef) (h k : HandValue) (a b : KeeperValue) → Answers r h k a b → r ≡ Ok o → o ≡ Some row
    → Gives h.pool a.file.kinds a.left (row_in_ref row) b.left
gave_row r o row h k a b all e f =
    let P : Option RowRef → Type 0 = λ o. IfSome o (λ row. Gives h.pool a.file.kinds a.left (row_in_ref row) b.left × (b.pinned ≡ 1)) × IfNone o ((a.left ≡ []) × (b.left ≡ []) × (b.pinned ≡ 0)) in
    let Q : Result (Option RowRef) PinErr → Type 0 = λ r. IfOk r P in
    (subst P f (subst Q e all.0)).0.0

pub passed_on :
    (first h k : HandValue) (from a b : KeeperValue) (n : ℕ) (r : Result (Option RowRef) PinErr) (o : Option RowRef) (row : RowRef)
    → PassedSoFar first from h a n → Answers r h k a b → SameTally h.notes k.notes → Follows h k → r ≡ Ok o → o ≡ Some row → PassedSoFar first from k b (n + 1)
passed_on first h k from a b n r o row i all tally follows e f =
    let gives = gave_row r o row h k a b all e f in
    let keeps = all.2 in
    let P : FileValue → Type 0 = λ x. IsFileOf h.pool x in
    let Q : PoolName → Type 0 = λ x. IsFileOf x b.file in
    record {
      file = keeps.file ∙ i.file;
      own = subst Q (sym follows.pool) (subst P (sym keeps.file) i.own);
      count = omega (arith, gives.count, i.count);
      told = λ tells.
          let here = ap (λ (x : PoolName). x.opening.tells) i.follows.pool ∙ tells in
          sym (drop_more from.left n (row_in_ref row) b.left (sym (i.told tells) ∙ gives.told here)).0;
      permits = keeps.permits ∙ i.permits;
      tally = (tally.0 ∙ i.tally.0, tally.1 ∙ i.tally.1);
      follows = follows_trans first h k i.follows follows;
    }

pub row_passed :
    (first h k : HandValue) (from a b : KeeperValue) (n : ℕ) (r : Result (Option RowRef) PinErr) (o : Option RowRef) (row : RowRef)
    → PassedSoFar first from h a n → Answers r h k a b → r ≡ Ok o → o ≡ Some row → first.pool.opening.tells ≡ true → slice_get from.left n ≡ Some (row_in_ref row)
row_passed first h k from a b n r o row i all e f tells =
    let gives = gave_row r o row h k a b all e f in
    let here = ap (λ (x : PoolName). x.opening.tells) i.follows.pool ∙ tells in
    (drop_more from.left n (row_in_ref row) b.left (sym (i.told tells) ∙ gives.told here)).1

pub get_drop : (rows : List Row) (b k i : ℕ) → b + k ≡ i → slice_get (drop b rows) k ≡ slice_get rows i
get_drop rows zero k i e = ap (λ (n : ℕ). slice_get rows n) (sym (zero-add k) ∙ e)
get_drop [] (suc b) k i e = refl
get_drop (x ∷ rows) (suc b) k zero e = absurd (omega (arith, e))
get_drop (x ∷ rows) (suc b) k (suc i) e = get_drop rows b k i (omega (arith, e))

pub row_of_copy : {A B E : Type 0} (r : Result (Unit {0}) E) → OnOk r A → (A → B) → OnOk r B
row_of_copy (Ok x) a f = f a
row_of_copy (Err e) a f = tt

pub refuses_within :
    (r : Result (Unit {0}) PinErr) (a b c : HandValue) → IfErr r (λ e. RefusesRead a b e) → Follows b c → IfErr r (λ e. RefusesWithin a c e)
refuses_within (Ok x) a b c h f = tt
refuses_within (Err e) a b c h f = (b, h, f)
