-- A reader that begins among the blocks of a file.
use Rattle.std.proofs.Common.{◌≡◌, ℕ, inl, List, [], ◌++◌, length, take, drop, Option, sym, ap, subst, ◌∙◌, length-append, arith}
use Rattle.std.proofs.lemmas.List.{take_at, drop_at, take-append-drop}
use Rattle.row_defs.specs.declared.kind.Kind.{Kind}
use Rattle.row_defs.specs.Rows.{Row}
use Rattle.dia_file.specs.declared.sealed.Sealed.{Sealed}
use Rattle.dia_file.specs.declared.place.After.TheVariants.{Keep, Free}
use Rattle.dia_file.specs.declared.place.Held.{Held}
use Rattle.dia_file.specs.declared.place.Place.{Place}
use Rattle.dia_file.specs.Pieces.{AreIn}
use Rattle.dia_file.specs.Frames.{pieces, AllSealedIn}
use Rattle.dia_file.specs.Files.{rows_stored, IsStored}
use Rattle.dia_file.specs.Places.{held_list, pins, ahead_items, file_items, rows_left, IsHeld, Telling}
use Rattle.dia_file.specs.Readers.{IsReading}
use Rattle.dia_file.specs.Cuts.{Sought}
use Rattle.dia_file.proofs.FileLemmas.{stored_rows}
use Rattle.dia_file.proofs.PlaceLemmas.{IsHidden, rest_telling}
use Rattle.dia_file.proofs.Steps.{left_told}
use Rattle.dia_file.proofs.CutLemmas.{is_cut}

-- a place before these blocks, with those before them behind
pub record BeginsAt (p : Place) (items : List Sealed) (start : ℕ) : Type 0 where
  pub keeps : p.after ≡ Keep
  pub hidden : IsHidden p
  pub ring : p.ring.items ≡ drop start items ++ take start items
  pub ahead : p.ahead ≡ length (drop start items)
  pub at : p.at ≡ 0
  pub kept : p.kept ≡ 0

keeps_all : Keep ≡ Free → ⊥
keeps_all e = cc

pub record HasBegunAt (kinds : List Kind) (p : Place) (items : List Sealed) (before : ℕ) : Type 0 where
  pub reading : IsReading kinds p
  pub file : file_items p ≡ items
  pub left : rows_left kinds p ≡ drop before (rows_stored kinds items)

pub has_begun_at :
    (kinds : List Kind) (p : Place) (items : List Sealed) (n size i start before : ℕ) → IsStored kinds items n size → Sought items i start before → BeginsAt p items start
    → HasBegunAt kinds p items before
has_begun_at kinds p items n size i start before stored sought b =
    let xs : List Sealed = take start items in
    let ys : List Sealed = drop start items in
    let cut = is_cut kinds items xs ys n size stored (take-append-drop start items) (inl sought.whole) in
    let pool = cut.pool in
    let P : List Sealed → Type 0 = λ zs. AllSealedIn pool zs in
    let ahead : ahead_items p ≡ ys = ap (λ (zs : List Sealed). take p.ahead zs) b.ring ∙ take_at ys xs p.ahead (sym b.ahead) in
    let behind : drop p.ahead p.ring.items ≡ xs = ap (λ (zs : List Sealed). drop p.ahead zs) b.ring ∙ drop_at ys xs p.ahead (sym b.ahead) in
    let hidden : pins p.shown ≡ 0 = ap pins b.hidden.shown in
    let N : Option Held → Type 0 = λ o. IsHeld pool o in
    let R : List Sealed → Type 0 = λ zs. AreIn kinds [] (pieces zs) cut.last.rows_are [] in
    let S : List ℕ → Type 0 = λ bs. AreIn kinds bs (pieces (ahead_items p)) cut.last.rows_are [] in
    let begun : take p.kept p.buffer.items ≡ [] = ap (λ (k : ℕ). take k p.buffer.items) b.kept in
    let telling : Telling kinds p cut.last.rows_are = rest_telling kinds p cut.last.rows_are b.hidden (subst S (sym begun) (subst R (sym ahead) cut.last.parts)) in
    let small = p.ring.small.1 in
    let ok = p.ring.ok.0 in
    let ring_len = ap (λ (zs : List Sealed). length zs) b.ring in
    let stored_last = stored_rows kinds ys _ _ cut.last in
    let first_len : length (rows_stored kinds xs) ≡ before = ap (λ (rs : List Row). length rs) (stored_rows kinds xs _ _ cut.first) ∙ sym cut.first.rows ∙ sought.ends in
    record {
      reading = record {
        pool = pool;
        placed = record {
          ahead = omega (arith, b.ahead, ring_len, ok, length-append ys xs);
          room = omega (arith, hidden, small);
          sealed = subst P (sym ahead) cut.sealed.1;
          behind = subst P (sym behind) cut.sealed.0;
          held = subst N (sym b.hidden.shown) tt;
          at = omega (arith, b.at);
          some = λ some. absurd (omega (arith, some, b.hidden.here));
          kept = omega (arith, b.kept);
          short = omega (arith, b.kept);
          space = λ some. absurd (omega (arith, some, b.kept));
          freed = λ frees. absurd (keeps_all (sym b.keeps ∙ frees));
        };
        told = λ _. (cut.last.rows_are, telling);
        alone = λ _. b.kept;
        most = stored.most_kinds;
      };
      file = ap (λ (zs : List Sealed). zs ++ (held_list p.shown ++ ahead_items p)) behind
          ∙ ap (λ (o : Option Held). xs ++ (held_list o ++ ahead_items p)) b.hidden.shown ∙ ap (λ (zs : List Sealed). xs ++ zs) ahead ∙ take-append-drop start items;
      left = left_told kinds p cut.last.rows_are telling ∙ sym stored_last
          ∙ sym (ap (λ (rs : List Row). drop before rs) (sym cut.rows_are) ∙ drop_at (rows_stored kinds xs) (rows_stored kinds ys) before first_len);
    }
