use Rattle.std.proofs.Common.{◌-◌, List, drop, refl, sym, ap, subst, ◌∙◌, arith}
use Rattle.std.proofs.lemmas.List.{length-drop}
use Rattle.dia_item.specs.KindList.{kind_list}
use Rattle.dia_file.specs.declared.sealed.Sealed.{Sealed}
use Rattle.dia_file.specs.declared.place.Place.{Place}
use Rattle.dia_file.specs.declared.keep.KeepReader.TheInside.{Inside}
use Rattle.dia_file.specs.Frames.{blocks_of}
use Rattle.dia_file.specs.Files.{FileValue, IsStored, rows_stored}
use Rattle.dia_file.specs.Readers.{spot}
use Rattle.dia_file.proofs.FromLemmas.{BeginsAt, has_begun_at}
use Rattle.dia_file.proofs.file.File.keep_from.Goals as goal

pub invariant_of-reader : goal.invariant_of-reader
invariant_of-reader c =
    let f = c.self.inside in
    let e = c.before_all-place.ensures in
    let p : Place = record c.before_all-place.result { ahead = c.len.result - c.seek-start.result.0 } in
    let r : Inside = record { kinds = f.kinds; rows = f.rows; bytes = f.bytes; place = p; at = 0; here = 0; kept = 0 } in
    let ok = f.sealed.ok.0 in
    let len = c.len.ensures in
    let size = length-drop c.seek-start.result.0 f.sealed.items in
    let b : BeginsAt (spot r) f.sealed.items c.seek-start.result.0 = record {
      keeps = e.after;
      hidden = record { shown = e.hidden; here = refl };
      ring = ap (λ d. d.items) e.ring ∙ c.rotate_left.ensures.items;
      ahead = omega (arith, len, ok, size);
      at = refl;
      kept = refl;
    } in
    let h = has_begun_at (kind_list f.kinds) (spot r) f.sealed.items f.rows f.bytes c.args.i c.seek-start.result.0 c.seek-start.result.1 c.self.invariant c.seek-start.ensures b in
    let Q : List Sealed → Type 0 = λ xs. IsStored (kind_list f.kinds) xs f.rows f.bytes in
    record { reading = h.reading; stored = subst Q (sym h.file) c.self.invariant; keeps = e.after }

pub returns-clause-file : goal.returns-clause-file
returns-clause-file c =
    let f = c.self.inside in
    let e = c.before_all-place.ensures in
    let p : Place = record c.before_all-place.result { ahead = c.len.result - c.seek-start.result.0 } in
    let r : Inside = record { kinds = f.kinds; rows = f.rows; bytes = f.bytes; place = p; at = 0; here = 0; kept = 0 } in
    let ok = f.sealed.ok.0 in
    let len = c.len.ensures in
    let size = length-drop c.seek-start.result.0 f.sealed.items in
    let b : BeginsAt (spot r) f.sealed.items c.seek-start.result.0 = record {
      keeps = e.after;
      hidden = record { shown = e.hidden; here = refl };
      ring = ap (λ d. d.items) e.ring ∙ c.rotate_left.ensures.items;
      ahead = omega (arith, len, ok, size);
      at = refl;
      kept = refl;
    } in
    let h = has_begun_at (kind_list f.kinds) (spot r) f.sealed.items f.rows f.bytes c.args.i c.seek-start.result.0 c.seek-start.result.1 c.self.invariant c.seek-start.ensures b in
    ap (λ (xs : List Sealed). record { kinds = kind_list f.kinds; rows = rows_stored (kind_list f.kinds) xs; blocks = blocks_of xs }) h.file ∙ c.self.view_is

pub returns-clause-left : goal.returns-clause-left
returns-clause-left c =
    let f = c.self.inside in
    let e = c.before_all-place.ensures in
    let p : Place = record c.before_all-place.result { ahead = c.len.result - c.seek-start.result.0 } in
    let r : Inside = record { kinds = f.kinds; rows = f.rows; bytes = f.bytes; place = p; at = 0; here = 0; kept = 0 } in
    let ok = f.sealed.ok.0 in
    let len = c.len.ensures in
    let size = length-drop c.seek-start.result.0 f.sealed.items in
    let b : BeginsAt (spot r) f.sealed.items c.seek-start.result.0 = record {
      keeps = e.after;
      hidden = record { shown = e.hidden; here = refl };
      ring = ap (λ d. d.items) e.ring ∙ c.rotate_left.ensures.items;
      ahead = omega (arith, len, ok, size);
      at = refl;
      kept = refl;
    } in
    let h = has_begun_at (kind_list f.kinds) (spot r) f.sealed.items f.rows f.bytes c.args.i c.seek-start.result.0 c.seek-start.result.1 c.self.invariant c.seek-start.ensures b in
    h.left ∙ ap (λ (x : FileValue). drop c.seek-start.result.1 x.rows) c.self.view_is
