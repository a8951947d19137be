use Rattle.std.proofs.Common.{List, refl, sym, ap, ◌∙◌}
use Rattle.std.specs.VecDeque.{deque_len}
use Rattle.dia_item.specs.KindList.{kind_list}
use Rattle.dia_file.specs.declared.sealed.Sealed.{Sealed}
use Rattle.dia_file.specs.declared.keep.KeepReader.TheInside.{Inside}
use Rattle.dia_file.specs.Frames.{blocks_of}
use Rattle.dia_file.specs.Files.{FileValue, rows_stored}
use Rattle.dia_file.specs.Places.{pins}
use Rattle.dia_file.specs.Readers.{spot}
use Rattle.dia_file.proofs.EndLemmas.{Begins, begins_file, opened}
use Rattle.dia_file.proofs.file.File.keep.Goals as goal

pub invariant_of-result : goal.invariant_of-result
invariant_of-result c =
    let f = c.self.inside in
    let e = c.before_all.ensures in
    let r : Inside = record { kinds = f.kinds; rows = f.rows; bytes = f.bytes; place = c.before_all.result; at = 0; here = 0; kept = 0 } in
    let b : Begins (spot r) = record { hidden = record { shown = e.hidden; here = refl }; ahead = e.ahead ∙ ap (λ x. deque_len x) (sym e.ring); at = refl; kept = refl } in
    let o = opened r f.sealed.items c.self.invariant b e.after (ap (λ x. x.items) e.ring) in
    o.keeping_on

pub returns-clause-file : goal.returns-clause-file
returns-clause-file c =
    let f = c.self.inside in
    let e = c.before_all.ensures in
    let r : Inside = record { kinds = f.kinds; rows = f.rows; bytes = f.bytes; place = c.before_all.result; at = 0; here = 0; kept = 0 } in
    let b : Begins (spot r) = record { hidden = record { shown = e.hidden; here = refl }; ahead = e.ahead ∙ ap (λ x. deque_len x) (sym e.ring); at = refl; kept = refl } in
    ap (λ (xs : List Sealed). record { kinds = kind_list f.kinds; rows = rows_stored (kind_list f.kinds) xs; blocks = blocks_of xs }) (begins_file (spot r) b ∙ ap (λ x. x.items) e.ring) ∙ c.self.view_is

pub returns-clause-left : goal.returns-clause-left
returns-clause-left c =
    let f = c.self.inside in
    let e = c.before_all.ensures in
    let r : Inside = record { kinds = f.kinds; rows = f.rows; bytes = f.bytes; place = c.before_all.result; at = 0; here = 0; kept = 0 } in
    let b : Begins (spot r) = record { hidden = record { shown = e.hidden; here = refl }; ahead = e.ahead ∙ ap (λ x. deque_len x) (sym e.ring); at = refl; kept = refl } in
    let o = opened r f.sealed.items c.self.invariant b e.after (ap (λ x. x.items) e.ring) in
    o.left ∙ ap (λ (x : FileValue). x.rows) c.self.view_is

pub returns-clause-pinned : goal.returns-clause-pinned
returns-clause-pinned c = ap pins c.before_all.ensures.hidden
