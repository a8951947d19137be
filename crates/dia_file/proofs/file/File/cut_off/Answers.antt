use Rattle.std.proofs.Common.{◌<◌, ◌≤◌, ⊎_elim, length, subst, ◌^◌, List, sym, ap, ◌∙◌, arith, rules}
use Rattle.std.proofs.lemmas.List.{map-append}
use Rattle.row_defs.specs.Rows.{Row}
use Rattle.dia_file.specs.Encoding.{encoded}
use Rattle.dia_item.specs.KindList.{kind_list}
use Rattle.dia_file.specs.declared.sealed.Sealed.{Sealed}
use Rattle.dia_file.specs.Frames.{blocks_of}
use Rattle.dia_file.specs.Files.{FileValue}
use Rattle.dia_file.proofs.CutLemmas.{is_cut, few_stored, stored_size, stored_whole, stored_ends}
use Rattle.dia_file.proofs.file.File.cut_off.Goals as goal

pub move_blocks-rows-requires-clause-fits : goal.move_blocks-rows-requires-clause-fits
move_blocks-rows-requires-clause-fits c =
    let f = c.self.inside in
    let e = stored_ends (kind_list f.kinds) f.sealed.items f.rows f.bytes c.self.invariant in
    let rows : f.rows < 2 ^ 64 = search rules in
    let bytes : f.bytes < 2 ^ 64 = search rules in
    (omega (arith, e.0, rows), omega (arith, e.1, bytes))

pub overflow_sub-self : goal.overflow_sub-self
overflow_sub-self c =
    let f = c.self.inside in
    let m = c.move_blocks-rows.ensures in
    let cut = is_cut (kind_list f.kinds) f.sealed.items c.move_blocks-rows.new.into.items c.move_blocks-rows.new.from.items f.rows f.bytes c.self.invariant m.items m.whole in
    omega (arith, m.rows, cut.ends)

pub overflow_sub-self-2 : goal.overflow_sub-self-2
overflow_sub-self-2 c =
    let f = c.self.inside in
    let m = c.move_blocks-rows.ensures in
    let cut = is_cut (kind_list f.kinds) f.sealed.items c.move_blocks-rows.new.into.items c.move_blocks-rows.new.from.items f.rows f.bytes c.self.invariant m.items m.whole in
    omega (arith, m.bytes, cut.lens)

pub invariant_of-self : goal.invariant_of-self
invariant_of-self c =
    let f = c.self.inside in
    let m = c.move_blocks-rows.ensures in
    let cut = is_cut (kind_list f.kinds) f.sealed.items c.move_blocks-rows.new.into.items c.move_blocks-rows.new.from.items f.rows f.bytes c.self.invariant m.items m.whole in
    rw (m.rows, m.bytes) cut.last

pub invariant_of-result : goal.invariant_of-result
invariant_of-result c =
    let f = c.self.inside in
    let m = c.move_blocks-rows.ensures in
    let cut = is_cut (kind_list f.kinds) f.sealed.items c.move_blocks-rows.new.into.items c.move_blocks-rows.new.from.items f.rows f.bytes c.self.invariant m.items m.whole in
    rw (m.rows, m.bytes) cut.first

pub returns-clause-rows : goal.returns-clause-rows
returns-clause-rows c =
    let f = c.self.inside in
    let m = c.move_blocks-rows.ensures in
    let cut = is_cut (kind_list f.kinds) f.sealed.items c.move_blocks-rows.new.into.items c.move_blocks-rows.new.from.items f.rows f.bytes c.self.invariant m.items m.whole in
    cut.rows_are ∙ ap (λ (x : FileValue). x.rows) c.self.view_is

pub returns-clause-blocks : goal.returns-clause-blocks
returns-clause-blocks c =
    let f = c.self.inside in
    let m = c.move_blocks-rows.ensures in
    sym (map-append (λ (s : Sealed). s.block) _ _) ∙ ap (λ (xs : List Sealed). blocks_of xs) m.items ∙ ap (λ (x : FileValue). x.blocks) c.self.view_is

pub returns-clause-few : goal.returns-clause-few
returns-clause-few c =
    let f = c.self.inside in
    let m = c.move_blocks-rows.ensures in
    let cut = is_cut (kind_list f.kinds) f.sealed.items c.move_blocks-rows.new.into.items c.move_blocks-rows.new.from.items f.rows f.bytes c.self.invariant m.items m.whole in
    few_stored (kind_list f.kinds) c.move_blocks-rows.new.into.items _ _ c.args.want cut.first m.due

pub returns-clause-enough : goal.returns-clause-enough
returns-clause-enough c = λ fits.
    let f = c.self.inside in
    let m = c.move_blocks-rows.ensures in
    let into = c.move_blocks-rows.new.into.items in
    let cut = is_cut (kind_list f.kinds) f.sealed.items into c.move_blocks-rows.new.from.items f.rows f.bytes c.self.invariant m.items m.whole in
    let size = stored_size (kind_list f.kinds) into _ _ cut.first in
    ⊎_elim
    (λ enough. subst (λ n. c.args.want ≤ n) (m.bytes ∙ sym size) enough)
    (λ none.
    let rows = stored_whole (kind_list f.kinds) f.sealed.items into c.move_blocks-rows.new.from.items m.items none ∙ ap (λ (x : FileValue). x.rows) c.self.view_is in
    subst (λ (rs : List Row). c.args.want ≤ length (encoded rs)) (sym rows) fits)
    m.enough
