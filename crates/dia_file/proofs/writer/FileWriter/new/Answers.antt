use Rattle.std.proofs.Common.{refl, ◌<◌, ◌≤◌, length}
use Rattle.dia_item.specs.KindList.{kind_list}
use Rattle.dia_file.proofs.WriterLemmas.{empty_writer, empty_rows}
use Rattle.dia_file.proofs.writer.FileWriter.new.Goals as goal

pub invariant_of-result : goal.invariant_of-result
invariant_of-result c =
    let some : 0 < length (kind_list c.args.kinds) = rw (← c.list-list.ensures.list) c.list-list.ensures.some in
    let most : length (kind_list c.args.kinds) ≤ 6 = rw (← c.list-list.ensures.list) c.list-list.ensures.most in
    empty_writer _ c.new.ensures.items refl refl refl refl c.requires some most

pub returns-clause-rows : goal.returns-clause-rows
returns-clause-rows c =
    let some : 0 < length (kind_list c.args.kinds) = rw (← c.list-list.ensures.list) c.list-list.ensures.some in
    let most : length (kind_list c.args.kinds) ≤ 6 = rw (← c.list-list.ensures.list) c.list-list.ensures.most in
    empty_rows _ c.new.ensures.items refl refl refl refl c.requires some most
