use Rattle.std.proofs.Common.{List, length, ap, arith}
use Rattle.std.proofs.lemmas.List.{length-map}
use Rattle.row_defs.specs.Rows.{kind_of}
use Rattle.row_defs.specs.declared.kind.Kind.{Kind}
use Rattle.file_tests.proofs.file.first_number.Goals as goal

pub row-requires : goal.row-requires
row-requires c =
    let e = ap (λ (ks : List Kind). length ks) c.requires in
    let len = length-map c.args.buffer.now kind_of in
    omega (arith, e, len)
