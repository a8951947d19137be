use Rattle.std.proofs.Common.{ℕ, List, sym, subst}
use Rattle.row_defs.specs.Rows.{IsRow}
use Rattle.dia_item.specs.KindList.{kind_list}
use Rattle.mix_stream.proofs.stream.row_at.Goals as goal

pub known_row-requires : goal.known_row-requires
known_row-requires c =
    let r = c.requires in
    (r.0, subst (λ (l : List ℕ). IsRow (kind_list c.args.stream.now.kinds) l r.0) (sym (c.bytes_at.ensures r.1 r.2)) r.3)

pub returns : goal.returns
returns c row bytes at is =
    c.known_row.ensures row (subst (λ (l : List ℕ). IsRow (kind_list c.args.stream.now.kinds) l row) (sym (c.bytes_at.ensures bytes at)) is)
