use Rattle.std.proofs.Common.{arith, refl, ap, ◌∙◌, [], ◌∷◌, ◌++◌, length}
use Rattle.row_defs.specs.declared.kind.Kind.TheVariants.{Int}
use Rattle.dia_item.specs.declared.row_buf.RowBuf.TheInside.{Inside}
use Rattle.dia_item.specs.KindList.{kinds_in}
use Rattle.row_defs.specs.Rows.{Row, int, bytes_of_u64}
use Rattle.dia_item.proofs.RowLemmas.{length-row_of}
use Rattle.dia_item.proofs.Numbers.{length-bytes_of_u64}
use Rattle.dia_item.proofs.BufLemmas.{Grown, grown_row, grown_room}
use Rattle.dia_item.proofs.row_buf.RowBuf.push_int.Goals as goal

abbrev after : goal.After-append_u64 → Inside
after c = record { kinds = c.push_kind.new.kinds; bytes = c.append_u64.new.bytes }

grown : (c : goal.After-append_u64) → Grown c.self.inside Int (bytes_of_u64 c.args.v) (int c.args.v) (after c)
grown c = record {
  kinds = c.push_kind.ensures;
  items = c.append_u64.ensures.items;
  capacity = c.append_u64.ensures.capacity;
  field = (omega arith, refl);
  short = omega (arith, length-bytes_of_u64 c.args.v);
  columns = omega (arith, ap (λ (row : Row). length row) c.self.view_is, length-row_of (kinds_in c.self.inside.kinds) c.self.inside.bytes.items);
}

pub invariant_of-self : goal.invariant_of-self
invariant_of-self c = grown_room c.self.inside Int (bytes_of_u64 c.args.v) (int c.args.v) (after c) c.self.invariant (grown c)

pub returns : goal.returns
returns c = grown_row c.self.inside Int (bytes_of_u64 c.args.v) (int c.args.v) (after c) c.self.invariant (grown c) ∙ ap (λ (row : Row). row ++ int c.args.v ∷ []) c.self.view_is
