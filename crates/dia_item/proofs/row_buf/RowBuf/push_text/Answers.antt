use Rattle.std.proofs.Common.{arith, refl, ap, ◌∙◌, List, [], ◌∷◌, ◌++◌, ℕ, length, append_assoc, length-append}
use Rattle.row_defs.specs.declared.kind.Kind.TheVariants.{Text}
use Rattle.dia_item.specs.declared.row_buf.RowBuf.TheInside.{Inside}
use Rattle.dia_item.specs.KindList.{kinds_in}
use Rattle.row_defs.specs.Rows.{Row, text, bytes_of_u32}
use Rattle.dia_item.proofs.RowLemmas.{length-row_of}
use Rattle.dia_item.proofs.Numbers.{length-bytes_of_u32}
use Rattle.dia_item.proofs.BufLemmas.{Grown, grown_row, grown_room}
use Rattle.dia_item.proofs.row_buf.RowBuf.push_text.Goals as goal

abbrev after : goal.After-append → Inside
after c = record { kinds = c.push_kind.new.kinds; bytes = c.append.new.bytes }

grown : (c : goal.After-append) → Grown c.self.inside Text (bytes_of_u32 (length c.args.t.now) ++ c.args.t.now) (text c.args.t.now) (after c)
grown c = record {
  kinds = c.push_kind.ensures;
  items = c.append.ensures.items ∙ ap (λ (xs : List ℕ). xs ++ c.args.t.now) c.append_u32.ensures.items ∙ append_assoc c.self.inside.bytes.items (bytes_of_u32 (length c.args.t.now)) c.args.t.now;
  capacity = omega (arith, c.append.ensures.capacity, c.append_u32.ensures.capacity);
  field = (c.requires.short, refl);
  short = omega (arith, length-append (bytes_of_u32 (length c.args.t.now)) c.args.t.now, length-bytes_of_u32 (length c.args.t.now));
  columns = omega (arith, ap (λ (row : Row). length row) c.self.view_is, length-row_of (kinds_in c.self.inside.kinds) c.self.inside.bytes.items);
}

pub invariant_of-self : goal.invariant_of-self
invariant_of-self c = grown_room c.self.inside Text (bytes_of_u32 (length c.args.t.now) ++ c.args.t.now) (text c.args.t.now) (after c) c.self.invariant (grown c)

pub returns : goal.returns
returns c =
    grown_row c.self.inside Text (bytes_of_u32 (length c.args.t.now) ++ c.args.t.now) (text c.args.t.now) (after c) c.self.invariant (grown c)
    ∙ ap (λ (row : Row). row ++ text c.args.t.now ∷ []) c.self.view_is
