use Rattle.std.proofs.Common.{arith, ◌∙◌, ap, ◌++◌, List, ℕ, Some, length-take}
use Rattle.dia_item.specs.declared.row_buf.RowBuf.TheInside.{Inside}
use Rattle.dia_item.specs.Lent.{row_in_ref}
use Rattle.row_defs.specs.Rows.{kinds_of}
use Rattle.dia_item.proofs.BufLemmas.{Copied, copied_row, copied_room}
use Rattle.dia_item.proofs.row_buf.RowBuf.copy.Goals as goal

abbrev after : goal.After-append → Inside
after c = record { kinds = Some c.kinds.result; bytes = c.append.new.bytes }

copied : (c : goal.After-append) → Copied (kinds_of (row_in_ref c.args.row)) c.bytes-bytes.result.now (row_in_ref c.args.row) (after c)
copied c = record {
  is = c.bytes-bytes.ensures.row;
  kinds = c.kinds.ensures;
  items = c.append.ensures.items ∙ ap (λ (xs : List ℕ). xs ++ c.bytes-bytes.result.now) c.clear.ensures.items;
  columns = omega (arith, length-take c.kinds.result.count c.kinds.result.all, c.kinds.result.most);
  room = omega (arith, c.append.ensures.capacity, c.clear.ensures.capacity, c.self.invariant.room);
}

pub invariant_of-self : goal.invariant_of-self
invariant_of-self c = copied_room _ _ _ (after c) (copied c)

pub returns : goal.returns
returns c = copied_row _ _ _ (after c) (copied c)
