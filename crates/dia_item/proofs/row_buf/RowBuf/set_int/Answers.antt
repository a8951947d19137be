use Rattle.std.proofs.Common.{arith, refl, ap, ◌∙◌, List, ℕ, [], ◌∷◌, ◌++◌}
use Rattle.row_defs.specs.declared.kind.Kind.TheVariants.{Int}
use Rattle.dia_item.specs.declared.row_buf.RowBuf.TheInside.{Inside}
use Rattle.row_defs.specs.Rows.{int, bytes_of_u64}
use Rattle.dia_item.proofs.BufLemmas.{Copied, copied_row, copied_room, alone}
use Rattle.dia_item.proofs.row_buf.RowBuf.set_int.Goals as goal

abbrev after : goal.After-append_u64 → Inside
after c = record { kinds = c.set_kind.new.kinds; bytes = c.append_u64.new.bytes }

copied : (c : goal.After-append_u64) → Copied (Int ∷ []) (bytes_of_u64 c.args.v) (int c.args.v ∷ []) (after c)
copied c =
    alone Int (bytes_of_u64 c.args.v) (int c.args.v) (after c) (omega arith, refl) c.set_kind.ensures
    (c.append_u64.ensures.items ∙ ap (λ (xs : List ℕ). xs ++ bytes_of_u64 c.args.v) c.clear.ensures.items)
    (omega (arith, c.append_u64.ensures.capacity, c.clear.ensures.capacity, c.self.invariant.room))

pub invariant_of-self : goal.invariant_of-self
invariant_of-self c = copied_room _ _ _ (after c) (copied c)

pub returns : goal.returns
returns c = copied_row _ _ _ (after c) (copied c)
