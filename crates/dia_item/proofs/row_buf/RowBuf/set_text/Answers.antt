use Rattle.std.proofs.Common.{arith, refl, ap, ◌∙◌, List, ℕ, [], ◌∷◌, ◌++◌, length}
use Rattle.row_defs.specs.declared.kind.Kind.TheVariants.{Text}
use Rattle.dia_item.specs.declared.row_buf.RowBuf.TheInside.{Inside}
use Rattle.row_defs.specs.Rows.{text, bytes_of_u32}
use Rattle.dia_item.proofs.BufLemmas.{Copied, copied_row, copied_room, alone}
use Rattle.dia_item.proofs.row_buf.RowBuf.set_text.Goals as goal

abbrev after : goal.After-append → Inside
after c = record { kinds = c.set_kind.new.kinds; bytes = c.append.new.bytes }

copied : (c : goal.After-append) → Copied (Text ∷ []) (bytes_of_u32 (length c.args.t.now) ++ c.args.t.now) (text c.args.t.now ∷ []) (after c)
copied c =
    let prefix = c.append_u32.ensures.items ∙ ap (λ (xs : List ℕ). xs ++ bytes_of_u32 (length c.args.t.now)) c.clear.ensures.items in
    alone Text (bytes_of_u32 (length c.args.t.now) ++ c.args.t.now) (text c.args.t.now) (after c) (c.requires, refl) c.set_kind.ensures
    (c.append.ensures.items ∙ ap (λ (xs : List ℕ). xs ++ c.args.t.now) prefix)
    (omega (arith, c.append.ensures.capacity, c.append_u32.ensures.capacity, c.clear.ensures.capacity, c.self.invariant.room))

pub invariant_of-self : goal.invariant_of-self
invariant_of-self c = copied_room _ _ _ (after c) (copied c)

pub returns : goal.returns
returns c = copied_row _ _ _ (after c) (copied c)
