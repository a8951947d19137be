use Rattle.std.proofs.Common.{◌∙◌, ap, sym, Some}
use Rattle.row_defs.specs.Rows.{Cell}
use Rattle.dia_item.proofs.Walking.{has_next, cell_next}
use Rattle.dia_item.proofs.row_ref.field_at.Goals as goal

pub split_field-requires : goal.split_field-requires
split_field-requires c = has_next c.args.kinds.now c.args.bytes.now c.args.i _ c.requires.within (record { has = c.from_column.ensures.has; row = c.from_column.ensures.row })

pub returns-clause-value : goal.returns-clause-value
returns-clause-value c =
    cell_next c.args.kinds.now c.args.bytes.now c.args.i c.from_column.result.now c.requires.within (record { has = c.from_column.ensures.has; row = c.from_column.ensures.row })
    ∙ ap (λ (cell : Cell). Some cell) (sym c.split_field.ensures.value)
