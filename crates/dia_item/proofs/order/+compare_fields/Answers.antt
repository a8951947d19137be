use Rattle.std.proofs.Common.{rules, ◌∙◌, sym}
use Rattle.dia_item.proofs.TestLemmas.{prefix_has}
use Rattle.dia_item.proofs.KeyLemmas.{cmp_none, cmp_equal, cmp_decided}
use Rattle.dia_item.proofs.order.+compare_fields.Goals as goal

pub returns-in_default : goal.returns-in_default
returns-in_default t c = cmp_none _ _ _ c.in_default.ensures.cases

pub split_field-requires : goal.split_field-requires
split_field-requires t c = (prefix_has _ _ _ (rw c.in-Some.ensures.cases.0 at c.requires.a)).0

pub split_field-requires-2 : goal.split_field-requires-2
split_field-requires-2 t c = (prefix_has _ _ _ (rw c.in-Some.ensures.cases.0 at c.requires.b)).0

pub compare_fields-requires : goal.compare_fields-requires
compare_fields-requires t c = (
  search rules,
  (
    rw c.split_field.ensures.rest (prefix_has _ _ _ (rw c.in-Some.ensures.cases.0 at c.requires.a)).1,
    rw c.split_field-2.ensures.rest (prefix_has _ _ _ (rw c.in-Some.ensures.cases.0 at c.requires.b)).1,
  ),
)

pub returns-in-Equal : goal.returns-in-Equal
returns-in-Equal t c =
    rw c.in-Some.ensures.cases.0 (
    cmp_equal _ _ _ _ _
    (rw (c.split_field.ensures.value, c.split_field-2.ensures.value) at (sym c.compare_cells.ensures ∙ c.in-Equal.is))
    (rw (c.split_field.ensures.rest, c.split_field-2.ensures.rest) at c.compare_fields.ensures))

pub returns-in_default-compare_cells : goal.returns-in_default-compare_cells
returns-in_default-compare_cells t c =
    rw c.in-Some.ensures.cases.0 (
    cmp_decided _ _ _ _ _
    (rw (c.split_field.ensures.value, c.split_field-2.ensures.value) at c.compare_cells.ensures)
    c.in_default-compare_cells.not-Equal)
