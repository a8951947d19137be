use Rattle.dia_item.proofs.RowLemmas.{row_found, no_prefix, no_back, no_kinds}
use Rattle.dia_item.proofs.read.+fields_len.Goals as goal

pub returns-in_default-clause-none : goal.returns-in_default-clause-none
returns-in_default-clause-none t c = rw c.in-Some.ensures.cases.0 (no_prefix _ _ _ c.in_default.ensures.none)

pub returns-in_default-fields_len-clause-none : goal.returns-in_default-fields_len-clause-none
returns-in_default-fields_len-clause-none t c =
    rw c.in-Some.ensures.cases.0 (no_back _ _ _ _ c.in-Some-field_len.ensures.len.1 (rw c.split_at.ensures.back at c.in_default-fields_len.ensures.none))

pub returns-in-Some-fields_len-clause-found : goal.returns-in-Some-fields_len-clause-found
returns-in-Some-fields_len-clause-found t c =
    rw c.in-Some.ensures.cases.0 (row_found _ _ _ _ _ c.in-Some-field_len.ensures.len.1 c.in-Some-field_len.ensures.found (rw c.split_at.ensures.back at c.in-Some-fields_len.ensures.found))

pub returns-in-None-clause-found : goal.returns-in-None-clause-found
returns-in-None-clause-found t c = no_kinds _ _ c.in-None.ensures.cases
