-- The local lines that are made ready.
use Rattle.std.specs.Prelude.{ℕ, Bool, true, false, List, map}
use Rattle.std.specs.List.{count_by}
use Rattle.row_defs.specs.LocalOps.{LocalOp, map_op, filter_op, words_op, spread_op}
use Rattle.dia_expr.specs.Formulas.{formula_in}
use Rattle.lop_chain.specs.declared.step.Step.{Step}
use Rattle.lop_chain.specs.declared.step.Step.TheVariants.{Map, Filter, Words, Spread}
use Rattle.lop_chain.specs.Columns.{columns_in}

abbrev pub step_in : Step → LocalOp
step_in (Map columns) = map_op (columns_in columns)
step_in (Filter formula) = filter_op (formula_in formula)
step_in (Words c) = words_op c
step_in (Spread c count) = spread_op c count

abbrev pub steps_in : List Step → List LocalOp
steps_in steps = map step_in steps

-- whether a line makes rows of its own, and so has a buffer
abbrev pub makes_rows : Step → Bool
makes_rows (Filter formula) = false
makes_rows _ = true

abbrev pub buffers_needed : List Step → ℕ
buffers_needed steps = count_by makes_rows steps
