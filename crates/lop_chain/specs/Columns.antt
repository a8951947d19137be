-- The expressions of the columns that a map makes.
use Rattle.std.specs.Prelude.{List, map}
use Rattle.row_defs.specs.Values.{Expr}
use Rattle.dia_expr.specs.Formulas.{formula_in}
use Rattle.lop_chain.specs.declared.number_column.NumberColumn.{NumberColumn}
use Rattle.lop_chain.specs.declared.columns.Columns as columns
use Rattle.lop_chain.specs.declared.columns.Columns.TheVariants.{Numbers, Any}
use Rattle.lop_chain.specs.Ops.{exprs_in}

abbrev pub number_in : NumberColumn → Expr
number_in column = formula_in column.formula

abbrev pub numbers_in : List NumberColumn → List Expr
numbers_in columns = map number_in columns

abbrev pub columns_in : columns.Columns → List Expr
columns_in (Numbers columns) = numbers_in columns.items
columns_in (Any exprs) = exprs_in exprs.items
