-- What statement a line is, by its word and by what its places hold.
use Rattle.std.specs.Prelude.{ℕ, List, [], ◌∷◌, Option, None, Some}
use Rattle.row_defs.specs.Values.{Expr, number}
use Rattle.row_defs.specs.LocalOps.{LocalOp, map_op, filter_op, words_op, spread_op}
use Rattle.script_defs.specs.declared.word.Word.{Word}
use Rattle.script_defs.specs.declared.word.Word.TheVariants.{Lines, Generate, Map, Filter, FlatMap, Cache, Print, Size, Sum}
use Rattle.script_defs.specs.declared.word.Selector.{Selector}
use Rattle.script_defs.specs.declared.word.Selector.TheVariants.{Words, Spread}
use Rattle.script_defs.specs.Scripts.{Statement, line, act, lines_form, generate_form, local_form, cache_form, print_action, size_action, sum_action}

-- what a line says behind its word: a selector, the operands' lines, a number, a column, expressions, and its first word
pub record Said : Type 0 where
  pub selector : Option Selector
  pub operands : List ℕ
  pub number : ℕ
  pub column : ℕ
  pub exprs : List Expr
  pub first : List ℕ

abbrev pub first_operand : List ℕ → ℕ
first_operand [] = 0
first_operand (of ∷ more) = of

abbrev pub first_expr : List Expr → Expr
first_expr [] = number 0
first_expr (e ∷ exprs) = e

-- an unknown selector is refused
abbrev pub op_selected : Option Selector → ℕ → ℕ → LocalOp
op_selected None column count = words_op column
op_selected (Some Words) column count = words_op column
op_selected (Some Spread) column count = spread_op column count

-- the statement that a line without a cause is
abbrev pub statement_of : List ℕ → Word → Said → Statement
statement_of name Lines said = line name (lines_form said.first)
statement_of name Generate said = line name (generate_form said.number)
statement_of name Map said = line name (local_form (first_operand said.operands) (map_op said.exprs))
statement_of name Filter said = line name (local_form (first_operand said.operands) (filter_op (first_expr said.exprs)))
statement_of name FlatMap said = line name (local_form (first_operand said.operands) (op_selected said.selector said.column said.number))
statement_of name Cache said = line name (cache_form (first_operand said.operands))
statement_of name Print said = act (print_action (first_operand said.operands))
statement_of name Size said = act (size_action (first_operand said.operands))
statement_of name Sum said = act (sum_action (first_operand said.operands) said.column)
