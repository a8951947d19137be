-- The statements of the definitions that the code's statements stand for.
use Rattle.std.specs.Prelude.{map}
use Rattle.row_defs.specs.LocalOps.{map_op, filter_op, words_op, spread_op}
use Rattle.script_defs.specs.Scripts.{Form, lines_form, generate_form, local_form, cache_form, Action, print_action, size_action, sum_action, Statement, line, act, Numbered}
use Rattle.dia_expr.specs.Exprs.{expr_in}
use Rattle.script_read.specs.declared.statement.Form as forms
use Rattle.script_read.specs.declared.statement.Form.TheVariants.{Lines, Generate, Map, Filter, Words, Spread, Cache}
use Rattle.script_read.specs.declared.statement.Action as actions
use Rattle.script_read.specs.declared.statement.Action.TheVariants.{Print, Size, Sum}
use Rattle.script_read.specs.declared.statement.Statement as statements
use Rattle.script_read.specs.declared.statement.Statement.TheVariants.{Line, Act}
use Rattle.script_read.specs.declared.statement.Numbered as numbereds

abbrev pub form_in : forms.Form → Form
form_in (Lines input) = lines_form input
form_in (Generate count) = generate_form count
form_in (Map of exprs) = local_form of (map_op (map expr_in exprs.items))
form_in (Filter of test) = local_form of (filter_op (expr_in test))
form_in (Words of column) = local_form of (words_op column)
form_in (Spread of column count) = local_form of (spread_op column count)
form_in (Cache of) = cache_form of

abbrev pub action_in : actions.Action → Action
action_in (Print of) = print_action of
action_in (Size of) = size_action of
action_in (Sum of column) = sum_action of column

abbrev pub statement_in : statements.Statement → Statement
statement_in (Line name form) = line name (form_in form)
statement_in (Act action) = act (action_in action)

abbrev pub numbered_in : numbereds.Numbered → Numbered
numbered_in n = record { number = n.line; statement = statement_in n.statement }
