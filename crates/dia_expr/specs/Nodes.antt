-- The expressions that are computed where an expression is made ready.
use Rattle.std.specs.Prelude.{◌≡◌, List, Some}
use Rattle.row_defs.specs.declared.kind.Kind.{Kind}
use Rattle.row_defs.specs.declared.kind.Kind.TheVariants.{Int}
use Rattle.row_defs.specs.Rows.{Row}
use Rattle.row_defs.specs.Values.{quotient, remainder, Expr, column, number, literal, math, compare, len, num, expr_kind, value_of}
use Rattle.dia_expr.specs.declared.node.Node as nodes
use Rattle.dia_expr.specs.declared.node.Node.{Column, Number, OfColumn, WithNumber', Quotient', Remainder', OfTwo', Length, Numeral, Compared', ComparedText, Other}
use Rattle.dia_expr.specs.Exprs.{expr_in, math_in, comparison_in, literal_bytes}

abbrev pub node_in : nodes.Node → Expr
node_in (Column i) = column i
node_in (Number n) = number n
node_in (OfColumn op i n) = math (math_in op) (column i) (number n)
node_in (WithNumber' op _ a n) = math (math_in op) (node_in a) (number n)
node_in (Quotient' _ a d) = math quotient (node_in a) (number d.by)
node_in (Remainder' _ a d) = math remainder (node_in a) (number d.by)
node_in (OfTwo' op _ a _ b) = math (math_in op) (node_in a) (node_in b)
node_in (Length i) = len (column i)
node_in (Numeral i) = num (column i)
node_in (Compared' op _ a n) = compare (comparison_in op) (node_in a) (number n)
node_in (ComparedText op i t) = compare (comparison_in op) (column i) (literal (literal_bytes t))
node_in (Other e) = expr_in e

-- the first expression may stand for the second where that is of kind Int
pub record Computes (f e : Expr) : Type 0 where
  pub value : (row : Row) → value_of f row ≡ value_of e row
  pub kind : (kinds : List Kind) → expr_kind kinds e ≡ Some Int → expr_kind kinds f ≡ Some Int
