-- What holds of all expressions.
use Rattle.std.specs.Prelude.{◌≡◌, List, Some, None}
use Rattle.std.specs.List.{flat_map, AllByRecursion}
use Rattle.row_defs.specs.declared.kind.Kind.{Kind}
use Rattle.row_defs.specs.Rows.{Row, kind_of, kinds_of}
use Rattle.row_defs.specs.Values.{Expr, expr_kind, value_of}
use Rattle.row_defs.specs.Expressions.{exprs_of, list_fault, one_fault, expr_words, HasWords}

-- the words of expressions are those expressions again, and they aren't refused
abbrev pub AreReadAgain : Type 0
AreReadAgain = (exprs : List Expr) → AllByRecursion HasWords exprs
    → (exprs_of (flat_map expr_words exprs) ≡ Some exprs) × (list_fault (flat_map expr_words exprs) ≡ None)

-- and the words of one expression aren't refused as one
abbrev pub IsReadAgain : Type 0
IsReadAgain = (e : Expr) → HasWords e → one_fault (expr_words e) ≡ None

-- a value has the kind of its expression
abbrev pub HaveTheirKinds : Type 0
HaveTheirKinds = (row : Row) (e : Expr) (kind : Kind) → expr_kind (kinds_of row) e ≡ Some kind → kind_of (value_of e row) ≡ kind
