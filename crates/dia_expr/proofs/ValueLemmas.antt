-- A value has the kind of its expression.
use Rattle.std.proofs.Common.{◌≡◌, ℕ, zero, suc, Bool, true, false, ◌==◌, [], ◌∷◌, Some, slice_get, slice_index_or, if◌then◌else◌, sym}
use Rattle.row_defs.specs.declared.kind.Kind.{Kind}
use Rattle.row_defs.specs.Rows.{Cell, int, Row, kind_of, kinds_of}
use Rattle.row_defs.specs.Values.{Expr, column, number, literal, math, is_zero, compare, choose, len, num, spelled, part, expr_kind, number_in, value_of}
use Rattle.dia_expr.specs.Typing.{HasKind}
use Rattle.dia_expr.proofs.KindLemmas.{HasKind-from}

column_kind : (row : Row) (i : ℕ) (k : Kind) → slice_get (kinds_of row) i ≡ Some k → kind_of (slice_index_or row i (int 0)) ≡ k
column_kind [] i k is = absurd cc
column_kind (cell ∷ row) zero k is = cc
column_kind (cell ∷ row) (suc i) k is = column_kind row i k is

chosen_kind : (b : Bool) (x y : Cell) (k : Kind) → kind_of x ≡ k → kind_of y ≡ k → kind_of (if b then y else x) ≡ k
chosen_kind true x y k p q = q
chosen_kind false x y k p q = p

value_kind : (row : Row) (e : Expr) (k : Kind) → HasKind (kinds_of row) e k → kind_of (value_of e row) ≡ k
value_kind row (column i) k h = column_kind row i k h
value_kind row (number n) k h = sym h
value_kind row (literal t) k h = sym h
value_kind row (math op a b) k h = sym h.0
value_kind row (is_zero a) k h = sym h.0
value_kind row (compare op x y) k h = sym h.0
value_kind row (choose c x y) k h =
    chosen_kind (number_in (value_of c row) == 0) (value_of x row) (value_of y row) k (value_kind row x k h.1) (value_kind row y k h.2)
value_kind row (len t) k h = sym h.0
value_kind row (num t) k h = sym h.0
value_kind row (spelled a) k h = sym h.0
value_kind row (part op a t) k h = sym h.0

pub value_kind-from : (row : Row) (e : Expr) (k : Kind) → expr_kind (kinds_of row) e ≡ Some k → kind_of (value_of e row) ≡ k
value_kind-from row e k is = value_kind row e k (HasKind-from (kinds_of row) e k is)
