-- Expressions that have a kind, form by form.
use Rattle.std.specs.Prelude.{◌≡◌, Bool, true, false, ◌||◌, List, Some, slice_get}
use Rattle.row_defs.specs.declared.kind.Kind.{Kind}
use Rattle.row_defs.specs.declared.kind.Kind.TheVariants.{Int, Text}
use Rattle.row_defs.specs.Values.{Expr, column, number, literal, math, is_zero, compare, choose, len, num, spelled, part}

-- on rows of these kinds the expression has this kind
abbrev pub HasKind : List Kind → Expr → Kind → Type 0
HasKind kinds (column i) kind = slice_get kinds i ≡ Some kind
HasKind kinds (number n) kind = kind ≡ Int
HasKind kinds (literal t) kind = kind ≡ Text
HasKind kinds (math op a b) kind = (kind ≡ Int) × HasKind kinds a Int × HasKind kinds b Int
HasKind kinds (is_zero a) kind = (kind ≡ Int) × HasKind kinds a Int
HasKind kinds (compare op x y) kind = (kind ≡ Int) × ((alike : Kind) × HasKind kinds x alike × HasKind kinds y alike)
HasKind kinds (choose c x y) kind = HasKind kinds c Int × HasKind kinds x kind × HasKind kinds y kind
HasKind kinds (len t) kind = (kind ≡ Int) × HasKind kinds t Text
HasKind kinds (num t) kind = (kind ≡ Int) × HasKind kinds t Text
HasKind kinds (spelled a) kind = (kind ≡ Text) × HasKind kinds a Int
HasKind kinds (part op a t) kind = (kind ≡ Text) × HasKind kinds a Int × HasKind kinds t Text

-- the expression compares two texts
abbrev pub ComparesTexts : List Kind → Expr → Type 0
ComparesTexts kinds (compare op x y) = HasKind kinds x Text × HasKind kinds y Text
ComparesTexts kinds _ = ⊥

-- the form alone tells that the expression makes numbers
abbrev pub is_numeric : Expr → Bool
is_numeric (column i) = false
is_numeric (number n) = true
is_numeric (literal t) = false
is_numeric (math op a b) = true
is_numeric (is_zero a) = true
is_numeric (compare op x y) = true
is_numeric (choose c x y) = is_numeric x || is_numeric y
is_numeric (len t) = true
is_numeric (num t) = true
is_numeric (spelled a) = false
is_numeric (part op a t) = false
