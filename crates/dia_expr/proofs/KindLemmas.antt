-- An expression has at most one kind, and it is the one that the forms give.
use Rattle.std.proofs.Common.{◌≡◌, length, List, Option, None, Some, Bool, true, false, ◌&&◌, ◌||◌, IsSome, refl, sym, ap, ◌∙◌, subst}
use Rattle.std.proofs.lemmas.Bool.{lt-leb}
use Rattle.std.proofs.lemmas.Option.{slice_get_within}
use Rattle.row_defs.specs.declared.kind.Kind.{Kind}
use Rattle.row_defs.specs.declared.kind.Kind.TheVariants.{Int, Text}
use Rattle.row_defs.specs.Values.{Expr, column, number, literal, math, is_zero, compare, choose, len, num, spelled, part, expr_kind, is_int, is_text, are_alike, kind_where, lacks_column}
use Rattle.dia_expr.specs.Typing.{HasKind, is_numeric}
use Rattle.dia_item.proofs.TestLemmas.{and_split}

pub HasKind-unique : (kinds : List Kind) (e : Expr) (k l : Kind) → HasKind kinds e k → HasKind kinds e l → k ≡ l
HasKind-unique kinds (column i) k l p q = cc
HasKind-unique kinds (number n) k l p q = p ∙ sym q
HasKind-unique kinds (literal t) k l p q = p ∙ sym q
HasKind-unique kinds (math op a b) k l p q = p.0 ∙ sym q.0
HasKind-unique kinds (is_zero a) k l p q = p.0 ∙ sym q.0
HasKind-unique kinds (compare op x y) k l p q = p.0 ∙ sym q.0
HasKind-unique kinds (choose c x y) k l p q = HasKind-unique kinds x k l p.1 q.1
HasKind-unique kinds (len t) k l p q = p.0 ∙ sym q.0
HasKind-unique kinds (num t) k l p q = p.0 ∙ sym q.0
HasKind-unique kinds (spelled a) k l p q = p.0 ∙ sym q.0
HasKind-unique kinds (part op a t) k l p q = p.0 ∙ sym q.0

-- the kind of a part is that of the whole
pub same_kind : (kinds : List Kind) (x e : Expr) (k l : Kind) → HasKind kinds x k → HasKind kinds x l → HasKind kinds e k → HasKind kinds e l
same_kind kinds x e k l p q h = let P : Kind → Type 0 = λ m. HasKind kinds e m in subst P (HasKind-unique kinds x k l p q) h

pub int_from : (k : Option Kind) → is_int k ≡ true → k ≡ Some Int
int_from None is = absurd cc
int_from (Some Int) is = refl
int_from (Some Text) is = absurd cc

pub text_from : (k : Option Kind) → is_text k ≡ true → k ≡ Some Text
text_from None is = absurd cc
text_from (Some Int) is = absurd cc
text_from (Some Text) is = refl

where_from : (b : Bool) (k : Option Kind) (l : Kind) → kind_where b k ≡ Some l → (b ≡ true) × (k ≡ Some l)
where_from true k l is = (refl, is)
where_from false k l is = absurd cc

alike_from : (x y : Option Kind) → are_alike x y ≡ true → (k : Kind) × (x ≡ Some k) × (y ≡ Some k)
alike_from None None is = absurd cc
alike_from None (Some _) is = absurd cc
alike_from (Some Int) None is = absurd cc
alike_from (Some Text) None is = absurd cc
alike_from (Some Int) (Some Int) is = (Int, refl, refl)
alike_from (Some Text) (Some Text) is = (Text, refl, refl)
alike_from (Some Int) (Some Text) is = absurd cc
alike_from (Some Text) (Some Int) is = absurd cc

-- an expression that has a kind has it form by form
pub HasKind-from : (kinds : List Kind) (e : Expr) (k : Kind) → expr_kind kinds e ≡ Some k → HasKind kinds e k
HasKind-from kinds (column i) k is = is
HasKind-from kinds (number n) k is = cc
HasKind-from kinds (literal t) k is = cc
HasKind-from kinds (math op a b) k is =
    let w = where_from (is_int (expr_kind kinds a) && is_int (expr_kind kinds b)) (Some Int) k is in
    let p = and_split (is_int (expr_kind kinds a)) (is_int (expr_kind kinds b)) w.0 in
    (cc (w.1), HasKind-from kinds a Int (int_from (expr_kind kinds a) p.0), HasKind-from kinds b Int (int_from (expr_kind kinds b) p.1))
HasKind-from kinds (is_zero a) k is =
    let w = where_from (is_int (expr_kind kinds a)) (Some Int) k is in
    (cc (w.1), HasKind-from kinds a Int (int_from (expr_kind kinds a) w.0))
HasKind-from kinds (compare op x y) k is =
    let w = where_from (are_alike (expr_kind kinds x) (expr_kind kinds y)) (Some Int) k is in
    let p = alike_from (expr_kind kinds x) (expr_kind kinds y) w.0 in
    (cc (w.1), (p.0, HasKind-from kinds x p.0 p.1, HasKind-from kinds y p.0 p.2))
HasKind-from kinds (choose c x y) k is =
    let w = where_from (is_int (expr_kind kinds c) && are_alike (expr_kind kinds x) (expr_kind kinds y)) (expr_kind kinds x) k is in
    let p = and_split (is_int (expr_kind kinds c)) (are_alike (expr_kind kinds x) (expr_kind kinds y)) w.0 in
    let q = alike_from (expr_kind kinds x) (expr_kind kinds y) p.1 in
    let same : expr_kind kinds y ≡ Some k = q.2 ∙ sym q.1 ∙ w.1 in
    (HasKind-from kinds c Int (int_from (expr_kind kinds c) p.0), HasKind-from kinds x k w.1, HasKind-from kinds y k same)
HasKind-from kinds (len t) k is =
    let w = where_from (is_text (expr_kind kinds t)) (Some Int) k is in
    (cc (w.1), HasKind-from kinds t Text (text_from (expr_kind kinds t) w.0))
HasKind-from kinds (num t) k is =
    let w = where_from (is_text (expr_kind kinds t)) (Some Int) k is in
    (cc (w.1), HasKind-from kinds t Text (text_from (expr_kind kinds t) w.0))
HasKind-from kinds (spelled a) k is =
    let w = where_from (is_int (expr_kind kinds a)) (Some Text) k is in
    (cc (w.1), HasKind-from kinds a Int (int_from (expr_kind kinds a) w.0))
HasKind-from kinds (part op a t) k is =
    let w = where_from (is_int (expr_kind kinds a) && is_text (expr_kind kinds t)) (Some Text) k is in
    let p = and_split (is_int (expr_kind kinds a)) (is_text (expr_kind kinds t)) w.0 in
    (cc (w.1), HasKind-from kinds a Int (int_from (expr_kind kinds a) p.0), HasKind-from kinds t Text (text_from (expr_kind kinds t) p.1))

pub HasKind-some : (kinds : List Kind) (e : Expr) → IsSome (expr_kind kinds e) → (k : Kind) × HasKind kinds e k
HasKind-some kinds e some = go (expr_kind kinds e) refl some
  where
    go : (k : Option Kind) → expr_kind kinds e ≡ k → IsSome k → (l : Kind) × HasKind kinds e l
    go None is some = absurd cc
    go (Some k) is some = (k, HasKind-from kinds e k is)

HasKind-columns : (kinds : List Kind) (e : Expr) (k : Kind) → HasKind kinds e k → lacks_column (length kinds) e ≡ false
HasKind-columns kinds (column i) k h = lt-leb (length kinds) i (slice_get_within kinds i k h)
HasKind-columns kinds (number n) k h = refl
HasKind-columns kinds (literal t) k h = refl
HasKind-columns kinds (math op a b) k h = rw (HasKind-columns kinds a Int h.1, HasKind-columns kinds b Int h.2) refl
HasKind-columns kinds (is_zero a) k h = HasKind-columns kinds a Int h.1
HasKind-columns kinds (compare op x y) k h = rw (HasKind-columns kinds x h.1.0 h.1.1, HasKind-columns kinds y h.1.0 h.1.2) refl
HasKind-columns kinds (choose c x y) k h =
    rw (HasKind-columns kinds c Int h.0, HasKind-columns kinds x k h.1, HasKind-columns kinds y k h.2) refl
HasKind-columns kinds (len t) k h = HasKind-columns kinds t Text h.1
HasKind-columns kinds (num t) k h = HasKind-columns kinds t Text h.1
HasKind-columns kinds (spelled a) k h = HasKind-columns kinds a Int h.1
HasKind-columns kinds (part op a t) k h = rw (HasKind-columns kinds a Int h.1, HasKind-columns kinds t Text h.2) refl

-- where a column isn't there the expression has no kind
pub no_kind : (kinds : List Kind) (e : Expr) → lacks_column (length kinds) e ≡ true → expr_kind kinds e ≡ None
no_kind kinds e lacks = go (expr_kind kinds e) refl
  where
    go : (k : Option Kind) → expr_kind kinds e ≡ k → k ≡ None
    go None is = refl
    go (Some k) is = absurd (cc (lacks, HasKind-columns kinds e k (HasKind-from kinds e k is)))

either_from : (a b : Bool) (P : Type 0) → (a || b) ≡ true → (a ≡ true → P) → (b ≡ true → P) → P
either_from true b P is p q = p refl
either_from false b P is p q = q is

-- an expression whose form tells that it makes numbers makes some wherever it has a kind
pub numeric_kind : (kinds : List Kind) (e : Expr) (k : Kind) → is_numeric e ≡ true → HasKind kinds e k → k ≡ Int
numeric_kind kinds (column i) k is h = absurd cc
numeric_kind kinds (number n) k is h = h
numeric_kind kinds (literal t) k is h = absurd cc
numeric_kind kinds (math op a b) k is h = h.0
numeric_kind kinds (is_zero a) k is h = h.0
numeric_kind kinds (compare op x y) k is h = h.0
numeric_kind kinds (choose c x y) k is h =
    either_from (is_numeric x) (is_numeric y) (k ≡ Int) is (λ e. numeric_kind kinds x k e h.1) (λ e. numeric_kind kinds y k e h.2)
numeric_kind kinds (len t) k is h = h.0
numeric_kind kinds (num t) k is h = h.0
numeric_kind kinds (spelled a) k is h = absurd cc
numeric_kind kinds (part op a t) k is h = absurd cc

pub numeric_int : (kinds : List Kind) (e : Expr) → is_numeric e ≡ true → IsSome (expr_kind kinds e) → expr_kind kinds e ≡ Some Int
numeric_int kinds e is some = go (expr_kind kinds e) refl some
  where
    go : (k : Option Kind) → expr_kind kinds e ≡ k → IsSome k → expr_kind kinds e ≡ Some Int
    go None at some = absurd cc
    go (Some k) at some = at ∙ ap Some (numeric_kind kinds e k is (HasKind-from kinds e k at))
