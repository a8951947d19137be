-- Reducers associate, and most commute.
use Rattle.std.proofs.Common.{◌≡◌, ℕ, bit_and, bit_or, bit_xor, Bool, true, false, List, if◌then◌else◌, refl, sym, ap, ◌∙◌, arith}
use Rattle.std.specs.Ordering.{nat_cmp, is_gt, is_eq, ordering_reverse}
use Rattle.std.specs.declared.cmp.Ordering.{Ordering}
use Rattle.std.specs.declared.cmp.Ordering.TheVariants.{Less, Equal, Greater}
use Rattle.std.specs.Cmp.Lexicographic.{slice_cmp, texts_ties, same_text}
use Rattle.std.proofs.lemmas.Cmp.{nat_list_cmp_total, upto}
use Rattle.std.proofs.lemmas.Nat.{xor_comm, and_comm, or_comm}
use Rattle.std.proofs.lemmas.Nat.Bits.{bit_at_xor, bit_at_and, bit_at_or, same_from_bits}
use Rattle.row_defs.specs.Rows.{Cell, int, text}
use Rattle.row_defs.specs.Values.{number_in, bytes_in}
use Rattle.fold_defs.specs.declared.named.Named.{Named}
use Rattle.fold_defs.specs.declared.named.Named.TheVariants.{Sum, Min, Max, Xor, And, Or, TextMin, TextMax, First, Last}
use Rattle.fold_defs.specs.Folds.{sums, smaller, larger, xors, ands, ors, comes_after, first_text, last_text, combined, commuting}

pub sums-assoc : (a b c : Cell) → sums (sums a b) c ≡ sums a (sums b c)
sums-assoc a b c = ap int (omega arith)

pub sums-comm : (a b : Cell) → sums a b ≡ sums b a
sums-comm a b = ap int (omega arith)

pub smaller-assoc : (a b c : Cell) → smaller (smaller a b) c ≡ smaller a (smaller b c)
smaller-assoc a b c = ap int (omega arith)

pub smaller-comm : (a b : Cell) → smaller a b ≡ smaller b a
smaller-comm a b = ap int (omega arith)

pub larger-assoc : (a b c : Cell) → larger (larger a b) c ≡ larger a (larger b c)
larger-assoc a b c = ap int (omega arith)

pub larger-comm : (a b : Cell) → larger a b ≡ larger b a
larger-comm a b = ap int (omega arith)

xor_assoc : (a b c : ℕ) → bit_xor (bit_xor a b) c ≡ bit_xor a (bit_xor b c)
xor_assoc a b c = same_from_bits _ _ (λ i. omega (arith, bit_at_xor (bit_xor a b) c i, bit_at_xor a b i, bit_at_xor a (bit_xor b c) i, bit_at_xor b c i))

and_assoc : (a b c : ℕ) → bit_and (bit_and a b) c ≡ bit_and a (bit_and b c)
and_assoc a b c = same_from_bits _ _ (λ i. omega (arith, bit_at_and (bit_and a b) c i, bit_at_and a b i, bit_at_and a (bit_and b c) i, bit_at_and b c i))

or_assoc : (a b c : ℕ) → bit_or (bit_or a b) c ≡ bit_or a (bit_or b c)
or_assoc a b c = same_from_bits _ _ (λ i. omega (arith, bit_at_or (bit_or a b) c i, bit_at_or a b i, bit_at_or a (bit_or b c) i, bit_at_or b c i))

pub xors-assoc : (a b c : Cell) → xors (xors a b) c ≡ xors a (xors b c)
xors-assoc a b c = ap int (xor_assoc (number_in a) (number_in b) (number_in c))

pub xors-comm : (a b : Cell) → xors a b ≡ xors b a
xors-comm a b = ap int (xor_comm (number_in a) (number_in b))

pub ands-assoc : (a b c : Cell) → ands (ands a b) c ≡ ands a (ands b c)
ands-assoc a b c = ap int (and_assoc (number_in a) (number_in b) (number_in c))

pub ands-comm : (a b : Cell) → ands a b ≡ ands b a
ands-comm a b = ap int (and_comm (number_in a) (number_in b))

pub ors-assoc : (a b c : Cell) → ors (ors a b) c ≡ ors a (ors b c)
ors-assoc a b c = ap int (or_assoc (number_in a) (number_in b) (number_in c))

pub ors-comm : (a b : Cell) → ors a b ≡ ors b a
ors-comm a b = ap int (or_comm (number_in a) (number_in b))

-- texts ---------------------------------------------------------------------------------------------------------

greater_is : (r : Ordering) → is_gt r ≡ true → r ≡ Greater
greater_is Less e = cc
greater_is Equal e = cc
greater_is Greater e = refl

equal_is : (r s : Ordering) → r ≡ ordering_reverse s → is_gt r ≡ false → is_gt s ≡ false → r ≡ Equal
equal_is Less s e p q = by s e q
  where
    by : (s : Ordering) → Less ≡ ordering_reverse s → is_gt s ≡ false → Less ≡ Equal
    by Less e q = cc
    by Equal e q = cc
    by Greater e q = cc
equal_is Equal s e p q = refl
equal_is Greater s e p q = cc

chains : (a b c : List ℕ) → comes_after a b ≡ true → comes_after b c ≡ true → comes_after a c ≡ true
chains a b c p q =
    let o = nat_list_cmp_total in
    let before : slice_cmp nat_cmp b a ≡ Less = o.antisymm b a ∙ ap ordering_reverse (greater_is _ p) in
    let after : slice_cmp nat_cmp c b ≡ Less = o.antisymm c b ∙ ap ordering_reverse (greater_is _ q) in
    ap is_gt (o.antisymm a c ∙ ap ordering_reverse (o.trans c b a after before))

turns : (a b : List ℕ) → comes_after a b ≡ true → comes_after b a ≡ false
turns a b p = ap is_gt (nat_list_cmp_total.antisymm b a ∙ ap ordering_reverse (greater_is _ p))

level : (a b : List ℕ) → comes_after a b ≡ false → comes_after b a ≡ false → a ≡ b
level a b p q =
    let e : slice_cmp nat_cmp a b ≡ Equal = equal_is _ _ (nat_list_cmp_total.antisymm a b) p q in
    same_text a b (sym (texts_ties a b ∙ ap is_eq e))

abbrev first : List ℕ → List ℕ → List ℕ
first s t = if comes_after s t then t else s

abbrev last : List ℕ → List ℕ → List ℕ
last s t = if comes_after s t then s else t

first_by : (a b c : List ℕ) (p q : Bool) → comes_after a b ≡ p → comes_after b c ≡ q → first (first a b) c ≡ first a (first b c)
first_by a b c true true p q = rw (p, q, chains a b c p q) refl
first_by a b c true false p q = rw (q, p, q) refl
first_by a b c false true p q = rw (p, q) refl
first_by a b c false false p q = rw (q, p, upto nat_list_cmp_total a b c p q) refl

last_by : (a b c : List ℕ) (p q : Bool) → comes_after a b ≡ p → comes_after b c ≡ q → last (last a b) c ≡ last a (last b c)
last_by a b c true true p q = rw (q, p, chains a b c p q) refl
last_by a b c true false p q = rw (p, q) refl
last_by a b c false true p q = rw (q, p, q) refl
last_by a b c false false p q = rw (p, q, upto nat_list_cmp_total a b c p q) refl

first_turned : (a b : List ℕ) (p q : Bool) → comes_after a b ≡ p → comes_after b a ≡ q → first a b ≡ first b a
first_turned a b true q p e = rw (p, turns a b p) refl
first_turned a b false true p e = rw (p, e) refl
first_turned a b false false p e = rw (p, e) (level a b p e)

last_turned : (a b : List ℕ) (p q : Bool) → comes_after a b ≡ p → comes_after b a ≡ q → last a b ≡ last b a
last_turned a b true q p e = rw (p, turns a b p) refl
last_turned a b false true p e = rw (p, e) refl
last_turned a b false false p e = rw (p, e) (sym (level a b p e))

pub first_text-assoc : (a b c : Cell) → first_text (first_text a b) c ≡ first_text a (first_text b c)
first_text-assoc a b c = ap text (first_by (bytes_in a) (bytes_in b) (bytes_in c) _ _ refl refl)

pub first_text-comm : (a b : Cell) → first_text a b ≡ first_text b a
first_text-comm a b = ap text (first_turned (bytes_in a) (bytes_in b) _ _ refl refl)

pub last_text-assoc : (a b c : Cell) → last_text (last_text a b) c ≡ last_text a (last_text b c)
last_text-assoc a b c = ap text (last_by (bytes_in a) (bytes_in b) (bytes_in c) _ _ refl refl)

pub last_text-comm : (a b : Cell) → last_text a b ≡ last_text b a
last_text-comm a b = ap text (last_turned (bytes_in a) (bytes_in b) _ _ refl refl)

-- the ten ------------------------------------------------------------------------------------------------------

pub combined-assoc : (by : Named) (a b c : Cell) → combined by (combined by a b) c ≡ combined by a (combined by b c)
combined-assoc Sum = sums-assoc
combined-assoc Min = smaller-assoc
combined-assoc Max = larger-assoc
combined-assoc Xor = xors-assoc
combined-assoc And = ands-assoc
combined-assoc Or = ors-assoc
combined-assoc TextMin = first_text-assoc
combined-assoc TextMax = last_text-assoc
combined-assoc First = λ a b c. refl
combined-assoc Last = λ a b c. refl

pub combined-comm : (by : Named) → commuting by ≡ true → (a b : Cell) → combined by a b ≡ combined by b a
combined-comm Sum e = sums-comm
combined-comm Min e = smaller-comm
combined-comm Max e = larger-comm
combined-comm Xor e = xors-comm
combined-comm And e = ands-comm
combined-comm Or e = ors-comm
combined-comm TextMin e = first_text-comm
combined-comm TextMax e = last_text-comm
combined-comm First e = cc
combined-comm Last e = cc
