-- What reducers make of cells.
use Rattle.std.specs.Prelude.{◌≡◌, ⊤, ℕ, ◌+◌, ◌%◌, ◌^◌, min, max, bit_and, bit_or, bit_xor, Bool, true, false, List, [], ◌∷◌, fold, Option, None, Some, if◌then◌else◌}
use Rattle.std.specs.Ordering.{nat_cmp, is_gt}
use Rattle.std.specs.Cmp.Lexicographic.{slice_cmp}
use Rattle.row_defs.specs.declared.kind.Kind.{Kind}
use Rattle.row_defs.specs.declared.kind.Kind.TheVariants.{Int, Text}
use Rattle.row_defs.specs.Rows.{Cell, int, text}
use Rattle.row_defs.specs.Values.{number_in, bytes_in}
use Rattle.fold_defs.specs.declared.named.Named.{Named}
use Rattle.fold_defs.specs.declared.named.Named.TheVariants.{Sum, Min, Max, Xor, And, Or, TextMin, TextMax, First, Last}

abbrev pub sums : Cell → Cell → Cell
sums l r = int ((number_in l + number_in r) % 2 ^ 64)

abbrev pub smaller : Cell → Cell → Cell
smaller l r = int (min (number_in l) (number_in r))

abbrev pub larger : Cell → Cell → Cell
larger l r = int (max (number_in l) (number_in r))

abbrev pub xors : Cell → Cell → Cell
xors l r = int (bit_xor (number_in l) (number_in r))

abbrev pub ands : Cell → Cell → Cell
ands l r = int (bit_and (number_in l) (number_in r))

abbrev pub ors : Cell → Cell → Cell
ors l r = int (bit_or (number_in l) (number_in r))

-- texts by their bytes, where a proper prefix comes first
abbrev pub comes_after : List ℕ → List ℕ → Bool
comes_after s t = is_gt (slice_cmp nat_cmp s t)

abbrev pub first_text : Cell → Cell → Cell
first_text l r = text (if comes_after (bytes_in l) (bytes_in r) then bytes_in r else bytes_in l)

abbrev pub last_text : Cell → Cell → Cell
last_text l r = text (if comes_after (bytes_in l) (bytes_in r) then bytes_in l else bytes_in r)

abbrev pub left_cell : Cell → Cell → Cell
left_cell l r = l

abbrev pub right_cell : Cell → Cell → Cell
right_cell l r = r

-- what a reducer makes of two cells
abbrev pub combined : Named → Cell → Cell → Cell
combined Sum = sums
combined Min = smaller
combined Max = larger
combined Xor = xors
combined And = ands
combined Or = ors
combined TextMin = first_text
combined TextMax = last_text
combined First = left_cell
combined Last = right_cell

-- the kinds that a reducer takes
abbrev pub Takes : Named → Kind → Type 0
Takes Sum kind = kind ≡ Int
Takes Min kind = kind ≡ Int
Takes Max kind = kind ≡ Int
Takes Xor kind = kind ≡ Int
Takes And kind = kind ≡ Int
Takes Or kind = kind ≡ Int
Takes TextMin kind = kind ≡ Text
Takes TextMax kind = kind ≡ Text
Takes First kind = ⊤
Takes Last kind = ⊤

abbrev pub commuting : Named → Bool
commuting First = false
commuting Last = false
commuting _ = true

-- the left fold of the cells, where there is one
abbrev pub folded : {X : Type 0} → (X → X → X) → List X → Option X
folded f [] = None
folded f (x ∷ xs) = Some (fold f x xs)

abbrev pub fold_of : Named → List Cell → Option Cell
fold_of by cells = folded (combined by) cells

-- what two folds come to
abbrev pub joined : {X : Type 0} → (X → X → X) → Option X → Option X → Option X
joined f None b = b
joined f (Some a) None = Some a
joined f (Some a) (Some b) = Some (f a b)
