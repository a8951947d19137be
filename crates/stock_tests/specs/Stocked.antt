-- Lines of two workers, as tests put them in stock.
use Rattle.std.specs.Prelude.{◌≡◌, ℕ, [], ◌∷◌, Option, Some}
use Rattle.row_defs.specs.declared.kind.Kind.TheVariants.{Int}
use Rattle.block_pool.specs.Handles.{PoolName}
use Rattle.dia_file.specs.Files.{FileValue, IsFileOf}
use Rattle.scatter.specs.Lines.{LineValue, Lines}

-- a line of numbers with these two parts
abbrev pub numbers_line : Option FileValue → Option FileValue → LineValue
numbers_line a b = record { kinds = Int ∷ []; parts = a ∷ b ∷ [] }

-- a file of numbers in this pool
pub record IsOfNumbers (pool : PoolName) (f : FileValue) : Type 0 where
  pub kinds : f.kinds ≡ Int ∷ []
  pub own : IsFileOf pool f

-- the line with this number has two parts of numbers in this pool
pub record IsStocked (pool : PoolName) (n : ℕ) (lines : Lines) : Type 0 where
  pub a : FileValue
  pub b : FileValue
  pub there : lines n ≡ Some (numbers_line (Some a) (Some b))
  pub is_a : IsOfNumbers pool a
  pub is_b : IsOfNumbers pool b
