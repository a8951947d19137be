-- What a stock holds.
use Rattle.std.specs.Prelude.{◌≡◌, ℕ, ◌<◌, Bool, true, false, List, All, Option, None, Some, length, ⊤}
use Rattle.std.specs.List.{AllZip}
use Rattle.row_defs.specs.declared.kind.Kind.{Kind}
use Rattle.row_defs.specs.Operands.{Root, stored_root, count_root}
use Rattle.block_pool.specs.Handles.{PoolName, AreOfPool}
use Rattle.dia_file.specs.Files.{FileValue, IsFileOf}
use Rattle.scatter.specs.declared.stock.Stock.TheInside.{Inside}
use Rattle.scatter.specs.Feeds.{FeedValue}
use Rattle.scatter.specs.Lines.{LineValue, Lines, lines_among, entries_of, lines_in, HasKinds, with_parts, all_lent}

pub record StockValue (X : Type 0) : Type 0 where
  pub net : X
  pub workers : ℕ
  pub entries : List (ℕ × LineValue)

abbrev pub stock_value : {X : Type 0} → Inside X → StockValue X
stock_value s = record { net = s.net; workers = s.workers; entries = entries_of s.lines }

-- the lines in stock, by number
abbrev pub lines_of : {X : Type 0} → StockValue X → Lines
lines_of s = lines_among s.entries

-- a part that is there has the kinds
abbrev pub PartHasKinds : List Kind → Option FileValue → Type 0
PartHasKinds kinds None = ⊤
PartHasKinds kinds (Some f) = HasKinds kinds f

pub record IsLine (workers : ℕ) (line : LineValue) : Type 0 where
  pub count : length line.parts ≡ workers
  pub kinds : All (PartHasKinds line.kinds) line.parts

abbrev pub AreLines : ℕ → Lines → Type 0
AreLines workers lines = (n : ℕ) (line : LineValue) → lines n ≡ Some line → IsLine workers line

-- the line is there with all its parts lent, and may have these again
pub record AreLent (lines : Lines) (n workers : ℕ) (parts : List (Option FileValue)) : Type 0 where
  pub line : LineValue
  pub there : lines n ≡ Some (all_lent line)
  pub is : IsLine workers (with_parts line parts)

-- where a line's parts were lent, it may have these again
abbrev pub IsToRestore : Root → Bool → Lines → ℕ → List (Option FileValue) → Type 0
IsToRestore (stored_root n) false lines workers parts = AreLent lines n workers parts
IsToRestore (stored_root n) true lines workers parts = ⊤
IsToRestore (count_root n rows) last lines workers parts = ⊤

pub record IsStock {X : Type 0} (s : Inside X) : Type 0 where
  pub some : 0 < s.workers
  pub lines : AreLines s.workers (lines_in s.lines)

-- a part that is there is of this pool
abbrev pub IsPartOf : PoolName → Option FileValue → Type 0
IsPartOf pool None = ⊤
IsPartOf pool (Some f) = IsFileOf pool f

-- each worker's parts that are there are of its pool
abbrev pub AreInPools : List PoolName → Lines → Type 0
AreInPools pools lines = (n : ℕ) (line : LineValue) → lines n ≡ Some line → AllZip IsPartOf pools line.parts

-- each worker's feed is of its pool
abbrev pub FeedsAreInPools : List PoolName → List FeedValue → Type 0
FeedsAreInPools pools feeds = AllZip (λ pool (f : FeedValue). AreOfPool pool f.blocks) pools feeds
