-- What is seen of stored lines.
use Rattle.std.specs.Prelude.{◌≡◌, ◌⊎◌, ℕ, Bool, true, false, List, [], ◌∷◌, map, All, Option, None, Some, IsSome, slice_get, length, replicate}
use Rattle.std.specs.Option.{option_map}
use Rattle.std.specs.List.{filter_map, flat_map}
use Rattle.std.specs.Ordering.{nat_cmp}
use Rattle.std.specs.BTreeMap.{BTreeMap, is_at}
use Rattle.std.specs.Map.{lookup}
use Rattle.row_defs.specs.declared.kind.Kind.{Kind}
use Rattle.row_defs.specs.declared.kind.Kind.TheVariants.{Int}
use Rattle.row_defs.specs.Rows.{Row}
use Rattle.row_defs.specs.LocalOps.{LocalOp}
use Rattle.row_defs.specs.Operands.{Root, stored_root, count_root}
use Rattle.dia_item.specs.KindList.{kind_list}
use Rattle.dia_file.specs.Files.{FileValue}
use Rattle.collective.specs.Shares.{shares_of}
use Rattle.lop_chain.specs.Chains.{chain_ops}
use Rattle.lop_chain.specs.declared.chain.Chain.{Chain}
use Rattle.scatter.specs.declared.line.Line.{Line}
use Rattle.scatter.specs.Feeds.{FeedValue, number_rows, part_feed, number_feed}

-- a line: its kinds, and its parts, one per worker, none where it is lent
pub record LineValue : Type 0 where
  pub kinds : List Kind
  pub parts : List (Option FileValue)

abbrev pub line_value : Line → LineValue
line_value line = record { kinds = kind_list line.kinds; parts = line.parts.items }

-- lines by their numbers
abbrev pub Lines : Type 0
Lines = ℕ → Option LineValue

-- those among numbered lines
abbrev pub lines_among : List (ℕ × LineValue) → Lines
lines_among entries n = lookup (is_at (nat_cmp n)) entries

abbrev pub entries_of : BTreeMap ℕ Line → List (ℕ × LineValue)
entries_of lines = map (λ (e : ℕ × Line). (e.0, line_value e.1)) lines.entries

abbrev pub lines_in : BTreeMap ℕ Line → Lines
lines_in lines = lines_among (entries_of lines)

-- the line with these parts
abbrev pub with_parts : LineValue → List (Option FileValue) → LineValue
with_parts line parts = record { kinds = line.kinds; parts = parts }

-- the kinds of the first of these files
abbrev pub first_kinds : List FileValue → List Kind
first_kinds [] = []
first_kinds (f ∷ fs) = f.kinds

abbrev pub HasKinds : List Kind → FileValue → Type 0
HasKinds kinds f = f.kinds ≡ kinds

-- Line n has this now, and each other line what it had.
pub record Sets (lines : Lines) (n : ℕ) (line : Option LineValue) (now : Lines) : Type 0 where
  pub here : now n ≡ line
  pub others : (m : ℕ) → (m ≡ n) ⊎ (now m ≡ lines m)

-- the line is there, and none of its parts is lent
pub record IsWhole (lines : Lines) (n : ℕ) : Type 0 where
  pub line : LineValue
  pub there : lines n ≡ Some line
  pub whole : All IsSome line.parts

-- the line is there, its rows have these kinds, and the part of this rank is lent
pub record IsLent (lines : Lines) (n rank : ℕ) (kinds : List Kind) : Type 0 where
  pub line : LineValue
  pub there : lines n ≡ Some line
  pub kinds_are : line.kinds ≡ kinds
  pub lent : slice_get line.parts rank ≡ Some None

-- the parts that are there
abbrev pub files_in : LineValue → List FileValue
files_in line = filter_map (λ (part : Option FileValue). part) line.parts

abbrev pub files_of : Option LineValue → List FileValue
files_of None = []
files_of (Some line) = files_in line

abbrev pub kinds_of_line : Option LineValue → List Kind
kinds_of_line None = []
kinds_of_line (Some line) = line.kinds

-- a root's rows are there
abbrev pub HasRoot : Lines → Root → Type 0
HasRoot lines (stored_root n) = IsWhole lines n
HasRoot lines (count_root n rows) = Unit {0}

-- the rows at a root, and their kinds
abbrev pub root_rows : Lines → Root → List Row
root_rows lines (stored_root n) = flat_map (λ (f : FileValue). f.rows) (files_of (lines n))
root_rows lines (count_root n rows) = number_rows 0 rows

abbrev pub root_kinds : Lines → Root → List Kind
root_kinds lines (stored_root n) = kinds_of_line (lines n)
root_kinds lines (count_root n rows) = Int ∷ []

-- each is of these lines
abbrev pub AreChainsOf : List LocalOp → List Chain → Type 0
AreChainsOf ops chains = All (λ (chain : Chain). chain_ops chain ≡ ops) chains

-- the feeds of a root through these lines: each worker's is of its part, or of its share of the numbers
abbrev pub root_feeds : Lines → ℕ → Root → Bool → List LocalOp → List FeedValue
root_feeds lines workers (stored_root n) last ops = map (part_feed last ops) (files_of (lines n))
root_feeds lines workers (count_root n rows) last ops = map (number_feed ops) (shares_of (number_rows 0 rows) workers workers)

-- all parts are lent
abbrev pub all_lent : LineValue → LineValue
all_lent line = with_parts line (replicate (length line.parts) None)

-- what stays of a line that is fed
abbrev pub left_of : Bool → Option LineValue → Option LineValue
left_of true line = None
left_of false line = option_map all_lent line

-- the lines once a root is fed: a stored one is gone after its last use, else its parts are lent
abbrev pub IsFedFrom : Lines → Root → Bool → Lines → Type 0
IsFedFrom lines (stored_root n) last now = Sets lines n (left_of last (lines n)) now
IsFedFrom lines (count_root n rows) last now = now ≡ lines
