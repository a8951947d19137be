-- Blocks that are written one after the other.
use Rattle.std.specs.Prelude.{◌≡◌, ℕ, ◌<◌, ◌⊎◌, List, [], ◌∷◌, ◌++◌, length, map, Option, None, Some, ⊤}
use Rattle.std.specs.List.{flat_map, AllByRecursion}
use Rattle.block_pool.specs.Handles.{PoolName, BlockValue, FrameValue}
use Rattle.dia_file.specs.declared.sealed.Sealed.{Sealed}
use Rattle.dia_file.specs.Pieces.{Piece}

abbrev pub piece_of : Sealed → Piece
piece_of s = record { bytes = s.block.bytes; ends = s.ends }

abbrev pub pieces : List Sealed → List Piece
pieces items = map piece_of items

abbrev pub blocks_of : List Sealed → List BlockValue
blocks_of items = map (λ s. s.block) items

-- a block that is counted right, isn't empty and is of this pool
pub record IsSealedIn (pool : PoolName) (s : Sealed) : Type 0 where
  pub of_pool : s.block.pool ≡ pool
  pub len : s.len ≡ length s.block.bytes
  pub some : 0 < length s.block.bytes

abbrev pub AllSealedIn : PoolName → List Sealed → Type 0
AllSealedIn pool items = AllByRecursion (IsSealedIn pool) items

-- the bytes of the frame that is written, and how many frames there are
abbrev pub frame_bytes : Option FrameValue → List ℕ
frame_bytes None = []
frame_bytes (Some f) = f.bytes

abbrev pub frames : Option FrameValue → ℕ
frames None = 0
frames (Some f) = 1

abbrev pub IsFrameIn : PoolName → Option FrameValue → Type 0
IsFrameIn pool None = ⊤
IsFrameIn pool (Some f) = f.pool ≡ pool

-- a frame that is written has some bytes
abbrev pub IsFilled : Option FrameValue → Type 0
IsFilled None = ⊤
IsFilled (Some f) = 0 < length f.bytes

-- the block that comes of a frame
abbrev pub sealed_of : Option FrameValue → ℕ → List Sealed
sealed_of None ends = []
sealed_of (Some f) ends = record { block = record { pool = f.pool; bytes = f.bytes }; ends = ends; len = length f.bytes } ∷ []

-- blocks in which no row ends
abbrev pub AreLong : PoolName → List Sealed → Type 0
AreLong pool items = AllByRecursion (λ s. (s.ends ≡ 0) × IsSealedIn pool s) items

abbrev pub joined : List Sealed → List ℕ
joined items = flat_map (λ s. s.block.bytes) items

-- the front of these bytes went into new blocks, and the rest didn't
pub record Spread (pool : PoolName) (before after : List Sealed) (rest bytes : List ℕ) : Type 0 where
  pub long : List Sealed
  pub items : after ≡ before ++ long
  pub are : AreLong pool long
  pub parts : joined long ++ rest ≡ bytes

-- Bytes are put: behind those in the frame that is written, or, once that is sealed, into new ones.
abbrev pub IsPut : PoolName → List Sealed → Option FrameValue → ℕ → List Sealed → Option FrameValue → ℕ → List ℕ → Type 0
IsPut pool before f ends after g more bytes =
    ((after ≡ before) × (frame_bytes g ≡ frame_bytes f ++ bytes) × (more ≡ ends))
    ⊎ (Spread pool (before ++ sealed_of f ends) after (frame_bytes g) bytes × (more ≡ 0))

-- Bytes were not put, or a front of them alone.
abbrev pub IsTorn : PoolName → List Sealed → Option FrameValue → ℕ → List Sealed → Option FrameValue → ℕ → List ℕ → Type 0
IsTorn pool before f ends after g more bytes =
    ((after ≡ before) × (g ≡ f) × (more ≡ ends))
    ⊎ ((rest : List ℕ) × Spread pool (before ++ sealed_of f ends) after rest bytes × (more ≡ 0))

abbrev pub AreBlocksOf : PoolName → List Sealed → Type 0
AreBlocksOf pool items = AllByRecursion (λ (b : BlockValue). b.pool ≡ pool) (blocks_of items)
