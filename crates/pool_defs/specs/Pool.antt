-- The pool machine: its states, what may happen, and whole runs.
-- The contents of blocks are of any type: their bytes, or where nothing else is known their lengths alone.
use Rattle.std.specs.Prelude.{◌≡◌, ◌≢◌, ℕ, ◌+◌, ◌-◌, ◌<◌, ◌≤◌, ◌⊎◌, Bool, true, false, nat_lt, List, [], ◌∷◌, ◌++◌, length, map, slice_set, slice_index_or, Option, Some, None, option_map, count_by, if◌then◌else◌}
use Rattle.pool_defs.specs.declared.block.Block.{Block}
use Rattle.pool_defs.specs.declared.block.Place.{Place}
use Rattle.pool_defs.specs.declared.block.Place.TheVariants.{Out, Cached, Slot}

-- Each frame is free, being written, or holds a block that is out or cached.
-- A block's id is its place in the list, and the next new id is the list's length; None is an id whose block was freed.
pub record PoolMachine (C : Type 0) : Type 0 where
  pub frames : ℕ
  pub free : ℕ
  pub written : ℕ
  pub blocks : List (Option (Block C))

-- what may happen; ids are numbers
pub data PoolEvent (C : Type 0) : Type 0 where
  Evict : PoolEvent C
  Frame : PoolEvent C
  Seal : ℕ → C → PoolEvent C
  Give_back : PoolEvent C
  Pin : ℕ → PoolEvent C
  Unpin : ℕ → PoolEvent C
  Free : ℕ → PoolEvent C

-- all frames are free, and there is no block
abbrev pub opened : (C : Type 0) → ℕ → PoolMachine C
opened C frames = record { frames = frames; free = frames; written = 0; blocks = [] }

abbrev pub is_out : Place → Bool
is_out Out = true
is_out Cached = false
is_out (Slot _) = false

abbrev pub is_cached : Place → Bool
is_cached Out = false
is_cached Cached = true
is_cached (Slot _) = false

abbrev pub is_spilled : Place → Bool
is_spilled Out = false
is_spilled Cached = false
is_spilled (Slot _) = true

module _ {C : Type 0} where
  -- the block under this id, if one lives
  abbrev pub block_of : PoolMachine C → ℕ → Option (Block C)
  block_of pool id = slice_index_or pool.blocks id None

  abbrev pub place_of : PoolMachine C → ℕ → Option Place
  place_of pool id = option_map (λ block. block.place) (block_of pool id)

  abbrev pub content_of : PoolMachine C → ℕ → Option C
  content_of pool id = option_map (λ block. block.content) (block_of pool id)

  -- a live block is in a place that passes the test
  abbrev pub is_placed : (Place → Bool) → Option (Block C) → Bool
  is_placed test None = false
  is_placed test (Some block) = test block.place

  -- how many live blocks are in a place that passes the test
  abbrev pub placed_count : (Place → Bool) → List (Option (Block C)) → ℕ
  placed_count test = count_by (is_placed test)

  abbrev pub out_count : PoolMachine C → ℕ
  out_count pool = placed_count is_out pool.blocks

  abbrev pub cached_count : PoolMachine C → ℕ
  cached_count pool = placed_count is_cached pool.blocks

  abbrev pub slots_in_use : PoolMachine C → ℕ
  slots_in_use pool = placed_count is_spilled pool.blocks

  -- no block is in this slot
  abbrev pub IsUnused : PoolMachine C → ℕ → Type 0
  IsUnused pool slot = (id : ℕ) → place_of pool id ≢ Some (Slot slot)

  -- no two blocks are in one slot, and each frame is counted once
  pub record IsValid (pool : PoolMachine C) : Type 0 where
    pub slots_differ : (id other slot : ℕ) → place_of pool id ≡ Some (Slot slot) → place_of pool other ≡ Some (Slot slot) → id ≡ other
    pub frames_add_up : pool.free + pool.written + out_count pool + cached_count pool ≡ pool.frames

  abbrev pub moved : Place → Option (Block C) → Option (Block C)
  moved place None = None
  moved place (Some block) = Some (record block { place = place })

  -- the blocks with this one in another place
  abbrev pub placed : List (Option (Block C)) → ℕ → Place → List (Option (Block C))
  placed blocks id place = slice_set blocks id (moved place (slice_index_or blocks id None))

  -- the blocks with a new one under this id, which is a freed one or the next
  abbrev pub with_block : List (Option (Block C)) → ℕ → Block C → List (Option (Block C))
  with_block blocks id block =
      if nat_lt id (length blocks) then slice_set blocks id (Some block) else blocks ++ Some block ∷ []

  -- the id is that of a freed block, or the next one
  abbrev pub IsNew : PoolMachine C → ℕ → Type 0
  IsNew pool id = (id ≤ length pool.blocks) × (block_of pool id ≡ None)

  -- where no frame is free, some cached block goes to some unused slot, and its frame is free
  abbrev pub Evicts : PoolMachine C → PoolMachine C → Type 0
  Evicts old new =
      (old.free ≡ 0)
      × ((id : ℕ) × (slot : ℕ) × (place_of old id ≡ Some Cached) × IsUnused old slot
      × (new ≡ record old { free = old.free + 1; blocks = placed old.blocks id (Slot slot) }))

  -- a frame is free, after an eviction where none was
  abbrev pub MakesRoom : PoolMachine C → PoolMachine C → Type 0
  MakesRoom old new = ((0 < old.free) × (new ≡ old)) ⊎ Evicts old new

  -- a cached block is out; or a frame is free, and holds the block that was in a slot
  abbrev pub Pins : PoolMachine C → ℕ → Option Place → PoolMachine C → Type 0
  Pins old id (Some Cached) new = new ≡ record old { blocks = placed old.blocks id Out }
  Pins old id (Some (Slot slot)) new =
      (room : PoolMachine C) × MakesRoom old room
      × (new ≡ record room { free = room.free - 1; blocks = placed room.blocks id Out })
  Pins old id (Some Out) new = ⊥
  Pins old id None new = ⊥

  -- a cached block's frame is free, or a spilled block's slot is unused
  abbrev pub Frees : PoolMachine C → ℕ → Option Place → PoolMachine C → Type 0
  Frees old id (Some Cached) new = new ≡ record old { free = old.free + 1; blocks = slice_set old.blocks id None }
  Frees old id (Some (Slot slot)) new = new ≡ record old { blocks = slice_set old.blocks id None }
  Frees old id (Some Out) new = ⊥
  Frees old id None new = ⊥

  -- the event may happen in the first state, and may lead to the second
  abbrev pub IsStep : PoolMachine C → PoolEvent C → PoolMachine C → Type 0
  IsStep old Evict new = Evicts old new
  IsStep old Frame new =
      (room : PoolMachine C) × MakesRoom old room
      × (new ≡ record room { free = room.free - 1; written = room.written + 1 })
  IsStep old (Seal id content) new =
      (0 < old.written) × IsNew old id
      × (new ≡ record old { written = old.written - 1; blocks = with_block old.blocks id (record { content = content; place = Cached }) })
  IsStep old Give_back new =
      (0 < old.written) × (new ≡ record old { free = old.free + 1; written = old.written - 1 })
  IsStep old (Pin id) new = Pins old id (place_of old id) new
  IsStep old (Unpin id) new = (place_of old id ≡ Some Out) × (new ≡ record old { blocks = placed old.blocks id Cached })
  IsStep old (Free id) new = Frees old id (place_of old id) new

  -- the events may happen one after the other, from the first state to the second
  abbrev pub PoolRun : PoolMachine C → List (PoolEvent C) → PoolMachine C → Type 0
  PoolRun old [] new = new ≡ old
  PoolRun old (event ∷ events) new = (next : PoolMachine C) × IsStep old event next × PoolRun next events new

-- what is known of a block where only its length is
abbrev pub length_block : Option (Block (List ℕ)) → Option (Block ℕ)
length_block None = None
length_block (Some block) = Some (record { content = length block.content; place = block.place })

-- what is known of a state where only lengths are
abbrev pub lengths_of : PoolMachine (List ℕ) → PoolMachine ℕ
lengths_of pool = record { frames = pool.frames; free = pool.free; written = pool.written; blocks = map length_block pool.blocks }
