-- The laws of the pool machine.
use Rattle.std.specs.Prelude.{◌≡◌, ◌≢◌, ℕ, ◌+◌, ◌*◌, ◌≤◌, List, Some, All, AllPairs, sum_by, IsSome, unwrap_or}
use Rattle.std.specs.List.{AllByRecursion}
use Rattle.pool_defs.specs.declared.block.Place.TheVariants.{Out}
use Rattle.pool_defs.specs.Pool.{PoolMachine, PoolEvent, Unpin, Free, block_of, place_of, content_of, slots_in_use, IsValid, IsStep, PoolRun, opened}

-- over every run without its own free a live block keeps its content
abbrev pub ContentsStay : Type 0 → Type 0
ContentsStay C =
    (old new : PoolMachine C) (events : List (PoolEvent C)) (id : ℕ) (content : C)
    → PoolRun old events new → AllByRecursion (λ event. event ≢ Free id) events
    → content_of old id ≡ Some content → content_of new id ≡ Some content

-- no event but its own unpin changes the place of a block that is out
abbrev pub OutStays : Type 0 → Type 0
OutStays C =
    (old new : PoolMachine C) (event : PoolEvent C) (id : ℕ)
    → IsStep old event new → event ≢ Unpin id → place_of old id ≡ Some Out → place_of new id ≡ Some Out

-- a pool that was just opened is valid, and so is every state after an event in a valid one
abbrev pub ValidStays : Type 0 → Type 0
ValidStays C =
    ((frames : ℕ) → IsValid (opened C frames))
    × ((old new : PoolMachine C) (event : PoolEvent C) → IsValid old → IsStep old event new → IsValid new)

-- the length of a block's content, where contents are lengths
abbrev pub length_of : PoolMachine ℕ → ℕ → ℕ
length_of pool id = unwrap_or (content_of pool id) 0

-- no content is longer than this
abbrev pub IsAtMost : PoolMachine ℕ → ℕ → Type 0
IsAtMost pool most = (id : ℕ) → length_of pool id ≤ most

-- where no content is longer than `most`, the contents of different live blocks are no longer in all than the frames and the slots in use times `most`
abbrev pub ContentsFit : Type 0
ContentsFit =
    (pool : PoolMachine ℕ) (most : ℕ) (ids : List ℕ)
    → IsValid pool → IsAtMost pool most → AllPairs (λ id other. id ≢ other) ids
    → All (λ id. IsSome (block_of pool id)) ids
    → sum_by (length_of pool) ids ≤ (pool.frames + slots_in_use pool) * most
