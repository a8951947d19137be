-- What each event keeps, and what runs keep.
use Rattle.std.proofs.Common.{◌≡◌, ◌≢◌, ℕ, inl, inr, List, [], ◌∷◌, get_or, Option, Some, None, refl, sym, ap, ◌∙◌}
use Rattle.std.specs.Option.{option_map}
use Rattle.std.specs.List.{AllByRecursion}
use Rattle.std.proofs.lemmas.Bool.{cases_eq}
use Rattle.pool_defs.specs.declared.block.Block.{Block}
use Rattle.pool_defs.specs.declared.block.Place.{Place}
use Rattle.pool_defs.specs.declared.block.Place.TheVariants.{Out, Cached, Slot}
use Rattle.pool_defs.specs.Pool.{PoolMachine, PoolEvent, Evict, Frame, Seal, Give_back, Pin, Unpin, Free, placed, with_block, block_of, place_of, content_of, IsNew, Evicts, MakesRoom, Pins, Frees, IsStep, PoolRun}
use Rattle.pool_defs.proofs.Blocks.{place_at, content_at, content_at-placed, place_at-placed_same, place_at-placed_other, freed_other, with_block_other}

module _ {C : Type 0} where
  -- contents

  evicts_keeps_content : (old new : PoolMachine C) (id : ℕ) → Evicts old new → content_of new id ≡ content_of old id
  evicts_keeps_content old new id step =
      let kept = content_at-placed old.blocks step.1.0 (Slot step.1.1) id in
      let is = step.1.4 in
      cc

  pub room_keeps_content : (old new : PoolMachine C) (id : ℕ) → MakesRoom old new → content_of new id ≡ content_of old id
  room_keeps_content old new id step = elim step [
    | inl there ↦ ap (λ it. content_of it id) there.1
    | inr evicts ↦ evicts_keeps_content old new id evicts
  ]

  pins_keeps_content : (old new : PoolMachine C) (at : ℕ) (place : Option Place) (id : ℕ) → Pins old at place new → content_of new id ≡ content_of old id
  pins_keeps_content old new at (Some Cached) id step = ap (λ it. content_of it id) step ∙ content_at-placed old.blocks at Out id
  pins_keeps_content old new at (Some (Slot slot)) id step =
      ap (λ it. content_of it id) step.2 ∙ content_at-placed step.0.blocks at Out id ∙ room_keeps_content old step.0 id step.1
  pins_keeps_content old new at (Some Out) id step = absurd step
  pins_keeps_content old new at None id step = absurd step

  frees_keeps_block : (old new : PoolMachine C) (at : ℕ) (place : Option Place) (id : ℕ) → id ≢ at → Frees old at place new → block_of new id ≡ block_of old id
  frees_keeps_block old new at (Some Cached) id differs step = ap (λ it. block_of it id) step ∙ freed_other old.blocks at id differs
  frees_keeps_block old new at (Some (Slot slot)) id differs step = ap (λ it. block_of it id) step ∙ freed_other old.blocks at id differs
  frees_keeps_block old new at (Some Out) id differs step = absurd step
  frees_keeps_block old new at None id differs step = absurd step

  seals_keeps_block : (old : PoolMachine C) (id : ℕ) (block : Block C) (other : ℕ) (found : Block C) → IsNew old id → block_of old other ≡ Some found → get_or (with_block old.blocks id block) other None ≡ Some found
  seals_keeps_block old id block other found new is = elim (cases_eq other id) [
    | inl same ↦ let dead = new.1 in absurd (let here = ap (λ it. block_of old it) same in cc)
    | inr differs ↦ with_block_other old.blocks id block other new.0 differs ∙ is
  ]

  content_block : (blocks : List (Option (Block C))) (id : ℕ) (content : C) → content_at blocks id ≡ Some content → (block : Block C) × (get_or blocks id None ≡ Some block) × (block.content ≡ content)
  content_block blocks id content is = found (get_or blocks id None) is where
    found : (it : Option (Block C)) → option_map (λ block. block.content) it ≡ Some content → (block : Block C) × (it ≡ Some block) × (block.content ≡ content)
    found None none = absurd (cc)
    found (Some block) some = (block, refl, cc)

  pub step_keeps_content : (old new : PoolMachine C) (event : PoolEvent C) (id : ℕ) (content : C) → IsStep old event new → event ≢ Free id → content_of old id ≡ Some content → content_of new id ≡ Some content
  step_keeps_content old new Evict id content step spared is = evicts_keeps_content old new id step ∙ is
  step_keeps_content old new Frame id content step spared is = ap (λ it. content_of it id) step.2 ∙ room_keeps_content old step.0 id step.1 ∙ is
  step_keeps_content old new (Seal at bytes) id content step spared is =
      let found = content_block old.blocks id content is in
      let kept = seals_keeps_block old at (record { content = bytes; place = Cached }) id found.0 step.1 found.1 in
      ap (λ it. content_of it id) step.2 ∙ ap (λ it. option_map (λ block. block.content) it) kept ∙ ap Some found.2
  step_keeps_content old new Give_back id content step spared is = ap (λ it. content_of it id) step.1 ∙ is
  step_keeps_content old new (Pin at) id content step spared is = pins_keeps_content old new at (place_of old at) id step ∙ is
  step_keeps_content old new (Unpin at) id content step spared is = ap (λ it. content_of it id) step.1 ∙ content_at-placed old.blocks at Cached id ∙ is
  step_keeps_content old new (Free at) id content step spared is = elim (cases_eq id at) [
    | inl same ↦ absurd (spared (ap Free (sym same)))
    | inr differs ↦ ap (λ it. option_map (λ block. block.content) it) (frees_keeps_block old new at (place_of old at) id differs step) ∙ is
  ]

  pub run_keeps_content : (old new : PoolMachine C) (events : List (PoolEvent C)) (id : ℕ) (content : C) → PoolRun old events new → AllByRecursion (λ event. event ≢ Free id) events → content_of old id ≡ Some content → content_of new id ≡ Some content
  run_keeps_content old new [] id content run spared is = ap (λ it. content_of it id) run ∙ is
  run_keeps_content old new (event ∷ events) id content run spared is =
      run_keeps_content run.0 new events id content run.2 spared.1 (step_keeps_content old run.0 event id content run.1 spared.0 is)

  -- places

  -- what is somewhere else than the block that is moved stays where it is
  stays_in_place : (blocks : List (Option (Block C))) (at : ℕ) (from to : Place) (id : ℕ) (place : Place) → place_at blocks at ≡ Some from → from ≢ place → place_at blocks id ≡ Some place → place_at (placed blocks at to) id ≡ Some place
  stays_in_place blocks at from to id place was differ is =
      let apart : id ≢ at = λ same. differ (let here = ap (λ it. place_at blocks it) same in cc) in
      place_at-placed_other blocks at to id apart ∙ is

  evicts_keeps_out : (old new : PoolMachine C) (id : ℕ) → Evicts old new → place_of old id ≡ Some Out → place_of new id ≡ Some Out
  evicts_keeps_out old new id step is =
      let apart : Cached ≢ Out = λ same. cc in
      ap (λ it. place_of it id) step.1.4 ∙ stays_in_place old.blocks step.1.0 Cached (Slot step.1.1) id Out step.1.2 apart is

  room_keeps_out : (old new : PoolMachine C) (id : ℕ) → MakesRoom old new → place_of old id ≡ Some Out → place_of new id ≡ Some Out
  room_keeps_out old new id step is = elim step [
    | inl there ↦ ap (λ it. place_of it id) there.1 ∙ is
    | inr evicts ↦ evicts_keeps_out old new id evicts is
  ]

  -- a block that is put out is out, and so is one that was
  put_out : (blocks : List (Option (Block C))) (at id : ℕ) → place_at blocks id ≡ Some Out → place_at (placed blocks at Out) id ≡ Some Out
  put_out blocks at id is = elim (cases_eq id at) [
    | inl same ↦ let here = ap (λ it. place_at (placed blocks at Out) it) same in here ∙ place_at-placed_same blocks at Out Out (ap (λ it. place_at blocks it) (sym same) ∙ is)
    | inr differs ↦ place_at-placed_other blocks at Out id differs ∙ is
  ]

  pins_keeps_out : (old new : PoolMachine C) (at : ℕ) (place : Option Place) (id : ℕ) → Pins old at place new → place_of old id ≡ Some Out → place_of new id ≡ Some Out
  pins_keeps_out old new at (Some Cached) id step is = ap (λ it. place_of it id) step ∙ put_out old.blocks at id is
  pins_keeps_out old new at (Some (Slot slot)) id step is =
      ap (λ it. place_of it id) step.2 ∙ put_out step.0.blocks at id (room_keeps_out old step.0 id step.1 is)
  pins_keeps_out old new at (Some Out) id step is = absurd step
  pins_keeps_out old new at None id step is = absurd step

  frees_spares_out : (old new : PoolMachine C) (at : ℕ) (place : Option Place) → Frees old at place new → place ≢ Some Out
  frees_spares_out old new at (Some Cached) step same = cc
  frees_spares_out old new at (Some (Slot slot)) step same = cc
  frees_spares_out old new at (Some Out) step same = step
  frees_spares_out old new at None step same = step

  place_block : (blocks : List (Option (Block C))) (id : ℕ) (place : Place) → place_at blocks id ≡ Some place → (block : Block C) × (get_or blocks id None ≡ Some block) × (block.place ≡ place)
  place_block blocks id place is = found (get_or blocks id None) is where
    found : (it : Option (Block C)) → option_map (λ block. block.place) it ≡ Some place → (block : Block C) × (it ≡ Some block) × (block.place ≡ place)
    found None none = absurd (cc)
    found (Some block) some = (block, refl, cc)

  pub step_keeps_out : (old new : PoolMachine C) (event : PoolEvent C) (id : ℕ) → IsStep old event new → event ≢ Unpin id → place_of old id ≡ Some Out → place_of new id ≡ Some Out
  step_keeps_out old new Evict id step spared is = evicts_keeps_out old new id step is
  step_keeps_out old new Frame id step spared is = ap (λ it. place_of it id) step.2 ∙ room_keeps_out old step.0 id step.1 is
  step_keeps_out old new (Seal at bytes) id step spared is =
      let found = place_block old.blocks id Out is in
      let kept = seals_keeps_block old at (record { content = bytes; place = Cached }) id found.0 step.1 found.1 in
      ap (λ it. place_of it id) step.2 ∙ ap (λ it. option_map (λ block. block.place) it) kept ∙ ap Some found.2
  step_keeps_out old new Give_back id step spared is = ap (λ it. place_of it id) step.1 ∙ is
  step_keeps_out old new (Pin at) id step spared is = pins_keeps_out old new at (place_of old at) id step is
  step_keeps_out old new (Unpin at) id step spared is =
      let apart : id ≢ at = λ same. spared (ap Unpin (sym same)) in
      ap (λ it. place_of it id) step.1 ∙ place_at-placed_other old.blocks at Cached id apart ∙ is
  step_keeps_out old new (Free at) id step spared is = elim (cases_eq id at) [
    | inl same ↦ absurd (frees_spares_out old new at (place_of old at) step (ap (λ it. place_of old it) (sym same) ∙ is))
    | inr differs ↦ ap (λ it. option_map (λ block. block.place) it) (frees_keeps_block old new at (place_of old at) id differs step) ∙ is
  ]
