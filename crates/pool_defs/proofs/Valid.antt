-- Each event leaves a valid state valid.
use Rattle.std.proofs.Common.{◌≡◌, ◌≢◌, ℕ, ◌+◌, ◌-◌, ◌<◌, ◌≤◌, inl, inr, List, length, set, Option, Some, None, refl, sym, ap, ◌∙◌, subst, arith, cond}
use Rattle.std.specs.Option.{option_map}
use Rattle.std.proofs.lemmas.Bool.{cases_eq}
use Rattle.pool_defs.specs.declared.block.Block.{Block}
use Rattle.pool_defs.specs.declared.block.Place.{Place}
use Rattle.pool_defs.specs.declared.block.Place.TheVariants.{Out, Cached, Slot}
use Rattle.pool_defs.specs.Pool.{IsUnused, PoolMachine, PoolEvent, Evict, Frame, Seal, Give_back, Pin, Unpin, Free, is_out, is_cached, placed_count, placed, with_block, place_of, IsValid, Evicts, MakesRoom, Pins, Frees, IsStep, opened}
use Rattle.pool_defs.proofs.Blocks.{place_at, place_at-placed_same, place_at-placed_other, freed_same, freed_other, with_block_same, with_block_other, count-placed, count-freed, count-with_block}

-- no two ids have one slot
abbrev SlotsDiffer : (ℕ → Option Place) → Type 0
SlotsDiffer place = (id other slot : ℕ) → place id ≡ Some (Slot slot) → place other ≡ Some (Slot slot) → id ≡ other

-- one id's place changes, and to no slot that is used
differ_after : (old new : ℕ → Option Place) (at : ℕ) → ((id : ℕ) → id ≢ at → new id ≡ old id)
    → ((slot : ℕ) → new at ≡ Some (Slot slot) → (id : ℕ) → old id ≢ Some (Slot slot)) → SlotsDiffer old → SlotsDiffer new
differ_after old new at others fresh differ id other slot is is_too = elim (cases_eq id at) [
  | inl same ↦ elim (cases_eq other at) [
    | inl same_too ↦ same ∙ sym same_too
    | inr apart ↦ absurd (fresh slot (ap new (sym same) ∙ is) other (sym (others other apart) ∙ is_too))
  ]
  | inr apart ↦ elim (cases_eq other at) [
    | inl same_too ↦ absurd (fresh slot (ap new (sym same_too) ∙ is_too) id (sym (others id apart) ∙ is))
    | inr apart_too ↦ differ id other slot (sym (others id apart) ∙ is) (sym (others other apart_too) ∙ is_too)
  ]
]

-- the places, and what the frames add up to: a valid state in two facts on its parts
abbrev AddUp : {C : Type 0} → ℕ → ℕ → ℕ → List (Option (Block C)) → Type 0
AddUp frames free written blocks = free + written + placed_count is_out blocks + placed_count is_cached blocks ≡ frames

module _ {C : Type 0} where
  differ_placed : (blocks : List (Option (Block C))) (at : ℕ) (to was : Place) → place_at blocks at ≡ Some was
      → ((slot : ℕ) → to ≡ Slot slot → (id : ℕ) → place_at blocks id ≢ Some (Slot slot)) → SlotsDiffer (place_at blocks) → SlotsDiffer (place_at (placed blocks at to))
  differ_placed blocks at to was is fresh differ =
      differ_after (place_at blocks) (place_at (placed blocks at to)) at (λ id apart. place_at-placed_other blocks at to id apart) (λ slot here. let now = place_at-placed_same blocks at to was is in fresh slot (cc)) differ

  differ_freed : (blocks : List (Option (Block C))) (at : ℕ) → SlotsDiffer (place_at blocks) → SlotsDiffer (place_at (set blocks at None))
  differ_freed blocks at differ =
      differ_after (place_at blocks) (place_at (set blocks at None)) at (λ id apart. ap (λ it. option_map (λ block. block.place) it) (freed_other blocks at id apart)) (λ slot here. let gone = ap (λ it. option_map (λ (block : Block C). block.place) it) (freed_same blocks at) in absurd (cc)) differ

  differ_sealed : (blocks : List (Option (Block C))) (at : ℕ) (content : C) → at ≤ length blocks → SlotsDiffer (place_at blocks) → SlotsDiffer (place_at (with_block blocks at (record { content = content; place = Cached })))
  differ_sealed blocks at content within differ =
      let block : Block C = record { content = content; place = Cached } in
      differ_after (place_at blocks) (place_at (with_block blocks at block)) at (λ id apart. ap (λ it. option_map (λ block. block.place) it) (with_block_other blocks at block id within apart)) (λ slot here. let now = ap (λ it. option_map (λ (block : Block C). block.place) it) (with_block_same blocks at block within) in absurd (cc)) differ

  -- a block in another place, where the frames still add up, and to a slot only if it is unused
  pub valid_placed : (old : PoolMachine C) (free written id : ℕ) (to was : Place) → place_of old id ≡ Some was → ((slot : ℕ) → to ≡ Slot slot → IsUnused old slot) → IsValid old
      → free + written + cond (is_out to) 1 0 + cond (is_cached to) 1 0 ≡ old.free + old.written + cond (is_out was) 1 0 + cond (is_cached was) 1 0
      → IsValid {C = C} (record { frames = old.frames; free = free; written = written; blocks = placed old.blocks id to })
  valid_placed old free written id to was is unused valid sum = record {
    slots_differ = differ_placed old.blocks id to was is unused valid.slots_differ;
    frames_add_up =
        let outs = count-placed is_out old.blocks id to was is in
        let cacheds = count-placed is_cached old.blocks id to was is in
        omega (arith, outs, cacheds, sum, valid.frames_add_up);
  }

  -- a block that is gone
  pub valid_freed : (old : PoolMachine C) (free id : ℕ) (was : Place) → place_of old id ≡ Some was → IsValid old
      → free ≡ old.free + cond (is_out was) 1 0 + cond (is_cached was) 1 0
      → IsValid {C = C} (record { frames = old.frames; free = free; written = old.written; blocks = set old.blocks id None })
  valid_freed old free id was is valid sum = record {
    slots_differ = differ_freed old.blocks id valid.slots_differ;
    frames_add_up =
        let outs = count-freed is_out old.blocks id was is in
        let cacheds = count-freed is_cached old.blocks id was is in
        omega (arith, outs, cacheds, sum, valid.frames_add_up);
  }

  evicts_valid : (old new : PoolMachine C) → IsValid old → Evicts old new → IsValid new
  evicts_valid old new valid step =
      let unused : (other : ℕ) → Slot step.1.1 ≡ Slot other → IsUnused old other = λ other same. let back : step.1.1 ≡ other = cc in subst (IsUnused old) back step.1.3 in
      subst IsValid (sym step.1.4) (valid_placed old (old.free + 1) old.written step.1.0 (Slot step.1.1) Cached step.1.2 unused valid (omega arith))

  room_valid : (old new : PoolMachine C) → IsValid old → MakesRoom old new → IsValid new
  room_valid old new valid step = elim step [
    | inl there ↦ subst IsValid (sym there.1) valid
    | inr evicts ↦ evicts_valid old new valid evicts
  ]

  -- after making room a frame is free
  pub room_is_free : (old new : PoolMachine C) → MakesRoom old new → 0 < new.free
  room_is_free old new step = elim step [
    | inl there ↦ subst (λ it. 0 < it.free) (sym there.1) there.0
    | inr evicts ↦ subst (λ it. 0 < it.free) (sym evicts.1.4) (omega arith)
  ]

  -- making room puts nothing but one cached block elsewhere
  pub room_keeps_slot : (old new : PoolMachine C) (id slot : ℕ) → MakesRoom old new → place_of old id ≡ Some (Slot slot) → place_of new id ≡ Some (Slot slot)
  room_keeps_slot old new id slot step is = elim step [
    | inl there ↦ ap (λ it. place_of it id) there.1 ∙ is
    | inr evicts ↦
        let apart : id ≢ evicts.1.0 = λ same. let there = ap (λ it. place_of old it) same in let was = evicts.1.2 in cc in
        ap (λ it. place_of it id) evicts.1.4 ∙ place_at-placed_other old.blocks evicts.1.0 (Slot evicts.1.1) id apart ∙ is
  ]

  pins_valid : (old new : PoolMachine C) (id : ℕ) (place : Option Place) → place_of old id ≡ place → IsValid old → Pins old id place new → IsValid new
  pins_valid old new id (Some Cached) is valid step =
      subst IsValid (sym step) (valid_placed old old.free old.written id Out Cached is (λ slot same. absurd (cc)) valid (omega arith))
  pins_valid old new id (Some (Slot slot)) is valid step =
      let room = step.0 in
      let has = room_is_free old room step.1 in
      let was = room_keeps_slot old room id slot step.1 is in
      subst IsValid (sym step.2) (valid_placed room (room.free - 1) room.written id Out (Slot slot) was (λ other same. absurd (cc)) (room_valid old room valid step.1) (omega (arith, has)))
  pins_valid old new id (Some Out) is valid step = absurd step
  pins_valid old new id None is valid step = absurd step

  frees_valid : (old new : PoolMachine C) (id : ℕ) (place : Option Place) → place_of old id ≡ place → IsValid old → Frees old id place new → IsValid new
  frees_valid old new id (Some Cached) is valid step = subst IsValid (sym step) (valid_freed old (old.free + 1) id Cached is valid (omega arith))
  frees_valid old new id (Some (Slot slot)) is valid step = subst IsValid (sym step) (valid_freed old old.free id (Slot slot) is valid (omega arith))
  frees_valid old new id (Some Out) is valid step = absurd step
  frees_valid old new id None is valid step = absurd step

  pub step_valid : (old new : PoolMachine C) (event : PoolEvent C) → IsValid old → IsStep old event new → IsValid new
  step_valid old new Evict valid step = evicts_valid old new valid step
  step_valid old new Frame valid step =
      let room = step.0 in
      let valid_room = room_valid old room valid step.1 in
      let has = room_is_free old room step.1 in
      let next : PoolMachine C = record { frames = room.frames; free = room.free - 1; written = room.written + 1; blocks = room.blocks } in
      let valid_next : IsValid next = record { slots_differ = valid_room.slots_differ; frames_add_up = omega (arith, valid_room.frames_add_up) } in
      subst IsValid (sym step.2) valid_next
  step_valid old new (Seal id content) valid step =
      let block : Block C = record { content = content; place = Cached } in
      let next : PoolMachine C = record { frames = old.frames; free = old.free; written = old.written - 1; blocks = with_block old.blocks id block } in
      let valid_next : IsValid next = record {
        slots_differ = differ_sealed old.blocks id content step.1.0 valid.slots_differ;
        frames_add_up =
            let outs = count-with_block is_out old.blocks id block step.1.0 step.1.1 in
            let cacheds = count-with_block is_cached old.blocks id block step.1.0 step.1.1 in
            omega (arith, outs, cacheds, step.0, valid.frames_add_up);
      } in
      subst IsValid (sym step.2) valid_next
  step_valid old new Give_back valid step =
      let next : PoolMachine C = record { frames = old.frames; free = old.free + 1; written = old.written - 1; blocks = old.blocks } in
      let valid_next : IsValid next = record { slots_differ = valid.slots_differ; frames_add_up = omega (arith, step.0, valid.frames_add_up) } in
      subst IsValid (sym step.1) valid_next
  step_valid old new (Pin id) valid step = pins_valid old new id (place_of old id) refl valid step
  step_valid old new (Unpin id) valid step =
      subst IsValid (sym step.1) (valid_placed old old.free old.written id Cached Out step.0 (λ slot same. absurd (cc)) valid (omega arith))
  step_valid old new (Free id) valid step = frees_valid old new id (place_of old id) refl valid step

pub opened_valid : (C : Type 0) (frames : ℕ) → IsValid (opened C frames)
opened_valid C frames = record {
  slots_differ = λ id other slot is is_too. absurd (cc);
  frames_add_up = omega arith;
}
