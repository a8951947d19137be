-- A state over bytes and the same state over lengths go the same ways.
use Rattle.std.proofs.Common.{◌≡◌, ℕ, inl, inr, true, false, ltb, List, map, length, get_or, set, Option, Some, None, refl, sym, ap, ◌∙◌, arith}
use Rattle.std.specs.Option.{option_map}
use Rattle.std.proofs.Math.ListN.{get_or-map}
use Rattle.std.proofs.lemmas.List.{map-set, map_push, length-map}
use Rattle.std.proofs.lemmas.Bool.{cases_lt}
use Rattle.std.proofs.lemmas.Bool.Decides.{nat_tests}
use Rattle.pool_defs.specs.declared.block.Block.{Block}
use Rattle.pool_defs.specs.declared.block.Place.{Place}
use Rattle.pool_defs.specs.Pool.{PoolMachine, moved, placed, with_block, length_block}
use Rattle.pool_defs.proofs.Blocks.{place_at, content_at}

abbrev Bytes : Type 0
Bytes = List (Option (Block (List ℕ)))

pub block_at-lengths : (blocks : Bytes) (id : ℕ) → get_or (map length_block blocks) id None ≡ length_block (get_or blocks id None)
block_at-lengths blocks id = get_or-map length_block blocks id None

place-length_block : (block : Option (Block (List ℕ))) → option_map (λ it. it.place) (length_block block) ≡ option_map (λ it. it.place) block
place-length_block None = refl
place-length_block (Some block) = refl

content-length_block : (block : Option (Block (List ℕ))) → option_map (λ it. it.content) (length_block block) ≡ option_map length (option_map (λ it. it.content) block)
content-length_block None = refl
content-length_block (Some block) = refl

pub place_at-lengths : (blocks : Bytes) (id : ℕ) → place_at (map length_block blocks) id ≡ place_at blocks id
place_at-lengths blocks id = ap (λ it. option_map (λ (b : Block ℕ). b.place) it) (block_at-lengths blocks id) ∙ place-length_block (get_or blocks id None)

pub content_at-lengths : (blocks : Bytes) (id : ℕ) → content_at (map length_block blocks) id ≡ option_map length (content_at blocks id)
content_at-lengths blocks id = ap (λ it. option_map (λ (b : Block ℕ). b.content) it) (block_at-lengths blocks id) ∙ content-length_block (get_or blocks id None)

length_block-moved : (place : Place) (block : Option (Block (List ℕ))) → length_block (moved place block) ≡ moved place (length_block block)
length_block-moved place None = refl
length_block-moved place (Some block) = refl

pub lengths-placed : (blocks : Bytes) (id : ℕ) (place : Place) → map length_block (placed blocks id place) ≡ placed (map length_block blocks) id place
lengths-placed blocks id place =
    map-set length_block blocks id (moved place (get_or blocks id None))
    ∙ ap (λ it. set (map length_block blocks) id it) (length_block-moved place (get_or blocks id None) ∙ ap (moved place) (sym (block_at-lengths blocks id)))

pub lengths-freed : (blocks : Bytes) (id : ℕ) → map length_block (set blocks id None) ≡ set (map length_block blocks) id None
lengths-freed blocks id = map-set length_block blocks id None

pub lengths-with_block : (blocks : Bytes) (id : ℕ) (content : List ℕ) (place : Place)
    → map length_block (with_block blocks id (record { content = content; place = place })) ≡ with_block (map length_block blocks) id (record { content = length content; place = place })
lengths-with_block blocks id content place =
    let block : Block (List ℕ) = record { content = content; place = place } in
    let long = length-map blocks length_block in
    elim (cases_lt id (length blocks)) [
      | inl below ↦
          let low : ltb id (length blocks) ≡ true = grind (arith, nat_tests) in
          let low_too : ltb id (length (map length_block blocks)) ≡ true = grind (arith, nat_tests) in
          rw (low, low_too) (map-set length_block blocks id (Some block))
      | inr past ↦
          let high : ltb id (length blocks) ≡ false = grind (arith, nat_tests) in
          let high_too : ltb id (length (map length_block blocks)) ≡ false = grind (arith, nat_tests) in
          rw (high, high_too) (map_push length_block blocks (Some block))
    ]

module _ {C : Type 0} where
  -- states with the same parts are the same
  pub same_machine : (a b : PoolMachine C) → a.frames ≡ b.frames → a.free ≡ b.free → a.written ≡ b.written → a.blocks ≡ b.blocks → a ≡ b
  same_machine a b frames free written blocks =
      ap {B = PoolMachine C} (λ it. record { frames = it; free = a.free; written = a.written; blocks = a.blocks }) frames
      ∙ ap {B = PoolMachine C} (λ it. record { frames = b.frames; free = it; written = a.written; blocks = a.blocks }) free
      ∙ ap {B = PoolMachine C} (λ it. record { frames = b.frames; free = b.free; written = it; blocks = a.blocks }) written
      ∙ ap {B = PoolMachine C} (λ it. record { frames = b.frames; free = b.free; written = b.written; blocks = it }) blocks
