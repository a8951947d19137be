-- What a change of one block leaves of the others, and of the counts.
use Rattle.std.proofs.Common.{◌≡◌, ◌≢◌, ℕ, ◌+◌, ◌<◌, ◌≤◌, inl, inr, Bool, cond, List, [], ◌∷◌, ◌++◌, length, get_or, set, Option, Some, None, refl, ap, arith}
use Rattle.std.specs.Option.{option_map}
use Rattle.std.proofs.lemmas.List.{get_or-set_same, get_or-set_other, get_or_past, set_past, get_or_push, get_or_append_left, length_push}
use Rattle.std.proofs.lemmas.List.Sums.{sum_by-set, sum_by_push}
use Rattle.std.proofs.lemmas.Bool.{cases_lt, cases_eq}
use Rattle.std.proofs.lemmas.Bool.Decides.{nat_tests}
use Rattle.pool_defs.specs.declared.block.Block.{Block}
use Rattle.pool_defs.specs.declared.block.Place.{Place}
use Rattle.pool_defs.specs.Pool.{is_placed, placed_count, moved, placed, with_block}

module _ {C : Type 0} where
  -- what a look-up shows of the block at an index
  abbrev pub place_at : List (Option (Block C)) → ℕ → Option Place
  place_at blocks id = option_map (λ block. block.place) (get_or blocks id None)

  abbrev pub content_at : List (Option (Block C)) → ℕ → Option C
  content_at blocks id = option_map (λ block. block.content) (get_or blocks id None)

  -- a live block's id is below the next one
  pub live_in_range : (blocks : List (Option (Block C))) (id : ℕ) (place : Place) → place_at blocks id ≡ Some place → id < length blocks
  live_in_range blocks id place is = elim (cases_lt id (length blocks)) [
    | inl below ↦ below
    | inr past ↦ let none = get_or_past blocks id None past in absurd (grind (arith))
  ]

  pub content_in_range : (blocks : List (Option (Block C))) (id : ℕ) (content : C) → content_at blocks id ≡ Some content → id < length blocks
  content_in_range blocks id content is = elim (cases_lt id (length blocks)) [
    | inl below ↦ below
    | inr past ↦ let none = get_or_past blocks id None past in absurd (grind (arith))
  ]

  -- another place changes no content
  content-moved : (place : Place) (block : Option (Block C)) → option_map (λ it. it.content) (moved place block) ≡ option_map (λ it. it.content) block
  content-moved place None = refl
  content-moved place (Some block) = refl

  pub content_at-placed : (blocks : List (Option (Block C))) (id : ℕ) (place : Place) (other : ℕ) → content_at (placed blocks id place) other ≡ content_at blocks other
  content_at-placed blocks id place other = elim (cases_eq other id) [
    | inl same ↦ elim (cases_lt id (length blocks)) [
      | inl below ↦
          let written = get_or-set_same blocks id (moved place (get_or blocks id None)) None below in
          let kept = content-moved place (get_or blocks id None) in
          grind arith
      | inr past ↦ let nothing = set_past blocks id (moved place (get_or blocks id None)) past in cc
    ]
    | inr differs ↦ let kept = get_or-set_other blocks id other (moved place (get_or blocks id None)) None differs in cc
  ]

  place-moved : (place was : Place) (block : Option (Block C)) → option_map (λ it. it.place) block ≡ Some was → option_map (λ it. it.place) (moved place block) ≡ Some place
  place-moved place was None is = cc
  place-moved place was (Some block) is = refl

  pub place_at-placed_same : (blocks : List (Option (Block C))) (id : ℕ) (place was : Place) → place_at blocks id ≡ Some was → place_at (placed blocks id place) id ≡ Some place
  place_at-placed_same blocks id place was is =
      let below = live_in_range blocks id was is in
      let written = get_or-set_same blocks id (moved place (get_or blocks id None)) None below in
      let now = place-moved place was (get_or blocks id None) is in
      cc

  pub place_at-placed_other : (blocks : List (Option (Block C))) (id : ℕ) (place : Place) (other : ℕ) → other ≢ id → place_at (placed blocks id place) other ≡ place_at blocks other
  place_at-placed_other blocks id place other differs =
      ap (λ it. option_map (λ block. block.place) it) (get_or-set_other blocks id other (moved place (get_or blocks id None)) None differs)

  -- a freed block is gone, and every other one is as it was
  pub freed_same : (blocks : List (Option (Block C))) (id : ℕ) → get_or (set blocks id None) id None ≡ None
  freed_same blocks id = elim (cases_lt id (length blocks)) [
    | inl below ↦ get_or-set_same blocks id None None below
    | inr past ↦ let nothing = set_past blocks id None past in let none = get_or_past blocks id None past in cc
  ]

  pub freed_other : (blocks : List (Option (Block C))) (id other : ℕ) → other ≢ id → get_or (set blocks id None) other None ≡ get_or blocks other None
  freed_other blocks id other differs = get_or-set_other blocks id other None None differs

  -- a new block is where it was put, and every other one is as it was
  pub with_block_same : (blocks : List (Option (Block C))) (id : ℕ) (block : Block C) → id ≤ length blocks → get_or (with_block blocks id block) id None ≡ Some block
  with_block_same blocks id block within = elim (cases_lt id (length blocks)) [
    | inl below ↦ let written = get_or-set_same blocks id (Some block) None below in grind (arith, nat_tests)
    | inr past ↦ let pushed = get_or_push blocks (Some block) None id (omega arith) in grind (arith, nat_tests)
  ]

  pub with_block_other : (blocks : List (Option (Block C))) (id : ℕ) (block : Block C) (other : ℕ) → id ≤ length blocks → other ≢ id → get_or (with_block blocks id block) other None ≡ get_or blocks other None
  with_block_other blocks id block other within differs = elim (cases_lt id (length blocks)) [
    | inl below ↦ let kept = get_or-set_other blocks id other (Some block) None differs in grind (arith, nat_tests)
    | inr past ↦ elim (cases_lt other (length blocks)) [
      | inl low ↦ let kept = get_or_append_left blocks (Some block ∷ []) None other low in grind (arith, nat_tests)
      | inr high ↦
          let none = get_or_past blocks other None high in
          let beyond = get_or_past (blocks ++ Some block ∷ []) other None (omega (arith, length_push blocks (Some block))) in
          grind (arith, nat_tests)
    ]
  ]

  is_placed-moved : (test : Place → Bool) (place was : Place) (block : Option (Block C)) → option_map (λ it. it.place) block ≡ Some was → (is_placed test block ≡ test was) × (is_placed test (moved place block) ≡ test place)
  is_placed-moved test place was None is = cc
  is_placed-moved test place was (Some block) is = (cc, refl)

  -- the counts after a move, after a free and after a seal
  pub count-placed : (test : Place → Bool) (blocks : List (Option (Block C))) (id : ℕ) (place was : Place) → place_at blocks id ≡ Some was
      → placed_count test (placed blocks id place) + cond (test was) 1 0 ≡ placed_count test blocks + cond (test place) 1 0
  count-placed test blocks id place was is =
      let below = live_in_range blocks id was is in
      let sums = sum_by-set (λ it. cond (is_placed test it) 1 0) blocks id (moved place (get_or blocks id None)) None below in
      let tests = is_placed-moved test place was (get_or blocks id None) is in
      let before = ap {B = ℕ} (λ b. cond b 1 0) tests.0 in
      let after = ap {B = ℕ} (λ b. cond b 1 0) tests.1 in
      omega (arith, sums, before, after)

  pub count-freed : (test : Place → Bool) (blocks : List (Option (Block C))) (id : ℕ) (was : Place) → place_at blocks id ≡ Some was
      → placed_count test (set blocks id None) + cond (test was) 1 0 ≡ placed_count test blocks
  count-freed test blocks id was is =
      let below = live_in_range blocks id was is in
      let sums = sum_by-set (λ it. cond (is_placed test it) 1 0) blocks id None None below in
      let tests = is_placed-moved test was was (get_or blocks id None) is in
      let before = ap {B = ℕ} (λ b. cond b 1 0) tests.0 in
      omega (arith, sums, before)

  pub count-with_block : (test : Place → Bool) (blocks : List (Option (Block C))) (id : ℕ) (block : Block C) → id ≤ length blocks → get_or blocks id None ≡ None
      → placed_count test (with_block blocks id block) ≡ placed_count test blocks + cond (test block.place) 1 0
  count-with_block test blocks id block within dead = elim (cases_lt id (length blocks)) [
    | inl below ↦
        let sums = sum_by-set (λ it. cond (is_placed test it) 1 0) blocks id (Some block) None below in
        let before = ap {B = ℕ} (λ it. cond (is_placed test it) 1 0) dead in
        let same : with_block blocks id block ≡ set blocks id (Some block) = grind (arith, nat_tests) in
        rw same (omega (arith, sums, before))
    | inr past ↦
        let sums = sum_by_push (λ it. cond (is_placed test it) 1 0) blocks (Some block) in
        let same : with_block blocks id block ≡ blocks ++ Some block ∷ [] = grind (arith, nat_tests) in
        rw same sums
  ]
