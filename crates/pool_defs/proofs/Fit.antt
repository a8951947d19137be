-- What different live blocks add up to.
use Rattle.std.proofs.Common.{◌≡◌, ◌≢◌, ℕ, suc, ◌+◌, ◌*◌, ◌≤◌, cond, List, [], ◌∷◌, get_or, Option, Some, None, refl, arith}
use Rattle.std.specs.Option.{option_map, unwrap_or}
use Rattle.std.specs.List.{AllPairs, sum_by}
use Rattle.std.proofs.lemmas.List.Sums.{sum_by-cons}
use Rattle.std.proofs.Math.Nat.{mul-le-mul_left, add-mul}
use Rattle.pool_defs.specs.declared.block.Block.{Block}
use Rattle.pool_defs.specs.declared.block.Place.{Place}
use Rattle.pool_defs.specs.declared.block.Place.TheVariants.{Out, Cached, Slot}
use Rattle.pool_defs.specs.Pool.{PoolMachine, is_out, is_cached, is_spilled, is_placed, placed_count, slots_in_use, IsValid}
use Rattle.pool_defs.proofs.Apart.{apart_from_pairs, weigh_apart}
use Rattle.pool_defs.specs.Laws.{length_of, IsAtMost}

-- the length of a block, where one lives
abbrev weight : Option (Block ℕ) → ℕ
weight block = unwrap_or (option_map (λ it. it.content) block) 0

times_more : (c n m most w r : ℕ) → c ≡ n + m → w ≤ n * most → r ≤ m * most → w + r ≤ c * most
times_more c n m most w r is first rest =
    let apart = add-mul n m most in
    rw is (rw apart (omega (arith, first, rest)))

-- where no block is longer than `most`, all of them together are no longer than so many times `most` as there are blocks
weigh_all : (blocks : List (Option (Block ℕ))) (most : ℕ) → ((id : ℕ) → weight (get_or blocks id None) ≤ most)
    → sum_by weight blocks ≤ (placed_count is_out blocks + placed_count is_cached blocks + placed_count is_spilled blocks) * most
weigh_all [] most short = omega arith
weigh_all (block ∷ blocks) most short =
    let rest = weigh_all blocks most (λ id. short (suc id)) in
    let here = one block (short 0) in
    let outs = sum_by-cons (λ it. cond (is_placed is_out it) 1 0) block blocks in
    let cacheds = sum_by-cons (λ it. cond (is_placed is_cached it) 1 0) block blocks in
    let spilleds = sum_by-cons (λ it. cond (is_placed is_spilled it) 1 0) block blocks in
    let sums = sum_by-cons weight block blocks in
    let counted : placed_count is_out (block ∷ blocks) + placed_count is_cached (block ∷ blocks) + placed_count is_spilled (block ∷ blocks)
    ≡ (cond (is_placed is_out block) 1 0 + cond (is_placed is_cached block) 1 0 + cond (is_placed is_spilled block) 1 0)
    + (placed_count is_out blocks + placed_count is_cached blocks + placed_count is_spilled blocks) = omega (arith, outs, cacheds, spilleds) in
    rw sums (times_more _ _ _ most _ _ counted here rest)
  where
    at : (place : Place) (n : ℕ) → n ≤ most → n ≤ (cond (is_out place) 1 0 + cond (is_cached place) 1 0 + cond (is_spilled place) 1 0) * most
    at Out n short = omega arith
    at Cached n short = omega arith
    at (Slot slot) n short = omega arith

    one : (it : Option (Block ℕ)) → weight it ≤ most → weight it ≤ (cond (is_placed is_out it) 1 0 + cond (is_placed is_cached it) 1 0 + cond (is_placed is_spilled it) 1 0) * most
    one None short = omega arith
    one (Some it) short = at it.place it.content short

pub fit : (pool : PoolMachine ℕ) (most : ℕ) (ids : List ℕ) → IsValid pool → IsAtMost pool most → AllPairs (λ id other. id ≢ other) ids → sum_by (length_of pool) ids ≤ (pool.frames + slots_in_use pool) * most
fit pool most ids valid short pairs =
    let some = weigh_apart weight None refl ids pool.blocks (apart_from_pairs ids pairs) in
    let all = weigh_all pool.blocks most short in
    let outs = placed_count is_out pool.blocks in
    let cacheds = placed_count is_cached pool.blocks in
    let spilled = placed_count is_spilled pool.blocks in
    let within : outs + cacheds + spilled ≤ pool.frames + spilled = omega (arith, valid.frames_add_up) in
    let times = mul-le-mul_left most within in
    omega (arith, some, all, times)
