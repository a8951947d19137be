-- What a hand notes of blocks that are made, and of those that are freed.
use Rattle.std.specs.Prelude.{◌≡◌, ℕ, ◌+◌}
use Rattle.block_pool.specs.Handles.{Notes}

-- of so many blocks so many are left: the others are gone, and none was made
abbrev pub Frees : ℕ → ℕ → Notes → Notes → Type 0
Frees blocks left before after = (after.made ≡ before.made) × (after.gone + left ≡ before.gone + blocks)

-- so many blocks became so many: the new ones were made, and none is gone
abbrev pub Makes : ℕ → ℕ → Notes → Notes → Type 0
Makes blocks more before after = (after.made + blocks ≡ before.made + more) × (after.gone ≡ before.gone)
