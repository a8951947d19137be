-- Each state of a hand follows itself, and what follows a later state follows the earlier one.
use Rattle.std.specs.Prelude.{refl}
use Rattle.std.proofs.Common.{◌∙◌}
use Rattle.std.proofs.Math.Nat.{le_refl, le_trans}
use Rattle.block_pool.specs.Handles.{HandValue, Notes, Grown, Follows}

pub grown_refl : (a : Notes) → Grown a a
grown_refl a = record { hits = le_refl a.hits; left = (le_refl a.left.faults, le_refl a.left.writes); made = le_refl a.made; gone = le_refl a.gone }

pub grown_trans : (a b c : Notes) → Grown a b → Grown b c → Grown a c
grown_trans a b c p q = record { hits = le_trans p.hits q.hits; left = (le_trans p.left.0 q.left.0, le_trans p.left.1 q.left.1); made = le_trans p.made q.made; gone = le_trans p.gone q.gone }

pub follows_refl : (a : HandValue) → Follows a a
follows_refl a = record { pool = refl; grown = grown_refl a.notes }

pub follows_trans : (a b c : HandValue) → Follows a b → Follows b c → Follows a c
follows_trans a b c p q = record { pool = q.pool ∙ p.pool; grown = grown_trans a.notes b.notes c.notes p.grown q.grown }
