-- A count that rose did so over any longer stretch.
use Rattle.std.proofs.Common.{ℕ, ◌≤◌, arith}
use Rattle.dia_edge.specs.Counts.{HasRisen, TellsCount}

pub rose_since : (a b c : ℕ) → a ≤ b → HasRisen b c → HasRisen a c
rose_since a b c low rose = omega arith

pub rose_until : (a b c : ℕ) → HasRisen a b → b ≤ c → HasRisen a c
rose_until a b c rose high = omega arith

pub tells_since : (told a b c : ℕ) → a ≤ b → TellsCount told b c → TellsCount told a c
tells_since told a b c low tells = (rose_since a b c low tells.0, tells.1)
