-- An interrupted read took nothing.
use Rattle.std.proofs.Common.{◌≡◌, length}
use Rattle.std.specs.Io.KnownBytes.{Keeps}
use Rattle.dia_edge.proofs.dir_shelf.read_some.Given as goal

abbrev pub invariant-loop : goal.invariant-loop
invariant-loop g l = (length l.into ≡ length l.fn.into) × Keeps (g.F.Read.remaining l.fn.file) (g.F.Read.remaining l.file)
