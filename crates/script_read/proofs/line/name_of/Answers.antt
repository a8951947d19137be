use Rattle.std.proofs.lemmas.Str.{IsUtf8-from_ascii}
use Rattle.script_read.proofs.Printables.{IsAscii-printable}
use Rattle.script_read.proofs.line.name_of.Goals as goal

pub unreachable-requires : goal.unreachable-requires
unreachable-requires c = c.in-Err.ensures.cases.0 (IsUtf8-from_ascii _ (IsAscii-printable _ c.requires))
