use Rattle.std.proofs.Common.{◌≡◌, ◌≤◌, ◌+◌, [], length}
use Rattle.row_defs.specs.Pieces.{pieces_from, lines_of}
use Rattle.script_read.proofs.reader.has_too_many_lines.Given as goal

abbrev pub invariant-loop-rest : goal.invariant-loop-rest
invariant-loop-rest l = record {
  counted : l.lines + length (pieces_from 10 [] l.rest) ≡ length (lines_of l.bytes);
  few : l.lines + length l.rest ≤ length l.bytes;
}

abbrev pub decreases-loop-rest : goal.decreases-loop-rest
decreases-loop-rest l = length l.rest
