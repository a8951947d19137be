use Rattle.std.proofs.Common.{◌≡◌, ◌≤◌, ◌+◌, [], length, map}
use Rattle.row_defs.specs.Pieces.{pieces_from, lines_of}
use Rattle.script_defs.specs.Reading.{nothing_known, reading_from}
use Rattle.script_read.specs.Answering.{after_all}
use Rattle.script_read.specs.Knowing.{known_in}
use Rattle.script_read.specs.Statements.{numbered_in}
use Rattle.script_read.proofs.reader.read_lines.Given as goal

abbrev pub invariant-loop-rest : goal.invariant-loop-rest
invariant-loop-rest l = record {
  reads : after_all (map numbered_in l.reader.statements.items) (reading_from (known_in l.reader.known) l.n (pieces_from 10 [] l.rest))
      ≡ reading_from nothing_known 1 (lines_of l.bytes);
  few : l.n + length l.rest ≤ length l.bytes + 1;
}

abbrev pub decreases-loop-rest : goal.decreases-loop-rest
decreases-loop-rest l = length l.rest
