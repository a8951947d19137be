use Rattle.std.proofs.Common.{◌≡◌, drop}
use Rattle.script_read.specs.Knowing.{named_among}
use Rattle.script_read.proofs.known.find_named.Given as goal

abbrev pub invariant-loop-line : goal.invariant-loop-line
invariant-loop-line l = named_among (drop l.line-index l.lines) l.word ≡ named_among l.lines l.word
