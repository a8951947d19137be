use Rattle.std.proofs.Common.{◌≡◌, ◌++◌, map, drop}
use Rattle.std.specs.List.{filter_map}
use Rattle.script_defs.specs.Reading.{earlier_named}
use Rattle.script_read.specs.Knowing.{known_in, earlier_at}
use Rattle.script_read.specs.Sentences.{words_in}
use Rattle.script_read.proofs.known.Known.operands.Given as goal

abbrev pub invariant-loop-name : goal.invariant-loop-name
invariant-loop-name l =
    map earlier_at l.lines.items ++ filter_map (earlier_named (known_in l.self)) (words_in (drop l.name-index l.names))
    ≡ filter_map (earlier_named (known_in l.self)) (words_in l.names)
