use Rattle.std.proofs.Common.{◌≡◌, drop, is_none}
use Rattle.std.specs.List.{list_any}
use Rattle.script_defs.specs.Reading.{earlier_named}
use Rattle.script_read.specs.Knowing.{known_in}
use Rattle.script_read.specs.Sentences.{words_in}
use Rattle.script_read.proofs.causes.is_any_unknown.Given as goal

abbrev pub invariant-loop-name : goal.invariant-loop-name
invariant-loop-name l =
    list_any (λ w. is_none (earlier_named (known_in l.known) w)) (words_in (drop l.name-index l.names))
    ≡ list_any (λ w. is_none (earlier_named (known_in l.known) w)) (words_in l.names)
