use Rattle.std.proofs.Common.{◌≡◌, None, [], map, sym, ◌∙◌, rules}
use Rattle.script_defs.specs.Reading.{operands_in, first_cause, tests_of}
use Rattle.script_read.specs.Knowing.{known_in, earlier_at}
use Rattle.script_read.specs.Sentences.{sentence_in}
use Rattle.script_read.proofs.AcceptedLemmas.{accepted}
use Rattle.script_read.proofs.Printables.{args_printable}
use Rattle.script_read.proofs.WordLemmas.{statable_so, tells_so}
use Rattle.script_read.proofs.line.read_word.Goals as goal

pub state-requires-clause-fits : goal.state-requires-clause-fits
state-requires-clause-fits c =
    let known = known_in c.args.known.now in
    let s = sentence_in c.args.s.now in
    let shape = c.shape_in-shape.result in
    let are : map earlier_at c.as_slice-operands.result.now ≡ operands_in known shape s.args = search rules in
    let none : first_cause (tests_of known c.args.line.now s shape) ≡ None = sym c.cause_of.ensures ∙ c.in-None.is in
    statable_so known c.args.line.now s c.args.word shape _ c.shape_in-shape.ensures are none

pub state-requires-clause-texts : goal.state-requires-clause-texts
state-requires-clause-texts c =
    let known = known_in c.args.known.now in
    let s = sentence_in c.args.s.now in
    let shape = c.shape_in-shape.result in
    let none : first_cause (tests_of known c.args.line.now s shape) ≡ None = sym c.cause_of.ensures ∙ c.in-None.is in
    args_printable s.defines s.args (c.requires (accepted known c.args.line.now s shape none).1)

pub line_read-requires-clause-tells : goal.line_read-requires-clause-tells
line_read-requires-clause-tells c =
    let known = known_in c.args.known.now in
    let s = sentence_in c.args.s.now in
    let shape = c.shape_in-shape.result in
    let are : map earlier_at c.as_slice-operands.result.now ≡ operands_in known shape s.args = search rules in
    let none : first_cause (tests_of known c.args.line.now s shape) ≡ None = sym c.cause_of.ensures ∙ c.in-None.is in
    tells_so known c.args.line.now s c.args.word shape _ _ c.shape_in-shape.ensures are none (c.in_ok-stated-in-None.ensures [])
