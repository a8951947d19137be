use Rattle.std.proofs.Common.{sym, ap, ◌∙◌}
use Rattle.scatter.specs.Lines.{LineValue}
use Rattle.scatter.proofs.Changes.{is_there, is_seen, sets}
use Rattle.scatter.proofs.line.take_parts.Goals as goal

pub unreachable-requires : goal.unreachable-requires
unreachable-requires c = is_there c.args.lines.now c.args.number c.requires (sym c.remove.ensures.value ∙ c.in_default.is)

pub returns-clause-parts : goal.returns-clause-parts
returns-clause-parts c = λ line there.
    ap (λ (l : LineValue). l.parts) (is_seen c.args.lines.now c.args.number c.in-Some.field-0 line (sym c.remove.ensures.value ∙ c.in-Some.is) there)

pub returns-clause-lines : goal.returns-clause-lines
returns-clause-lines c = sets c.args.lines.now c.remove.new.self c.args.number _ c.remove.ensures.updates
