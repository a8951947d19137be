use Rattle.std.proofs.Common.{◌≡◌, Option, Some, sym, ap, ◌∙◌, subst}
use Rattle.scatter.specs.declared.line.Line.{Line}
use Rattle.scatter.specs.Lines.{LineValue, line_value, lines_in, with_parts, Sets}
use Rattle.scatter.proofs.Changes.{is_there, is_seen, written}
use Rattle.scatter.proofs.line.replace_parts.Goals as goal

pub unreachable-requires : goal.unreachable-requires
unreachable-requires c =
    is_there c.args.lines.now c.args.number c.requires (sym c.in_default.ensures.value)

pub returns-clause-parts : goal.returns-clause-parts
returns-clause-parts c = λ line there.
    ap (λ v. v.items) c.replace.ensures.value ∙ ap (λ (l : LineValue). l.parts) (is_seen c.args.lines.now c.args.number c.in-Some.line.now line (sym c.in-Some.ensures.value) there)

pub returns-clause-lines : goal.returns-clause-lines
returns-clause-lines c = λ line there.
    let now : Line = record { kinds = c.in-Some.line.now.kinds; parts = c.replace.new.dest } in
    let new = c.get_mut.follows.lender now in
    let same = is_seen c.args.lines.now c.args.number c.in-Some.line.now line (sym c.in-Some.ensures.value) there in
    let P : Option LineValue → Type 0 = λ w. Sets (lines_in c.args.lines.now) c.args.number w (lines_in new) in
    let after = c.replace.ensures.after in
    let e : Some (line_value now) ≡ Some (with_parts line c.args.parts.items) = λ i. Some (record { kinds = (same i).kinds; parts = (after i).items }) in
    subst P e (written c.args.lines.now new c.args.number c.in-Some.line.now now (sym c.in-Some.ensures.value) (c.get_mut.follows.holds now).3)
