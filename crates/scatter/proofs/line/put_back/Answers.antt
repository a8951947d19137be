use Rattle.std.proofs.Common.{◌≡◌, ◌<◌, Option, Some, IsSome, length, refl, sym, ap, subst, arith}
use Rattle.std.specs.Prelude.{slice_set}
use Rattle.std.specs.Vec.{with_item}
use Rattle.scatter.specs.declared.line.Line.{Line}
use Rattle.scatter.specs.Lines.{LineValue, line_value, lines_in, with_parts, Sets}
use Rattle.scatter.proofs.Changes.{is_there, is_seen, written, within}
use Rattle.scatter.proofs.line.put_back.Goals as goal

pub unreachable-requires : goal.unreachable-requires
unreachable-requires c =
    let P : Option LineValue → Type 0 = λ o. IsSome o in
    let one : IsSome (Some c.requires.lent.0) = refl in
    is_there c.args.lines.now c.args.number (subst P (sym c.requires.lent.1) one) (sym c.in_default.ensures.value)

pub index_mut-requires : goal.index_mut-requires
index_mut-requires c =
    let line = c.requires.lent.0 in
    let same = is_seen c.args.lines.now c.args.number c.in-Some.line.now line (sym c.in-Some.ensures.value) c.requires.lent.1 in
    let long = ap (λ (l : LineValue). length l.parts) same in
    let inside : c.args.rank < length line.parts = within line.parts c.args.rank _ c.requires.lent.2 in
    omega arith

pub returns : goal.returns
returns c = λ line there.
    let now : Line = record { kinds = c.in-Some.line.now.kinds; parts = with_item c.in-Some.line.now.parts c.args.rank (Some c.args.file) } in
    let new = c.get_mut.follows.lender now in
    let same = is_seen c.args.lines.now c.args.number c.in-Some.line.now line (sym c.in-Some.ensures.value) there in
    let P : Option LineValue → Type 0 = λ w. Sets (lines_in c.args.lines.now) c.args.number w (lines_in new) in
    let e : Some (line_value now) ≡ Some (with_parts line (slice_set line.parts c.args.rank (Some c.args.file))) = λ i. Some (record { kinds = (same i).kinds; parts = slice_set (same i).parts c.args.rank (Some c.args.file) }) in
    subst P e (written c.args.lines.now new c.args.number c.in-Some.line.now now (sym c.in-Some.ensures.value) (c.get_mut.follows.holds now).3)
