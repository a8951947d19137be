use Rattle.dia_file.proofs.Stacking.{together}
use Rattle.dia_file.proofs.weigh.put_together.Goals as goal

pub invariant_of-result : goal.invariant_of-result
invariant_of-result c =
    let e = c.in_ok-sealed.ensures in
    let a = c.requires.apart in
    let t = together a.0 c.args.shell a.1 a.2 _ _ c.in_ok-sealed.sealed _ _ a.3 e.blocks e.marks e.count in
    t.is_file

pub returns : goal.returns
returns c = λ was bs ms apart.
    let e = c.in_ok-sealed.ensures in
    let t = together was c.args.shell bs ms _ _ c.in_ok-sealed.sealed _ _ apart e.blocks e.marks e.count in
    (t.value, t.blocks, t.marks)
