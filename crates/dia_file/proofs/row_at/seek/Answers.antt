use Rattle.std.proofs.Common.{◌<◌, length, arith, refl}
use Rattle.dia_file.proofs.Splitting.{sought_on, sought_past}
use Rattle.dia_file.proofs.row_at.seek.Goals as goal

pub loop-sealed-preserved-then-sealed-gt0 : goal.loop-sealed-preserved-then-sealed-gt0
loop-sealed-preserved-then-sealed-gt0 c =
    let e = c.in-Some.ensures in
    let ok = c.args.sealed.now.ok.0 in
    let within : c.loop-sealed.at < length c.args.sealed.now.items = let v = e.variant.0 refl in omega (arith, v, ok) in
    sought_on c.args.sealed.now.items c.args.i c.loop-sealed.start c.loop-sealed.before c.loop-sealed.at c.in-Some.sealed.now c.loop-sealed.invariant within e.lookup c.if-sealed-i.false c.if-sealed-gt0.true

pub loop-sealed-preserved : goal.loop-sealed-preserved
loop-sealed-preserved c =
    let e = c.in-Some.ensures in
    let ok = c.args.sealed.now.ok.0 in
    let within : c.loop-sealed.at < length c.args.sealed.now.items = let v = e.variant.0 refl in omega (arith, v, ok) in
    let none = c.if-sealed-gt0.false in
    sought_past c.args.sealed.now.items c.args.i c.loop-sealed.start c.loop-sealed.before c.loop-sealed.at c.in-Some.sealed.now c.loop-sealed.invariant within e.lookup (omega (arith, none))
