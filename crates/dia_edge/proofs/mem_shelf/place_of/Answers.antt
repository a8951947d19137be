use Rattle.std.proofs.Common.{◌≡◌, true, ◌∙◌}
use Rattle.std.specs.Str.{bytes_eq}
use Rattle.dia_edge.proofs.FileLemmas.{found_at}
use Rattle.dia_edge.proofs.mem_shelf.place_of.Goals as goal

pub returns-then-eq : goal.returns-then-eq
returns-then-eq c =
    let same : bytes_eq c.index-files-place.result.0 c.args.name.now ≡ true = cc in
    c.loop-place.invariant
    ∙ found_at _ c.loop-place.place _ c.index-files-place.result c.loop-place-test.true c.index-files-place.is same
