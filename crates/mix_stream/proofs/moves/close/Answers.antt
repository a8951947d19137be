use Rattle.std.proofs.Common.{◌≡◌, Some, rules}
use Rattle.mix_stream.proofs.Drained.{own_pinned}
use Rattle.mix_stream.proofs.moves.close.Goals as goal

pub unpin-block-requires : goal.unpin-block-requires
unpin-block-requires g c =
    let shown : c.args.stream.now.shown ≡ Some c.in-Some.pinned = search rules in
    record { own = own_pinned c.args.hand.now.pool c.args.stream.now.shown c.in-Some.pinned shown c.requires.own }
