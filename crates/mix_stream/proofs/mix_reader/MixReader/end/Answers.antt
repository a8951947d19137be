use Rattle.std.proofs.Common.{sym, subst}
use Rattle.block_pool.specs.Handles.{AreOfPool}
use Rattle.mix_stream.specs.Reading.{Reading, blocks_of}
use Rattle.mix_stream.proofs.Turning.{closed_own}
use Rattle.mix_stream.proofs.mix_reader.MixReader.end.Goals as goal

pub free_all-requires : goal.free_all-requires
free_all-requires g c =
    let a = c.args.hand.now in
    let own = subst (λ (r : Reading). AreOfPool a.pool (blocks_of r)) (sym c.self.view_is) c.requires.own in
    record { own = closed_own a c.close.new.hand c.self.inside.stream c.close.new.stream own c.close.ensures.stream c.close.ensures.follows }
