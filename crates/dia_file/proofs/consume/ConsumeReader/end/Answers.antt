use Rattle.std.proofs.Common.{sym, subst}
use Rattle.block_pool.specs.Handles.{PoolName}
use Rattle.dia_file.specs.Frames.{AreBlocksOf}
use Rattle.dia_file.specs.Consumers.{spot}
use Rattle.dia_file.proofs.ReaderLemmas.{placed_at}
use Rattle.dia_file.proofs.Draining.{own_items, ring_own}
use Rattle.dia_file.proofs.EndLemmas.{reset}
use Rattle.dia_file.proofs.consume.ConsumeReader.end.Goals as goal

pub put_back-requires-clause-placed : goal.put_back-requires-clause-placed
put_back-requires-clause-placed g c =
    let r = c.self.inside in
    let own = own_items r _ c.args.hand.now.pool c.self.view_is c.requires.own in
    reset c.args.hand.now.pool r.place r.at r.here r.kept
    (placed_at c.self.invariant.reading.pool c.args.hand.now.pool (spot r) c.self.invariant.reading.placed own)

pub free_all-requires : goal.free_all-requires
free_all-requires g c =
    let e = c.put_back.ensures in
    let P : PoolName → Type 0 = λ q. AreBlocksOf q c.put_back.new.place.ring.items in
    record { own = subst P (sym e.follows.pool) (ring_own c.args.hand.now.pool c.put_back.new.place e.placed) }
