use Rattle.dia_file.specs.Readers.{spot}
use Rattle.dia_file.proofs.ReaderLemmas.{placed_at}
use Rattle.dia_file.proofs.Keeping.{own_items}
use Rattle.dia_file.proofs.EndLemmas.{reset}
use Rattle.dia_file.proofs.keep.KeepReader.end.Goals as goal

pub put_back-requires-clause-placed : goal.put_back-requires-clause-placed
put_back-requires-clause-placed g c =
    let r = c.self.inside in
    let own = own_items r _ c.args.hand.now.pool c.self.view_is c.requires.own in
    reset c.args.hand.now.pool r.place r.at r.here r.kept
    (placed_at c.self.invariant.reading.pool c.args.hand.now.pool (spot r) c.self.invariant.reading.placed own)
