use Rattle.std.proofs.Common.{◌∙◌, rules}
use Rattle.dia_edge.proofs.ShelfLemmas.{stays_then}
use Rattle.thrill_top.proofs.ReadLemmas.{buffer_more}
use Rattle.thrill_top.proofs.read.fill_buffer.Goals as goal

pub loop-total-preserved : goal.loop-total-preserved
loop-total-preserved g c = record {
  within = search rules;
  prefix = buffer_more (g.N.Shelf.left c.args.shelf.now) (g.N.Shelf.left c.loop-total.shelf) (g.N.Shelf.left c.read.new.self) c.loop-total.buffer
      c.split_at_mut-room.result.0.now c.read.new.into c.loop-total.total c.in_ok-n.n c.loop-total.invariant.prefix c.split_at_mut-room.ensures.front
      c.split_at_mut-room.ensures.front_len c.in_ok-n.ensures.prefix;
  stays = stays_then g.N.Shelf.holds g.N.Shelf.left g.N.Shelf.asked g.N.Shelf.is_fixed g.N.Shelf.faults c.args.shelf.now c.loop-total.shelf c.read.new.self
      c.loop-total.invariant.stays c.in_ok-n.ensures.stays;
  asked = c.in_ok-n.ensures.reads.names ∙ c.loop-total.invariant.asked;
}
