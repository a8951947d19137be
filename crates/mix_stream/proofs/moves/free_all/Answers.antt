use Rattle.std.proofs.Common.{◌≡◌, ◌∷◌, length, ap, ◌∙◌, arith}
use Rattle.block_pool.specs.Follows.{follows_trans}
use Rattle.mix_stream.proofs.Turning.{own_after}
use Rattle.mix_stream.proofs.moves.free_all.Goals as goal

pub loop-packet-preserved : goal.loop-packet-preserved
loop-packet-preserved g c =
    let i = c.loop-packet.invariant in
    let f = c.free.ensures in
    let items : c.loop-packet.packets.items ≡ c.in-Some.packet ∷ c.pop_front.new.self.items = c.in-Some.ensures.items in
    let gone = f.gone.1 in
    record {
      own = own_after c.loop-packet.hand.pool c.free.new.self.pool c.in-Some.packet c.loop-packet.packets.items c.pop_front.new.self.items items f.pool i.own;
      permits = f.permits ∙ i.permits;
      gone = omega (arith, gone, i.gone, ap length items);
      made = f.gone.0 ∙ i.made;
      follows = follows_trans c.args.hand.now c.loop-packet.hand c.free.new.self i.follows (record { pool = f.pool; grown = f.grown });
    }
