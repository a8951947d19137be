use Rattle.std.proofs.Common.{rules, ◌≡◌, ◌∷◌, List, sym, subst, ◌∙◌, arith}
use Rattle.std.specs.Prelude.{All}
use Rattle.std.proofs.lemmas.List.Elements.{All-head, All-tail}
use Rattle.std.specs.Vec.Iter.{into_iter_items}
use Rattle.multiplexer.specs.declared.packet.Packet.{Packet}
use Rattle.stock_tests.proofs.Posting.{all_blocks}
use Rattle.stock_tests.proofs.stock.mail.read_all.Goals as goal

pub loop-packet-init : goal.loop-packet-init
loop-packet-init g c =
    let pool = c.args.hand.now.pool in
    let Q : List Packet → Type 0 = λ l. All (λ (p : Packet). p.block.pool ≡ pool) l in
    let items : into_iter_items c.into_iter-packet-iterator.result ≡ c.args.inbox.packets.items = search rules in
    record { pool = search rules; permit = c.requires.permit; left = subst Q (sym items) (all_blocks pool c.args.inbox.packets.items c.requires.own) }

pub pin-requires-clause-own : goal.pin-requires-clause-own
pin-requires-clause-own g c =
    let i = c.loop-packet.invariant in
    let pool = c.args.hand.now.pool in
    let P : Packet → Type 0 = λ p. p.block.pool ≡ pool in
    let Q : List Packet → Type 0 = λ l. All P l in
    let step : into_iter_items c.loop-packet.packet-iterator ≡ c.in-Some.packet ∷ into_iter_items c.next.new.self = search rules in
    All-head P c.in-Some.packet (into_iter_items c.next.new.self) (subst Q step i.left) ∙ sym i.pool

pub loop-packet-preserved : goal.loop-packet-preserved
loop-packet-preserved g c =
    let i = c.loop-packet.invariant in
    let pool = c.args.hand.now.pool in
    let P : Packet → Type 0 = λ p. p.block.pool ≡ pool in
    let Q : List Packet → Type 0 = λ l. All P l in
    let step : into_iter_items c.loop-packet.packet-iterator ≡ c.in-Some.packet ∷ into_iter_items c.next.new.self = search rules in
    record {
      pool = c.unpin-block.ensures.pool ∙ c.pin.ensures.pool ∙ i.pool;
      permit = let more = c.unpin-block.ensures.permits in omega arith;
      left = All-tail P c.in-Some.packet (into_iter_items c.next.new.self) (subst Q step i.left);
    }
