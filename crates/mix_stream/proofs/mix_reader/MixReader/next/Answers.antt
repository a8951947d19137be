use Rattle.std.proofs.Common.{◌≡◌, ◌+◌, ◌≤◌, List, refl, sym, ap, subst, arith}
use Rattle.row_defs.specs.Rows.{Row, IsRow}
use Rattle.row_defs.specs.declared.kind.Kind.{Kind}
use Rattle.dia_item.specs.KindList.{kind_list}
use Rattle.dia_item.specs.Lent.{row_in_ref}
use Rattle.dia_file.specs.Encoding.{spelled}
use Rattle.block_pool.specs.Handles.{AreOfPool}
use Rattle.block_pool.specs.Follows.{follows_refl}
use Rattle.mix_stream.specs.Packets.{Rises}
use Rattle.mix_stream.specs.Reading.{Reading, IsNext, Drains, blocks_of, pins}
use Rattle.mix_stream.specs.Streams.{reading_of}
use Rattle.mix_stream.specs.declared.stream.Stream.{Stream}
use Rattle.mix_stream.proofs.Moved.{gives_next, gives_rising}
use Rattle.mix_stream.proofs.Drained.{drains_given, pins_le}
use Rattle.mix_stream.proofs.mix_reader.MixReader.next.Goals as goal

pub returns-in-Some : goal.returns-in-Some
returns-in-Some g c =
    let a = c.args.hand.now in
    let old : Reading = c.args.self.now in
    let s : Stream = c.self.inside.stream in
    let t : Stream = c.in_block.new.stream in
    let place = c.in-Some.place in
    let gives = c.in-Some.ensures.some in
    let is = c.self.view_is in
    let own = subst (λ (r : Reading). AreOfPool a.pool (blocks_of r)) (sym is) c.requires.own in
    let given = gives_next a.pool s place t gives in
    let is_row = subst (λ (kinds : List Kind). IsRow kinds (spelled given.row) given.row) (ap kind_list (sym gives.kinds)) given.next.is_row in
    let row : row_in_ref c.row_at.result ≡ given.row = c.row_at.ensures given.row (spelled given.row) given.lies is_row in
    let first : IsNext a.pool t.from given.row old (reading_of t) = subst (λ (r : Reading). IsNext a.pool t.from given.row r (reading_of t)) is given.next in
    let next = subst (λ (x : Row). IsNext a.pool t.from x old (reading_of t)) (sym row) first in
    let rises = subst (λ (r : Reading). Rises r.from r.packets → Rises t.from t.packets.items) is (gives_rising s place t gives) in
    let drained = subst (λ (r : Reading). Drains a a r (reading_of t)) is (drains_given a s place t own gives) in
    let room : a.permits + pins old ≤ a.permits + 1 = omega (arith, pins_le s.shown, ap pins is) in
    ((refl, λ _. tt, ((next, tt), tt, rises, drained)), record { refused = tt; room = room; follows = follows_refl a; after = tt })
