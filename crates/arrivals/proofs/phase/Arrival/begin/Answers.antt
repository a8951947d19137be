use Rattle.std.proofs.Common.{rules, ◌≡◌, ◌<◌, ◌≤◌, length, sym, ap, subst, ◌∙◌, arith, vec_len}
use Rattle.std.specs.Prelude.{vec_capacity}
use Rattle.dia_item.specs.KindList.{kind_list}
use Rattle.scatter.specs.Carrying.{AreForHand}
use Rattle.scatter.specs.Phases.{AllThree, CanTake}
use Rattle.scatter.proofs.Threes.{three_long, zip_long}
use Rattle.arrivals.specs.Phases.{IsReaderOf, HasStarted, HasBegun, HasRoomFor}
use Rattle.arrivals.proofs.Turns.{begun, begun_own, can_all}
use Rattle.arrivals.proofs.phase.Arrival.begin.Goals as goal

pub pair_all-requires-clause-long : goal.pair_all-requires-clause-long
pair_all-requires-clause-long g c =
    let kinds = kind_list c.args.kinds in
    let hands = c.args.hands.now.items in
    let xs = c.args.boxes.items in
    let rs = c.in_ok-readers.readers.items in
    let ss = c.args.sinks.now.items in
    let moved : length c.replace.result.items ≡ length rs =
    ap (λ v. length v.items) c.replace.ensures.value ∙ zip_long (CanTake g.S.RowSink kinds) ss hands c.requires.can ∙ zip_long AreForHand hands xs c.requires.own
    ∙ zip_long (IsReaderOf kinds) xs rs c.in_ok-readers.ensures in
    omega arith

pub pair_all-requires-clause-room : goal.pair_all-requires-clause-room
pair_all-requires-clause-room g c =
    let kinds = kind_list c.args.kinds in
    let hands = c.args.hands.now.items in
    let xs = c.args.boxes.items in
    let rs = c.in_ok-readers.readers.items in
    let ss = c.args.sinks.now.items in
    let many : length ss ≡ length rs = zip_long (CanTake g.S.RowSink kinds) ss hands c.requires.can ∙ zip_long AreForHand hands xs c.requires.own ∙ zip_long (IsReaderOf kinds) xs rs c.in_ok-readers.ensures in
    let room : c.len.result ≤ vec_capacity c.in_ok-works.works = search rules in
    let count : c.len.result ≡ vec_len c.args.sinks.now = search rules in
    (search rules, omega arith)

pub returns-clause-begun : goal.returns-clause-begun
returns-clause-begun g c =
    let kinds = kind_list c.args.kinds in
    let hands = c.args.hands.now.items in
    let xs = c.args.boxes.items in
    let rs = c.in_ok-readers.readers.items in
    let ss = c.args.sinks.now.items in
    let ws = c.pair_all.new.works.items in
    let xw : c.of-boxes_were.result.value ≡ c.args.boxes = c.of-boxes_were.ensures in
    let sw : c.of-sinks_were.result.value ≡ c.args.sinks.now = c.of-sinks_were.ensures in
    let bw : c.of-began.result.value ≡ c.pair_all.new.works = c.of-began.ensures in
    let hw : c.of-hands_were.result.value ≡ c.args.hands.now = c.of-hands_were.ensures in
    let started : AllThree HasStarted rs ss ws = subst (λ v. AllThree HasStarted rs v.items ws) c.replace.ensures.value c.pair_all.ensures.started in
    let works : AllThree (HasBegun kinds) xs ss ws = begun kinds xs rs ss ws c.in_ok-readers.ensures started in
    let room : HasRoomFor c.len-2.result c.in_ok-back.back = c.in_ok-back.ensures in
    let many : c.len-2.result ≡ vec_len c.args.sinks.now = search rules in
    let long = three_long (HasBegun kinds) xs ss ws works in
    let count : length ws ≡ length ss = long.1 ∙ sym long.0 in
    record {
      works = rw (xw, sw, bw) works;
      own = rw (bw, hw) (begun_own kinds xs ss ws hands works c.requires.own);
      room = rw bw (record {
        no_hands = room.no_hands;
        no_sinks = room.no_sinks;
        for_hands = let n = room.for_hands in omega arith;
        for_sinks = let n = room.for_sinks in omega arith;
      });
      rests = c.requires.rests;
    }

pub returns-clause-ready : goal.returns-clause-ready
returns-clause-ready g c =
    let kinds = kind_list c.args.kinds in
    let hands = c.args.hands.now.items in
    let xs = c.args.boxes.items in
    let rs = c.in_ok-readers.readers.items in
    let ss = c.args.sinks.now.items in
    let ws = c.pair_all.new.works.items in
    let started : AllThree HasStarted rs ss ws = subst (λ v. AllThree HasStarted rs v.items ws) c.replace.ensures.value c.pair_all.ensures.started in
    let works : AllThree (HasBegun kinds) xs ss ws = begun kinds xs rs ss ws c.in_ok-readers.ensures started in
    let some : 0 < length kinds = search rules in
    can_all g.S.RowSink c.laws_of.ensures c.requires.rests kinds some xs ss ws hands works c.requires.own c.requires.can

pub returns-clause-len : goal.returns-clause-len
returns-clause-len g c =
    let kinds = kind_list c.args.kinds in
    let hands = c.args.hands.now.items in
    let xs = c.args.boxes.items in
    let rs = c.in_ok-readers.readers.items in
    let many : length hands ≡ length rs = zip_long AreForHand hands xs c.requires.own ∙ zip_long (IsReaderOf kinds) xs rs c.in_ok-readers.ensures in
    let len : vec_len c.pair_all.new.works ≡ vec_len c.in_ok-readers.readers = c.pair_all.ensures.len in
    omega arith
