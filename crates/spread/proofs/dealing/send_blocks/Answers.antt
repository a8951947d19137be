use Rattle.std.proofs.Common.{rules, ◌≡◌, [], ◌∷◌, ◌++◌, length, ap, arith, length-append}
use Rattle.std.specs.Prelude.{slice_index_or}
use Rattle.std.specs.Vec.Iter.{into_iter_items}
use Rattle.lent_step.proofs.Lists.{yield_more}
use Rattle.spread.proofs.BlocksSent.{went_none, went_more}
use Rattle.spread.proofs.dealing.send_blocks.Goals as goal

pub loop-block-init : goal.loop-block-init
loop-block-init g c = record { rest = search rules; went = went_none c.args.to c.args.send.now }

pub loop-block-preserved : goal.loop-block-preserved
loop-block-preserved g c =
    let i = c.loop-block.invariant in
    let step : into_iter_items c.loop-block.block-iterator ≡ c.in-Some.block ∷ into_iter_items c.next.new.self = search rules in
    let same = c.send.ensures.same in
    record {
      rest = yield_more c.loop-block.yielded _ _ c.args.blocks.items c.in-Some.block step i.rest;
      went = went_more c.args.to c.loop-block.yielded c.in-Some.block c.args.send.now c.loop-block.send c.send.new.self c.requires.to.1 i.went same.0 same.1 c.in-Ok.ensures.sent;
    }

pub send-requires : goal.send-requires
send-requires g c =
    let i = c.loop-block.invariant in
    let to = c.requires.to.0 in
    let few = c.requires.few in
    let step : into_iter_items c.loop-block.block-iterator ≡ c.in-Some.block ∷ into_iter_items c.next.new.self = search rules in
    let all : length (c.loop-block.yielded ++ into_iter_items c.loop-block.block-iterator) ≡ length c.args.blocks.items = ap length i.rest in
    let left : length (into_iter_items c.loop-block.block-iterator) ≡ length (c.in-Some.block ∷ into_iter_items c.next.new.self) = ap length step in
    let parts = length-append c.loop-block.yielded (into_iter_items c.loop-block.block-iterator) in
    let here = ap length i.went.here in
    let before = slice_index_or c.args.send.now.sent c.args.to [] in
    let both = length-append before c.loop-block.yielded in
    let mail = ap length i.went.mail in
    record { to = omega (arith, mail, to); room = omega (arith, few, all, left, parts, here, both) }
