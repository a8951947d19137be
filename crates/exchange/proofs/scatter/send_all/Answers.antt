use Rattle.std.proofs.Common.{◌≤◌, length, arith}
use Rattle.exchange.specs.Dealing.{same_post_too}
use Rattle.exchange.proofs.Sending.{sent_one, all_back}
use Rattle.exchange.proofs.scatter.send_all.Goals as goal

pub loop-to-preserved : goal.loop-to-preserved
loop-to-preserved g c =
    let e = c.in_ok-send_slot.ensures in
    let before = c.loop-to.frames.ok in
    let after = c.send_slot.new.frames.ok in
    let i = c.loop-to.invariant in (
      sent_one _ _ _ _ _ _ _ _ _ _ i.0 (omega (arith, c.loop-to-test.true, c.requires.lanes)) e.sent e.none e.others (omega (arith, e.len, before, after)) e.own e.permits e.follows,
      same_post_too g.P.Post _ _ _ i.1 e.same,
    )

pub returns-clause-permits : goal.returns-clause-permits
returns-clause-permits g c =
    let ok = c.args.frames.now.ok in
    let whole : length c.args.frames.now.items ≤ c.loop-to.to = omega (arith, ok, c.requires.len, c.loop-to-test.false) in
    all_back _ _ _ _ _ _ _ c.loop-to.invariant.0 whole
