use Rattle.std.proofs.Common.{ap, arith, ◌∙◌}
use Rattle.pool_tests.proofs.Sharing.{adds, within, rises, share_after, share_within}
use Rattle.pool_tests.proofs.turn.counter.Counter.add.Goals as goal

pub give-requires-clause-rule : goal.give-requires-clause-rule
give-requires-clause-rule g c = (c.take-tally.result.total, c.take-tally.ensures.holds.0, adds _ _ _ (rises _ _ _ _ c.add-found.ensures.added))

pub returns-clause-added : goal.returns-clause-added
returns-clause-added g c = let e = c.take-tally.ensures.holds.1 ∙ ap (λ share. share.amount) c.part.view_is in
    let v = c.give.ensures.view _ c.take-tally.ensures.holds.0 in share_after _ _ _ _ _ _ c.add-found.ensures.added (omega arith)

pub returns-clause-found : goal.returns-clause-found
returns-clause-found g c = let b = within _ _ c.take-tally.ensures.meets in let e = ap (λ share. share.amount) c.part.view_is in
    share_within _ _ _ _ _ c.add-found.ensures.added (omega arith)
