use Rattle.exchange.specs.Dealing.{SamePost}
use Rattle.exchange.proofs.Sending.{SentSoFar}
use Rattle.exchange.proofs.scatter.send_all.Given as goal

abbrev pub invariant-loop-to : goal.invariant-loop-to
invariant-loop-to g l =
    SentSoFar l.fn.hand (g.P.Post.sent l.fn.post) l.fn.frames.items l.hand (g.P.Post.sent l.post) l.frames.items l.to × SamePost g.P.Post l.fn.post l.post
