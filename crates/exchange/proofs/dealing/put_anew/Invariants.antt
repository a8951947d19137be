use Rattle.std.proofs.Common.{◌≡◌, ◌+◌, length}
use Rattle.block_pool.specs.Handles.{Follows}
use Rattle.dia_file.specs.Frames.{frames}
use Rattle.exchange.specs.Dealing.{IsOpenIn, SamePost}
use Rattle.exchange.proofs.Putting.{PutSoFar}
use Rattle.exchange.proofs.dealing.put_anew.Given as goal

abbrev pub invariant-loop-rest : goal.invariant-loop-rest
invariant-loop-rest g l =
    PutSoFar l.fn.hand.pool (g.P.Post.sent l.fn.post) l.to l.fn.frame l.fn.bytes (g.P.Post.sent l.post) l.frame l.rest
    × SamePost g.P.Post l.fn.post l.post × IsOpenIn l.hand.pool l.frame × (l.hand.permits + frames l.frame ≡ l.fn.hand.permits + frames l.fn.frame)
    × Follows l.fn.hand l.hand

abbrev pub decreases-loop-rest : goal.decreases-loop-rest
decreases-loop-rest g l = length l.rest
