-- What stands ready before a phase that sends.
use Rattle.std.specs.Prelude.{List, length}
use Rattle.std.specs.declared.alloc.Global.{Global}
use Rattle.crossbeam_queue.specs.SegTies.{SegId}
use Rattle.row_defs.specs.declared.kind.Kind.{Kind}
use Rattle.multiplexer.specs.Sending.{SendValue}
use Rattle.multiplexer.specs.Receiving.{RecvValue}
use Rattle.multiplexer.specs.Mails.{AreNewSends, AreNewRecvs}
use Rattle.multiplexer.specs.declared.post.Post.{Ghosts}
use Rattle.exchange.specs.Serving.{ScatterValue}
use Rattle.scatter.specs.Phases.{AllThree}
use Rattle.link.specs.declared.ending.Ended.{Ended}
use Rattle.link.specs.Scattering.{IsFreshScatter, HasRoomFor}

-- fresh scatters by these routes over new ends of this mail, the ends to receive through, and room
pub record IsMadeReady {D F : Type 0} (p : Ghosts SendValue) (kinds : List Kind) (mail : List (SegId Global)) (routes : List F) (scatters : List (ScatterValue F SendValue)) (recvs : List RecvValue) (room : Ended D SendValue) : Type 0 where
  pub sends : List SendValue
  pub new_sends : AreNewSends mail sends
  pub new_recvs : AreNewRecvs mail recvs
  pub fresh : AllThree (IsFreshScatter p kinds (length mail)) routes sends scatters
  pub room_is : HasRoomFor (length mail) room
