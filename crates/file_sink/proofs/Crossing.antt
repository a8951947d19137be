-- A sink that writes a file may be moved to another thread.
use denote.RattleType.{RattleType}
use denote.Param.Send.{IsSend, IsSync, sendable}
use Rattle.std.proofs.Crossing.{crosses}
use Rattle.atomic_table.proofs.badge.Badge.TheSendSync as badge
use Rattle.file_sink.specs.contracts.file_sink.FileSink as file_sink
use Rattle.file_sink.specs.contracts.numbered_sink.NumberedSink as numbered_sink

pub file_sink_send : (ℓ : _) (D : RattleType) (d : _) → IsSync D → IsSend D → IsSend (file_sink.the_row ℓ D d)
file_sink_send ℓ D d sync send = search (sendable, crosses, badge.the_send) depth 60 fits 300000

pub numbered_sink_send : (ℓ : _) (D : RattleType) (d : _) → IsSync D → IsSend D → IsSend (numbered_sink.the_row ℓ D d)
numbered_sink_send ℓ D d sync send = search (sendable, crosses, file_sink_send) depth 60 fits 300000
