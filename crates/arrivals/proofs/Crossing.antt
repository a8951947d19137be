-- A reader may be moved to another thread, since each of its parts may.
use denote.Param.Send.{IsSend, sendable}
use Rattle.std.proofs.Crossing.{crosses}
use Rattle.atomic_table.proofs.badge.Badge.TheSendSync as badge
use Rattle.cat_stream.specs.contracts.cat_reader.CatReader as cat_reader

pub reader_send : IsSend cat_reader.the_field.row
reader_send = search (sendable, crosses, badge.the_send) depth 60 fits 100000
