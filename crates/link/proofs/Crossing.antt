-- A scatter through an end of the mail may be moved to another thread.
use denote.RattleType.{RattleType}
use denote.Param.Send.{IsSend, IsSync, sendable}
use Rattle.std.proofs.Crossing.{crosses}
use Rattle.atomic_table.proofs.badge.Badge.TheSendSync as badge
use Rattle.atomic_table.proofs.shared.Shared.TheSendSync as shared
use Rattle.atomic_table.proofs.send_lease.SendLease.TheSendSync as lease
use Rattle.atomic_blocks.proofs.web.Seat.TheSendSync as web_seat
use Rattle.atomic_blocks.proofs.web.Web.TheSendSync as web
use Rattle.multiplexer.specs.contracts.post.SendEnd as send_end
use Rattle.block_pool.specs.contracts.pool.Pool as pool
use Rattle.exchange.specs.contracts.scatter.Scatter as scatter
use Rattle.feed_crossing.proofs.Crossing.{feed_send}
use Rattle.scatter.specs.contracts.sending.Sending as sending
use Rattle.link.specs.contracts.dealer.Dealer as dealer

pub send_end_send : (ℓ : _) → IsSend (send_end.the_row ℓ)
send_end_send ℓ = search (sendable, crosses, badge.the_send, web_seat.the_send, web.the_sync) depth 60 fits 300000

pub pool_sync : (D : RattleType) (d : _) → IsSend D → IsSync D → IsSync (pool.the_row D d)
pool_sync D d send sync = search (sendable, crosses, shared.the_sync, lease.the_sync) depth 80 fits 300000

pub scatter_send : (ℓ : _) (D F P : RattleType) (d : _) → IsSync (pool.the_row D d) → IsSend F → IsSend P → IsSend (scatter.the_row ℓ D F P d)
scatter_send ℓ D F P d own f p = search (sendable, crosses, badge.the_send) depth 60 fits 300000

pub dealer_send : (ℓ : _) (D F P : RattleType) (d : _) → IsSync D → IsSend D → IsSend F → IsSend P → IsSend (dealer.the_row ℓ D F P d)
dealer_send ℓ D F P d sync send f p = search (sendable, crosses, scatter_send, pool_sync) depth 60 fits 300000

pub sending_send : (ℓ : _) (D S : RattleType) → IsSend D → IsSend S → IsSend (sending.the_row ℓ D S)
sending_send ℓ D S send s = search (sendable, crosses, feed_send) depth 60 fits 100000
