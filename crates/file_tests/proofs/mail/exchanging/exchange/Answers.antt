use Rattle.std.proofs.Common.{◌≡◌, ◌<◌, length, subst, refl, sym, arith}
use Rattle.std.proofs.lemmas.Option.{slice_get_within, slice_get_read, get_or_from_slice_get}
use Rattle.file_tests.specs.Workers.{WorkerValue, IsOf, KeepsEnds, pool_of_five}
use Rattle.file_tests.proofs.Ends.{fresh, all_ends}
use Rattle.file_tests.proofs.mail.exchanging.exchange.Goals as goal

pub map_vec-requires-after_bounds : goal.map_vec-requires-after_bounds
map_vec-requires-after_bounds g c κs within i x lt e =
    (fresh c.in_ok-mail.mail.mail c.in_ok-sends.sends.items c.in_ok-workers.workers.items 4 c.in_ok-sends.ensures.0 c.in_ok-workers.ensures.sends c.in_ok-mail.ensures.0 (omega arith) i x lt e, subst (λ (w : WorkerValue). IsOf (pool_of_five c.args.pool.now) w) (sym e) (c.in_ok-workers.ensures.own i x lt))

pub settle-requires : goal.settle-requires
settle-requires g c =
    let js = c.in_ok-workers.workers.items in
    let ds = c.in_ok-workers-2.workers.items in
    let pool = pool_of_five c.args.pool.now in
    let many : length ds ≡ length js = omega (arith, c.in_ok-workers-2.ensures.len, c.in_ok-workers-2.workers.ok.0, c.in_ok-workers.workers.ok.0) in
    all_ends pool c.in_ok-mail.mail.mail c.in_ok-sends.sends.items c.in_ok-sends.recvs.items js ds _ _ c.in_ok-sends.ensures.0 c.in_ok-sends.ensures.1 c.in_ok-workers.ensures.sends c.in_ok-workers.ensures.recvs many
    (λ i d e.
    let lt : i < length js = omega (arith, many, slice_get_within ds i d e) in
    let j = (c.in_ok-workers-2.ensures.each i d lt).1 in
    (j.job, slice_get_read js (length js) i j.job refl lt j.job_read, subst (λ (x : WorkerValue). KeepsEnds pool j.job x) (get_or_from_slice_get ds i d d e) j.call.met))
    c.in_ok-sends-2.ensures.sends c.in_ok-sends-2.ensures.recvs
