use Rattle.std.proofs.Common.{◌≡◌, ℕ, [], List, ◌∷◌, map, length, replicate, sym, ap, ◌∙◌, subst, arith, length-append}
use Rattle.std.specs.Prelude.{slice_get}
use Rattle.std.specs.List.{All}
use Rattle.block_pool.specs.Handles.{BlockValue}
use Rattle.multiplexer.specs.Lanes.{LaneValue, IntakeValue}
use Rattle.multiplexer.specs.Sending.{SendValue}
use Rattle.multiplexer.specs.Settling.{with_sender}
use Rattle.multiplexer.proofs.Lists.{at_push}
use Rattle.multiplexer.proofs.Openings.{made_queues, made_so_many, made_more, nothing_sent, lane_queues, lane_senders}
use Rattle.multiplexer.proofs.mail.make_sends.Goals as goal

pub enrol-requires-clause-own : goal.enrol-requires-clause-own
enrol-requires-clause-own c = ap (λ (l : List IntakeValue). map (λ i. i.queue) l) c.loop-from.invariant.intakes ∙ made_queues c.loop-from.from c.args.queues.now

pub enrol-requires-clause-next : goal.enrol-requires-clause-next
enrol-requires-clause-next c = subst (λ (l : List IntakeValue). All (λ (i : IntakeValue). i.made ≡ c.loop-from.from) l) (sym c.loop-from.invariant.intakes) (made_so_many c.loop-from.from c.args.queues.now)

pub invariant_of-push : goal.invariant_of-push
invariant_of-push c = let n = c.loop-from.from in let qs = c.args.queues.now in let e = c.in_ok-lanes.ensures.lanes in (
  ap (λ (l : List LaneValue). map (λ i. i.queue) l) e ∙ lane_queues n qs,
  subst (λ (l : List LaneValue). All (λ (i : LaneValue). i.from ≡ n) l) (sym e) (lane_senders n qs),
)

pub loop-from-preserved : goal.loop-from-preserved
loop-from-preserved c = let h = c.loop-from.invariant in let n = c.loop-from.from in let qs = c.args.queues.now in
    let s : SendValue = record { mail = qs; sender = n; sent = map (λ l. l.sent) c.in_ok-lanes.lanes.items } in
    let is : s ≡ record { mail = qs; sender = n; sent = replicate (length qs) [] } = ap (λ (b : List (List BlockValue)). record { mail = qs; sender = n; sent = b }) (ap (λ (l : List LaneValue). map (λ l. l.sent) l) c.in_ok-lanes.ensures.lanes ∙ nothing_sent n qs) in record {
      intakes = c.in_ok-lanes.ensures.intakes ∙ ap (map with_sender) h.intakes ∙ made_more n qs;
      count = omega (arith, ap length c.in_ok-push.ensures.items, length-append c.loop-from.sends.items (s ∷ []), h.count);
      ends = λ k t e. at_push (λ (m : ℕ) (u : SendValue). u ≡ record { mail = qs; sender = m; sent = replicate (length qs) [] }) c.loop-from.sends.items s
          (is ∙ ap (λ (m : ℕ). record { mail = qs; sender = m; sent = replicate (length qs) [] }) (sym h.count)) h.ends k t (ap (λ (l : List SendValue). slice_get l k) (sym c.in_ok-push.ensures.items) ∙ e);
    }
