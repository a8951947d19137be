use Rattle.std.proofs.Common.{◌≡◌, ◌∷◌, ◌++◌, List, [], length, map, sym, ap, ◌∙◌, subst, append_assoc, arith}
use Rattle.std.proofs.lemmas.List.{map-append}
use Rattle.std.specs.List.{All}
use Rattle.std.proofs.lemmas.List.Elements.{All-push}
use Rattle.multiplexer.specs.Sending.{SendValue}
use Rattle.multiplexer.specs.Receiving.{RecvValue}
use Rattle.file_tests.specs.Workers.{WorkerValue, IsOf, pool_of_five}
use Rattle.file_tests.proofs.mail.exchanging.pair_up.Goals as goal

pub loop-send-preserved : goal.loop-send-preserved
loop-send-preserved c =
    let i = c.loop-send.invariant in
    let Own : WorkerValue → Type 0 = IsOf (pool_of_five c.args.pool.now) in
    let worker : WorkerValue = c.next_worker.result in
    let workers : List WorkerValue = c.loop-send.workers.items in
    let items : c.push.new.self.items ≡ workers ++ worker ∷ [] = c.in_ok-push.ensures.items in
    let count = c.next_worker.ensures.count in
    let yielded : List SendValue = c.loop-send.yielded in
    let later : List SendValue = c.next.new.self.rest.items in
    let steps : c.loop-send.send-iterator.rest.items ≡ c.in-Some.send ∷ later = c.in-Some.ensures.steps.0 in
    let rest : List RecvValue = c.next-in-loop-send.new.self.rest.items in
    let next : c.loop-send.rest.rest.items ≡ c.in-Some-next.recv ∷ rest = c.in-Some-next.ensures.items in
    let sends = map (λ (w : WorkerValue). w.send) workers in
    let recvs = map (λ (w : WorkerValue). w.recv) workers in
    let all_sends : map (λ (w : WorkerValue). w.send) c.push.new.self.items ≡ sends ++ worker.send ∷ [] = ap (λ (l : List WorkerValue). map (λ w. w.send) l) items ∙ map-append (λ (w : WorkerValue). w.send) workers (worker ∷ []) in
    let all_recvs : map (λ (w : WorkerValue). w.recv) c.push.new.self.items ≡ recvs ++ worker.recv ∷ [] = ap (λ (l : List WorkerValue). map (λ w. w.recv) l) items ∙ map-append (λ (w : WorkerValue). w.recv) workers (worker ∷ []) in
    let ends = c.next_worker.ensures.ends in
    record {
      all = i.all ∙ ap (λ (l : List SendValue). yielded ++ l) steps ∙ sym (append_assoc yielded (c.in-Some.send ∷ []) later);
      sends = all_sends ∙ (λ j. i.sends j ++ ends.0 j ∷ []);
      recvs = i.recvs ∙ ap (λ (l : List RecvValue). recvs ++ l) next ∙ sym (append_assoc recvs (c.in-Some-next.recv ∷ []) rest) ∙ ap (λ (l : List RecvValue). l ++ rest) (sym (all_recvs ∙ (λ j. recvs ++ ends.1 j ∷ [])));
      shares = omega (arith, count, i.shares, ap length steps);
      ready = c.next_worker.ensures.rest;
      own = subst (All Own) (sym items) (All-push Own workers worker i.own c.next_worker.ensures.own);
    }
