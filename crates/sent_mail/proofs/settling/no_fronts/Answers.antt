use Rattle.std.proofs.Common.{rules, ◌∙◌, ap, arith, sym}
use Rattle.std.proofs.lemmas.Grind.{common_steps}
use Rattle.multiplexer.specs.Receiving.{RecvValue}
use Rattle.scatter.specs.Carrying.{IsFrontOf}
use Rattle.lent_step.proofs.Lists.{zip_next}
use Rattle.sent_mail.proofs.settling.no_fronts.Goals as goal

pub loop-recv-preserved : goal.loop-recv-preserved
loop-recv-preserved c =
    let i = c.loop-recv.invariant in
    let n = c.new.ensures in
    record {
      fronts = rw c.push_reserved.ensures.items (zip_next IsFrontOf c.loop-recv.fronts.items c.args.recvs.now c.loop-recv._recv-index c.new.result c._recv-item.result
          c.loop-recv-test.true c._recv-item.is i.fronts (n.items ∙ sym (ap (λ (r : RecvValue). r.taken) c._recv-item.is ∙ c.requires c.loop-recv._recv-index c._recv-item.result c.loop-recv-test.true)));
      len = grind (arith, common_steps);
      room = search rules;
    }
