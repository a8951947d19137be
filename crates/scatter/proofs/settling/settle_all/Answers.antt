use Rattle.std.proofs.Common.{◌≡◌, Vec, Global, length, sym, ◌∙◌, arith}
use Rattle.std.proofs.lemmas.Grind.{common_steps}
use Rattle.std.proofs.lemmas.Slice.Zip.{AllZip-long}
use Rattle.std.proofs.lemmas.Result.{IfOk-weaker}
use Rattle.multiplexer.specs.declared.inbox.Inbox.{Inbox}
use Rattle.scatter.specs.Carrying.{IsFrontOf}
use Rattle.scatter.proofs.Mailing.{all_mixed}
use Rattle.scatter.proofs.settling.settle_all.Goals as goal

pub join_all-requires : goal.join_all-requires
join_all-requires g c =
    let long = AllZip-long IsFrontOf c.args.fronts.items c.args.recvs.items c.requires.fronts in
    let count : length c.in_ok-boxes.boxes.items ≡ length c.args.recvs.items = c.in_ok-boxes.ensures.count in
    grind (arith, common_steps)

pub returns : goal.returns
returns g c =
    let long : length c.args.recvs.items ≡ length c.args.sends.items = c.requires.ends.receivers ∙ sym c.requires.ends.senders in
    IfOk-weaker c.join_all.result _ _ (λ (whole : Vec Inbox Global). all_mixed c.args.sends.items c.args.fronts.items c.args.recvs.items c.in_ok-boxes.boxes.items whole.items long c.requires.fronts c.in_ok-boxes.ensures) c.join_all.ensures
