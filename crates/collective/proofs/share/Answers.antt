use Rattle.std.proofs.Common.{◌∙◌, ap, arith}
use Rattle.collective.specs.Shares.{share_start}
use Rattle.collective.proofs.ShareLaws.{start_last}
use Rattle.collective.proofs.share.Goals as goal

pub returns-clause-last : goal.returns-clause-last
returns-clause-last c is =
    c.start_of-2.ensures ∙ ap (λ rank. share_start c.args.total c.args.workers rank) is ∙ start_last c.args.total c.args.workers (omega arith)
