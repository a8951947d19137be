use Rattle.std.proofs.Common.{◌≡◌, map, sym, ap, ◌∙◌}
use Rattle.scatter.specs.Feeds.{part_feed}
use Rattle.scatter.specs.Lines.{files_of}
use Rattle.scatter.proofs.Rooted.{present}
use Rattle.scatter.proofs.feeding.feed_line.Goals.{then-last, else-last+in_ok-lent}
use Rattle.scatter.proofs.feeding.feed_line.Goals as goal

pub returns-clause-feeds : goal.returns-clause-feeds
returns-clause-feeds c = λ ops are.
    let whole = c.requires.whole in
    let parts : c.if-last.parts.items ≡ whole.line.parts =
    elim c.if-last.branch [
      | then-last w ↦ ap (λ v. v.items) w.parts-is ∙ w.take_parts-parts.ensures.parts whole.line whole.there
      | else-last+in_ok-lent w ↦ ap (λ v. v.items) w.parts-is ∙ w.replace_parts-parts.ensures.parts whole.line whole.there
    ] in
    c.part_feeds.ensures ops are ∙ ap (λ ps. map (part_feed c.args.last ops) (present ps)) parts
    ∙ ap (λ l. map (part_feed c.args.last ops) (files_of l)) (sym whole.there)
