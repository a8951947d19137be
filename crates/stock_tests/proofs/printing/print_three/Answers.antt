use Rattle.std.proofs.Common.{rules, ◌≡◌, ◌∷◌, [], refl}
use Rattle.row_defs.specs.declared.kind.Kind.TheVariants.{Int}
use Rattle.stock_tests.proofs.printing.print_three.Goals as goal

pub print_feed-requires-clause-sound : goal.print_feed-requires-clause-sound
print_feed-requires-clause-sound g c =
    let kinds : c.in_ok-feed.feed.kinds ≡ Int ∷ [] = search rules in
    let ops : c.in_ok-feed.feed.ops ≡ [] = search rules in
    (Int ∷ [], rw (kinds, ops) refl)
