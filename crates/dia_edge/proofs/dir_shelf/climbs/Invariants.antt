-- Where no component was `..` so far, the question is about the components that are left.
use Rattle.std.proofs.Common.{◌≡◌}
use Rattle.std.specs.Path.{path_components, components_remaining}
use Rattle.dia_edge.specs.Files.{has_parent}
use Rattle.dia_edge.proofs.dir_shelf.climbs.Given as goal

abbrev pub invariant-loop-component : goal.invariant-loop-component
invariant-loop-component l =
    (goal.iterator-loop-component).can_next l.component-iterator
    × (goal.iterator-loop-component).is_finite l.component-iterator
    × has_parent (path_components l.name) ≡ has_parent (components_remaining l.component-iterator)
