use Rattle.std.proofs.Common.{◌≡◌, ◌++◌, List, length, drop, map, vec_len}
use Rattle.std.specs.Prelude.{vec_capacity, Option}
use Rattle.std.specs.List.{filter_map}
use Rattle.std.specs.Vec.Iter.{into_iter_items}
use Rattle.row_defs.specs.LocalOps.{LocalOp}
use Rattle.dia_file.specs.Files.{FileValue}
use Rattle.scatter.specs.Feeds.{part_feed}
use Rattle.scatter.specs.Lines.{AreChainsOf}
use Rattle.scatter.proofs.feeding.part_feeds.Given as goal

abbrev pub invariant-loop-part : goal.invariant-loop-part
invariant-loop-part l = record {
  rest : l.yielded ++ into_iter_items l.part-iterator ≡ l.fn.parts.items;
  left : into_iter_items l.chains ≡ drop (length l.yielded) l.fn.chains.items;
  feeds : (ops : List LocalOp) → AreChainsOf ops l.fn.chains.items → l.feeds.items ≡ map (part_feed l.fn.last ops) (filter_map (λ (part : Option FileValue). part) l.yielded);
  count : vec_len l.feeds ≡ length l.yielded;
  room : vec_capacity l.feeds ≡ vec_capacity l.fn.feeds;
}
