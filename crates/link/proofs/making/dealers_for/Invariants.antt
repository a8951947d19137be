use Rattle.std.proofs.Common.{◌≡◌, ◌≤◌, ◌++◌, length, take, drop, vec_len}
use Rattle.std.specs.Prelude.{vec_capacity}
use Rattle.std.specs.Vec.Iter.{into_iter_items}
use Rattle.dia_item.specs.KindList.{kind_list}
use Rattle.scatter.specs.Phases.{AllThree}
use Rattle.link.specs.Scattering.{IsFreshScatter}
use Rattle.link.proofs.making.dealers_for.Given as goal

abbrev pub invariant-loop-post : goal.invariant-loop-post
invariant-loop-post g l = record {
  rest : l.yielded ++ into_iter_items l.post-iterator ≡ l.fn.posts.items;
  left : into_iter_items l.routes ≡ drop (length l.yielded) l.fn.routes.items;
  fresh : AllThree (IsFreshScatter g.P.Post (kind_list l.kinds) l.workers) (take (length l.yielded) l.fn.routes.items) l.yielded l.dealers.items;
  count : vec_len l.dealers ≡ length l.yielded;
  room : vec_len l.fn.posts ≤ vec_capacity l.dealers;
}
