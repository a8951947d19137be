-- A phase that has begun.
use Rattle.std.specs.Prelude.{vec_len}
use Rattle.std.specs.List.{AllZip}
use Rattle.dia_item.specs.KindList.{kind_list}
use Rattle.block_pool.specs.Handles.{HandValue}
use Rattle.lop_chain.specs.declared.sink.RowSink.{Ghosts}
use Rattle.scatter.specs.Fitting.{RestsOnHands}
use Rattle.scatter.specs.Phases.{AllThree}
use Rattle.arrivals.specs.declared.phase.Arrival.{Arrival}
use Rattle.arrivals.specs.Phases.{HasBegun, HasRoomFor, IsOwn}

-- each work has a reader of its box and its sink, and there is room for the way back
pub record IsBegun {D S R : Type 0} (g : Ghosts S HandValue R) (phase : Arrival D S) : Type 0 where
  pub works : AllThree (HasBegun (kind_list phase.kinds)) phase.boxes_were.value.items phase.sinks_were.value.items phase.began.value.items
  pub own : AllZip IsOwn phase.began.value.items phase.hands_were.value.items
  pub room : HasRoomFor (vec_len phase.began.value) phase.back
  pub rests : RestsOnHands g
