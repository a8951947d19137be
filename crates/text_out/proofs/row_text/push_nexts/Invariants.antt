use Rattle.std.proofs.Common.{◌-◌, ◌++◌, take, drop, Ok}
use Rattle.dia_edge.specs.declared.refusals.Failed.{Failed}
use Rattle.dia_edge.specs.Sinks.{Puts}
use Rattle.dia_item.specs.Lent.{row_in_ref}
use Rattle.text_out.specs.Columns.{nexts_text}
use Rattle.text_out.proofs.row_text.push_nexts.Given as goal

abbrev pub invariant-loop-i : goal.invariant-loop-i
invariant-loop-i g l = record {
  puts : Puts {T = Unit {0}} {E = Failed} g.S.Sink.taken g.S.Sink.faults l.fn.out l.out (l.fn.buffer ++ nexts_text (take (l.i - 1) (drop 1 (row_in_ref l.row)))) l.buffer (Ok tt);
}
