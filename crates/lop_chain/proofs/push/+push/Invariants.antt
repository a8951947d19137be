use Rattle.std.proofs.Common.{◌+◌, ◌*◌, ◌-◌, ◌∷◌, ◌≤◌, length, map}
use Rattle.std.specs.List.{range_with_len}
use Rattle.row_defs.specs.Limits.{longest_text}
use Rattle.row_defs.specs.Texts.{words_in_text}
use Rattle.row_defs.specs.LocalOps.{words_op, spread_op, with_word, raised, rows_through}
use Rattle.dia_item.specs.Lent.{row_in_ref}
use Rattle.lop_chain.specs.Calls.{TookAllBut}
use Rattle.lop_chain.specs.Ops.{rows_from}
use Rattle.lop_chain.specs.Steps.{steps_in}
use Rattle.lop_chain.proofs.push.+push.Given as goal

abbrev pub decreases-push_through : goal.decreases-push_through
decreases-push_through g l = 3 * length l.steps.now

abbrev pub decreases-push_step : goal.decreases-push_step
decreases-push_step g l = 3 * length l.rest.now + 2

abbrev pub decreases-push_map : goal.decreases-push_map
decreases-push_map g l = 3 * length l.rest.now + 1

abbrev pub decreases-push_words : goal.decreases-push_words
decreases-push_words g l = 3 * length l.steps.now + 1

abbrev pub decreases-push_spread : goal.decreases-push_spread
decreases-push_spread g l = 3 * length l.steps.now + 1

abbrev pub invariant-push_words-loop-word : goal.invariant-push_words-loop-word
invariant-push_words-loop-word g l = record {
  but : TookAllBut g.S.RowSink l.fn.sink l.fn.desk (rows_through (words_op l.column ∷ steps_in l.steps) (row_in_ref l.row))
      (rows_from (steps_in l.steps) (map (with_word (row_in_ref l.row) l.column) (words_in_text l.rest))) l.sink l.desk;
  follows : g.S.RowSink.follows l.fn.desk l.desk;
  stays : g.S.RowSink.stays l.fn.sink l.sink;
  short : length l.rest ≤ longest_text;
}

abbrev pub decreases-push_words-loop-word : goal.decreases-push_words-loop-word
decreases-push_words-loop-word g l = length l.rest

abbrev pub invariant-push_spread-loop-i : goal.invariant-push_spread-loop-i
invariant-push_spread-loop-i g l = record {
  but : TookAllBut g.S.RowSink l.fn.sink l.fn.desk (rows_through (spread_op l.column l.count ∷ steps_in l.steps) (row_in_ref l.row))
      (rows_from (steps_in l.steps) (map (raised (row_in_ref l.row) l.column) (range_with_len l.i (l.count - l.i)))) l.sink l.desk;
  follows : g.S.RowSink.follows l.fn.desk l.desk;
  stays : g.S.RowSink.stays l.fn.sink l.sink;
}
