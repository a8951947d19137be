-- Stages that are marked with their readers, and operands with whether they are the last to read their rows.
use Rattle.std.specs.Prelude.{Bool, false, not, List, [], ◌∷◌, ◌++◌, map}
use Rattle.std.specs.List.{list_any, count_by}
use Rattle.row_defs.specs.Operands.{Root, stored_root, count_root, Operand, is_stored_at}
use Rattle.script_defs.specs.Plans.{Stage, all_operands}

abbrev pub roots_of : List Operand → List Root
roots_of operands = map (λ (o : Operand). o.root) operands

-- whether these rows are kept and none of the later roots has them
abbrev pub last_among : Root → List Root → Bool
last_among (stored_root n) later = not (list_any (is_stored_at n) later)
last_among (count_root n rows) later = false

-- before those later roots
abbrev pub marked_operand : Operand → List Root → Operand
marked_operand o later = record { root = o.root; last = last_among o.root later; kinds = o.kinds; chain = o.chain }

abbrev pub marked_operands : List Operand → List Root → List Operand
marked_operands [] later = []
marked_operands (o ∷ operands) later = marked_operand o (roots_of operands ++ later) ∷ marked_operands operands later

-- among operands with those roots
abbrev pub marked_stage : List Root → List Root → Stage → Stage
marked_stage roots later s = record {
  number = s.number;
  statement = s.statement;
  word = s.word;
  readers = count_by (is_stored_at s.number) roots;
  operands = marked_operands s.operands later;
}

abbrev pub marked : List Root → List Stage → List Stage
marked roots [] = []
marked roots (s ∷ stages) = marked_stage roots (roots_of (all_operands stages)) s ∷ marked roots stages
