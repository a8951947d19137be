-- The plan of a script: its stages in the order of work. A stage is an action, or a needed line whose rows are kept.
use Rattle.std.specs.Prelude.{◌≡◌, ℕ, Bool, true, false, not, List, [], ◌∷◌, map, filter, Option, Some}
use Rattle.std.specs.List.{AllByRecursion, flat_map, list_any, count_by}
use Rattle.row_defs.specs.declared.kind.Kind.{Kind}
use Rattle.row_defs.specs.LocalOps.{LocalOp, map_op, filter_op, words_op, spread_op, AreSoundOps}
use Rattle.row_defs.specs.Operands.{Root, stored_root, count_root, Operand, root_line, is_stored_at}
use Rattle.script_defs.specs.declared.word.Word.{Word}
use Rattle.script_defs.specs.declared.word.Word.TheVariants.{Lines, Generate, Map, Filter, FlatMap, Cache, Print, Size, Sum}
use Rattle.script_defs.specs.Scripts.{Form, lines_form, generate_form, local_form, cache_form, Origin, stored, counted, made, origin_of, Action, print_action, size_action, sum_action, Statement, line, act, operands_of, Script, statement_at}
use Rattle.script_defs.specs.Reading.{Known, known_after, nothing_known}
use Rattle.script_defs.specs.Sound.{kinds_numbered, kinds_of_statement}
use Rattle.script_defs.specs.Work.{Item, do_line, do_action, work_of}

-- the word of a statement
abbrev pub word_of_op : LocalOp → Word
word_of_op (map_op exprs) = Map
word_of_op (filter_op e) = Filter
word_of_op (words_op c) = FlatMap
word_of_op (spread_op c count) = FlatMap

abbrev pub word_of_form : Form → Word
word_of_form (lines_form input) = Lines
word_of_form (generate_form count) = Generate
word_of_form (local_form of op) = word_of_op op
word_of_form (cache_form of) = Cache

abbrev pub word_of_action : Action → Word
word_of_action (print_action of) = Print
word_of_action (size_action of) = Size
word_of_action (sum_action of c) = Sum

abbrev pub word_of : Statement → Word
word_of (line name form) = word_of_form form
word_of (act action) = word_of_action action

-- what is known behind the whole script: the kinds of each line's rows
abbrev pub known_behind : Known → Script → Known
known_behind known [] = known
known_behind known (s ∷ later) = known_behind (known_after known s.number s.statement (kinds_of_statement known s.statement)) later

abbrev pub kinds_at : Script → ℕ → List Kind
kinds_at script n = kinds_numbered (known_behind nothing_known script) n

-- from the line `root` these local lines, one after the other, lead to the line n
abbrev pub IsChain : Script → ℕ → List LocalOp → ℕ → Type 0
IsChain script root [] n = root ≡ n
IsChain script root (op ∷ ops) n =
    (m : ℕ) × (name : List ℕ) × (statement_at script m ≡ Some (line name (local_form root op))) × IsChain script m ops n

-- the root stands for a line of this form
abbrev pub IsRootOf : Form → Root → Type 0
IsRootOf form (stored_root n) = origin_of form ≡ stored
IsRootOf form (count_root n rows) = origin_of form ≡ counted rows

-- the operand gives the rows of line n: from its root's line the chain leads there, over kinds that fit
pub record IsOperand (script : Script) (n : ℕ) (o : Operand) : Type 0 where
  pub name : List ℕ
  pub form : Form
  pub is : statement_at script (root_line o.root) ≡ Some (line name form)
  pub root : IsRootOf form o.root
  pub chain : IsChain script (root_line o.root) o.chain n
  pub kinds : o.kinds ≡ kinds_at script n
  pub sound : AreSoundOps (kinds_at script (root_line o.root)) o.chain o.kinds

abbrev pub AreOperands : Script → List ℕ → List Operand → Type 0
AreOperands script [] [] = Unit {0}
AreOperands script (n ∷ numbers) (o ∷ operands) = IsOperand script n o × AreOperands script numbers operands
AreOperands script _ _ = ⊥

-- a stage: the statement on a line, how many operands read the rows that are kept of it, and its own operands
pub record Stage : Type 0 where
  pub number : ℕ
  pub statement : Statement
  pub word : Word
  pub readers : ℕ
  pub operands : List Operand

-- the item of the work that it does
abbrev pub item_of : ℕ → Statement → Item
item_of n (line name form) = do_line n
item_of n (act action) = do_action n

-- the statement stands there, and the operands are those of the lines that it names
pub record IsStage (script : Script) (stage : Stage) : Type 0 where
  pub is : statement_at script stage.number ≡ Some stage.statement
  pub word : stage.word ≡ word_of stage.statement
  pub operands : AreOperands script (operands_of stage.statement) stage.operands

-- the items that are stages
abbrev pub is_stored_origin : Origin → Bool
is_stored_origin stored = true
is_stored_origin (counted count) = false
is_stored_origin (made of op) = false

abbrev pub is_stored_line : Option Statement → Bool
is_stored_line (Some (line name form)) = is_stored_origin (origin_of form)
is_stored_line _ = false

abbrev pub is_stage : Script → Item → Bool
is_stage script (do_line n) = is_stored_line (statement_at script n)
is_stage script (do_action n) = true

abbrev pub all_operands : List Stage → List Operand
all_operands plan = flat_map (λ (s : Stage). s.operands) plan

-- whether no later operand reads the rows that are kept at this root
abbrev pub is_last : Root → List Operand → Bool
is_last (stored_root n) later = not (list_any (λ (o : Operand). is_stored_at n o.root) later)
is_last (count_root n rows) later = false

abbrev pub AreLast : List Operand → Type 0
AreLast [] = Unit {0}
AreLast (o ∷ later) = (o.last ≡ is_last o.root later) × AreLast later

-- how many operands read the rows that are kept of this line
abbrev pub readers_of : ℕ → List Operand → ℕ
readers_of n operands = count_by (λ (o : Operand). is_stored_at n o.root) operands

pub record IsPlan (script : Script) (plan : List Stage) : Type 0 where
  pub order : map (λ (s : Stage). item_of s.number s.statement) plan ≡ filter (is_stage script) (work_of script)
  pub stages : AllByRecursion (IsStage script) plan
  pub last : AreLast (all_operands plan)
  pub readers : AllByRecursion (λ (s : Stage). s.readers ≡ readers_of s.number (all_operands plan)) plan
