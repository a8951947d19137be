-- What a stage's task asks for.
use Rattle.std.proofs.Common.{◌≡◌, ℕ, List, [], ◌∷◌, map, Some, refl, sym, ◌∙◌, subst}
use Rattle.std.specs.Borrow.{Bor}
use Rattle.row_defs.specs.declared.kind.Kind.{Kind}
use Rattle.row_defs.specs.declared.kind.Kind.TheVariants.{Int, Text}
use Rattle.row_defs.specs.Operands.{Root, stored_root, count_root, root_line, Operand}
use Rattle.script_defs.specs.Scripts.{Form, lines_form, generate_form, local_form, cache_form, form_kinds, form_operands, origin_of, counted, Script, Action, action_operand, line, act, statement_at}
use Rattle.script_defs.specs.Reading.{nothing_known}
use Rattle.script_defs.specs.Sound.{IsSound, IsSoundAction}
use Rattle.script_defs.specs.Plans.{Stage, IsOperand, IsRootOf, kinds_at}
use Rattle.run_laws.proofs.KindLemmas.{action_sound, line_kinds}
use Rattle.lop_chain.specs.declared.operand.Operand as operands
use Rattle.lop_chain.specs.Operands.{operand_in}
use Rattle.script_read.specs.declared.statement.Action as actions
use Rattle.script_read.specs.Statements.{action_in}
use Rattle.stage_builder.specs.declared.plan.Task as tasks
use Rattle.stage_builder.specs.declared.plan.Task.TheVariants.{Read, Cache, Act}
use Rattle.stage_builder.specs.declared.plan.Stage as stages
use Rattle.stage_builder.specs.Views.{statement_of_task, operands_of_task, stage_in}
use Rattle.stage_laws.specs.Standing.{Kept, HasRows, CanDo}
use Rattle.stage_laws.proofs.ActionLemmas.{action_has_rows}
use Rattle.stage_laws.proofs.CacheLemmas.{cache_has_rows}
use Rattle.script_run.specs.Held.{AreNumbers, CanRead, IsCacheOf}

-- a stage with this task in its place
abbrev with_task : stages.Stage → tasks.Task → Stage
with_task s task = record { number = s.line; statement = statement_of_task task; word = s.word; readers = s.readers; operands = operands_of_task task }

can_do_task : (script : Script) (s : stages.Stage) (task : tasks.Task) (kept : Kept) → s.task ≡ task → CanDo script (stage_in s) kept → CanDo script (with_task s task) kept
can_do_task script s task kept is h = let Can : tasks.Task → Type 0 = λ x. CanDo script (with_task s x) kept in subst Can is h

-- what is said of the stage is said of its task
pub of_task : (s : stages.Stage) (task : tasks.Task) (P : Stage → Type 0) → s.task ≡ task → P (with_task s task) → P (stage_in s)
of_task s task P is h = let Of : tasks.Task → Type 0 = λ x. P (with_task s x) in subst Of (sym is) h

-- the statement of an input's line
pub read_is : (script : Script) (s : stages.Stage) (name input : Bor (List ℕ)) (kept : Kept) → s.task ≡ Read name input → CanDo script (stage_in s) kept
    → (defined : List ℕ) × (statement_at script s.line ≡ Some (line defined (lines_form input.now)))
read_is script s name input kept is h = (name.now, (can_do_task script s (Read name input) kept is h).is.is)

abbrev kinds_for : Script → Form → List Kind
kinds_for script form = form_kinds (map (kinds_at script) (form_operands form)) form

counted_kinds : (script : Script) (form : Form) (count : ℕ) → origin_of form ≡ counted count → kinds_for script form ≡ Int ∷ []
counted_kinds script (lines_form input) count is = let wrong : ⊥ = cc in absurd wrong
counted_kinds script (generate_form m) count is = refl
counted_kinds script (local_form of op) count is = let wrong : ⊥ = cc in absurd wrong
counted_kinds script (cache_form of) count is = let wrong : ⊥ = cc in absurd wrong

are_numbers : (script : Script) (root : Root) (name : List ℕ) (form : Form) → IsSound nothing_known 1 script → statement_at script (root_line root) ≡ Some (line name form) → IsRootOf form root
    → AreNumbers script root
are_numbers script (stored_root n) name form sound is root = tt
are_numbers script (count_root n rows) name form sound is root = line_kinds script n name form sound is ∙ counted_kinds script form rows root

-- the kinds of an input's line
pub text_kinds : (script : Script) (n : ℕ) (name input : List ℕ) → IsSound nothing_known 1 script → statement_at script n ≡ Some (line name (lines_form input)) → kinds_at script n ≡ Text ∷ []
text_kinds script n name input sound is = line_kinds script n name (lines_form input) sound is

-- those of a cache are its operand's
pub cache_kinds : (script : Script) (n of : ℕ) (o : Operand) → IsSound nothing_known 1 script → IsCacheOf script n of o → o.kinds ≡ kinds_at script n
cache_kinds script n of o sound is = is.operand.kinds ∙ sym (line_kinds script n is.name (cache_form of) sound is.is)

-- an operand can be read where the rows at its root are there
can_read : (script : Script) (of : ℕ) (o : Operand) (kept : Kept) → IsSound nothing_known 1 script → IsOperand script of o → HasRows kept o.root → CanRead script o kept
can_read script of o kept sound p has = record { rows = has; numbers = are_numbers script o.root p.name p.form sound p.is p.root; sound = p.sound }

-- an action, its operand, and that it can be done on that
pub record IsActStage (script : Script) (n : ℕ) (action : Action) (o : Operand) (kept : Kept) : Type 0 where
  pub is : statement_at script n ≡ Some (act action)
  pub operand : IsOperand script (action_operand action) o
  pub can : CanRead script o kept
  pub acts : IsSoundAction o.kinds action

pub act_stage : (script : Script) (s : stages.Stage) (action : Bor actions.Action) (o : operands.Operand) (kept : Kept) → s.task ≡ Act action o → CanDo script (stage_in s) kept
    → IsActStage script s.line (action_in action.now) (operand_in o) kept
act_stage script s action o kept is h =
    let c = can_do_task script s (Act action o) kept is h in
    let a = action_in action.now in
    let p = c.is.operands.0 in
    let Sound : List Kind → Type 0 = λ ks. IsSoundAction ks a in
    record {
      is = c.is.is;
      operand = p;
      can = can_read script (action_operand a) (operand_in o) kept c.sound p (action_has_rows script c.done c.left kept s.line a (operand_in o) c.later c.work c.are c.is.is p);
      acts = subst Sound (sym p.kinds) (action_sound script s.line a c.sound c.is.is);
    }

-- a cache, and that it can be done
pub record IsCacheStage (script : Script) (n of : ℕ) (o : Operand) (kept : Kept) : Type 0 where
  pub is : IsCacheOf script n of o
  pub can : CanRead script o kept

pub cache_stage : (script : Script) (s : stages.Stage) (name : Bor (List ℕ)) (of : ℕ) (o : operands.Operand) (kept : Kept) → s.task ≡ Cache name of o → CanDo script (stage_in s) kept
    → IsCacheStage script s.line of (operand_in o) kept
cache_stage script s name of o kept is h =
    let c = can_do_task script s (Cache name of o) kept is h in
    let p = c.is.operands.0 in
    record {
      is = record { name = name.now; is = c.is.is; operand = p };
      can = can_read script of (operand_in o) kept c.sound p (cache_has_rows script c.done c.left kept s.line of name.now (operand_in o) c.later c.work c.are c.is.is p);
    }
