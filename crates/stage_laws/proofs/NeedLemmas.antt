-- What a plan's stages read: what the script needs, since no other item of its work reads an input.
use Rattle.std.proofs.Common.{◌≡◌, ℕ, true, false, cond, List, [], ◌∷◌, ◌++◌, map, filter, Option, None, Some, refl, sym, ap, ◌∙◌}
use Rattle.std.specs.List.{AllByRecursion, flat_map}
use Rattle.std.proofs.lemmas.Bool.{true≢false}
use Rattle.script_defs.specs.Scripts.{lines_form, generate_form, local_form, cache_form, Statement, line, act, Script, statement_at}
use Rattle.script_defs.specs.Work.{Item, do_line, do_action, work_of}
use Rattle.script_defs.specs.Plans.{Stage, IsStage, IsPlan, item_of, is_stage, is_stored_line}
use Rattle.script_defs.specs.Needs.{read_by, read_by_some, read_by_item, inputs_needed, read_by_stages}

unread : (s : Option Statement) → is_stored_line s ≡ false → read_by_some s ≡ []
unread None quiet = refl
unread (Some (line name (lines_form input))) quiet = absurd (true≢false quiet)
unread (Some (line name (generate_form count))) quiet = refl
unread (Some (line name (local_form of op))) quiet = refl
unread (Some (line name (cache_form of))) quiet = absurd (true≢false quiet)
unread (Some (act action)) quiet = refl

unread_item : (script : Script) (x : Item) → is_stage script x ≡ false → read_by_item script x ≡ []
unread_item script (do_line n) quiet = unread (statement_at script n) quiet
unread_item script (do_action n) quiet = refl

read_by_work : (script : Script) (items : List Item) → flat_map (read_by_item script) (filter (is_stage script) items) ≡ flat_map (read_by_item script) items
read_by_work script [] = refl
read_by_work script (x ∷ items) =
    elim (is_stage script x) as (λ t. is_stage script x ≡ t
    → flat_map (read_by_item script) (cond t (x ∷ filter (is_stage script) items) (filter (is_stage script) items)) ≡ read_by_item script x ++ flat_map (read_by_item script) items) [
      | true ↦ λ yes. ap (λ (names : List (List ℕ)). read_by_item script x ++ names) (read_by_work script items)
      | false ↦ λ quiet. read_by_work script items ∙ sym (ap (λ (names : List (List ℕ)). names ++ flat_map (read_by_item script) items) (unread_item script x quiet))
    ] refl

read_by_statement : (script : Script) (n : ℕ) (s : Statement) → statement_at script n ≡ Some s → read_by_item script (item_of n s) ≡ read_by s
read_by_statement script n (line name form) is = ap read_by_some is
read_by_statement script n (act action) is = refl

read_by_plan : (script : Script) (plan : List Stage) → AllByRecursion (IsStage script) plan → flat_map (read_by_item script) (map (λ (s : Stage). item_of s.number s.statement) plan) ≡ read_by_stages plan
read_by_plan script [] all = refl
read_by_plan script (s ∷ plan) all =
    ap (λ (names : List (List ℕ)). names ++ flat_map (read_by_item script) (map (λ (x : Stage). item_of x.number x.statement) plan)) (read_by_statement script s.number s.statement all.0.is)
    ∙ ap (λ (names : List (List ℕ)). read_by s.statement ++ names) (read_by_plan script plan all.1)

pub plan_reads : (script : Script) (plan : List Stage) → IsPlan script plan → read_by_stages plan ≡ inputs_needed script
plan_reads script plan is =
    sym (read_by_plan script plan is.stages) ∙ ap (λ (items : List Item). flat_map (read_by_item script) items) is.order ∙ read_by_work script (work_of script)
