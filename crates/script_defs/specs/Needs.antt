-- Which inputs a script needs.
use Rattle.std.specs.Prelude.{ℕ, List, [], ◌∷◌, Option, None, Some}
use Rattle.std.specs.List.{flat_map}
use Rattle.script_defs.specs.Scripts.{Form, lines_form, generate_form, local_form, cache_form, Statement, line, act, Script, statement_at}
use Rattle.script_defs.specs.Work.{Item, do_line, do_action, work_of}
use Rattle.script_defs.specs.Plans.{Stage}

-- the name of the input that a statement reads
abbrev pub read_by_form : Form → List (List ℕ)
read_by_form (lines_form input) = input ∷ []
read_by_form (generate_form count) = []
read_by_form (local_form of op) = []
read_by_form (cache_form of) = []

abbrev pub read_by : Statement → List (List ℕ)
read_by (line name form) = read_by_form form
read_by (act action) = []

abbrev pub read_by_some : Option Statement → List (List ℕ)
read_by_some None = []
read_by_some (Some statement) = read_by statement

-- that of the line that an item of the work does; an action reads none
abbrev pub read_by_item : Script → Item → List (List ℕ)
read_by_item script (do_line n) = read_by_some (statement_at script n)
read_by_item script (do_action n) = []

-- the names of the inputs that a script needs: that of each needed `lines` line, once for each line, in the order of work
abbrev pub inputs_needed : Script → List (List ℕ)
inputs_needed script = flat_map (read_by_item script) (work_of script)

-- those that stages of a plan read
abbrev pub read_by_stages : List Stage → List (List ℕ)
read_by_stages stages = flat_map (λ (s : Stage). read_by s.statement) stages
