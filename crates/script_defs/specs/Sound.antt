-- What holds of every accepted script: numbers rise, each statement names earlier lines, and each expression has a kind.
use Rattle.std.specs.Prelude.{◌≡◌, ℕ, ◌+◌, ◌≤◌, ◌==◌, List, [], ◌∷◌, map, Option, None, Some, IsSome, find, slice_get}
use Rattle.row_defs.specs.declared.kind.Kind.{Kind}
use Rattle.row_defs.specs.declared.kind.Kind.TheVariants.{Int}
use Rattle.row_defs.specs.LocalOps.{IsSoundOp}
use Rattle.script_defs.specs.Limits.{most_numbers}
use Rattle.script_defs.specs.Scripts.{Form, lines_form, generate_form, local_form, cache_form, Action, print_action, size_action, sum_action, action_operand, Statement, line, act, Script, form_operands, operands_of, form_kinds, statement_kinds}
use Rattle.script_defs.specs.Reading.{Earlier, Known, known_after}

-- the earlier line with this number
abbrev pub earlier_numbered : Known → ℕ → Option Earlier
earlier_numbered known n = find (λ (e : Earlier). e.number == n) known.lines

abbrev pub kinds_of_earlier : Option Earlier → List Kind
kinds_of_earlier None = []
kinds_of_earlier (Some e) = e.kinds

-- the kinds of the line with this number
abbrev pub kinds_numbered : Known → ℕ → List Kind
kinds_numbered known n = kinds_of_earlier (earlier_numbered known n)

-- the kinds of a line's rows, and of a statement's
abbrev pub kinds_of_form : Known → Form → List Kind
kinds_of_form known form = form_kinds (map (kinds_numbered known) (form_operands form)) form

abbrev pub kinds_of_statement : Known → Statement → List Kind
kinds_of_statement known s = statement_kinds (map (kinds_numbered known) (operands_of s)) s

abbrev pub IsSoundForm : Known → Form → Type 0
IsSoundForm known (lines_form input) = Unit {0}
IsSoundForm known (generate_form count) = count ≤ most_numbers
IsSoundForm known (local_form of op) = IsSome (earlier_numbered known of) × IsSoundOp (kinds_numbered known of) op
IsSoundForm known (cache_form of) = IsSome (earlier_numbered known of)

-- an action on rows of these kinds
abbrev pub IsSoundAction : List Kind → Action → Type 0
IsSoundAction kinds (print_action of) = Unit {0}
IsSoundAction kinds (size_action of) = Unit {0}
IsSoundAction kinds (sum_action of c) = slice_get kinds c ≡ Some Int

abbrev pub IsSoundStatement : Known → Statement → Type 0
IsSoundStatement known (line name form) = IsSoundForm known form
IsSoundStatement known (act action) =
    IsSome (earlier_numbered known (action_operand action)) × IsSoundAction (kinds_numbered known (action_operand action)) action

-- the statements from line n on
abbrev pub IsSound : Known → ℕ → Script → Type 0
IsSound known n [] = Unit {0}
IsSound known n (s ∷ later) =
    (n ≤ s.number) × IsSoundStatement known s.statement
    × IsSound (known_after known s.number s.statement (kinds_of_statement known s.statement)) (s.number + 1) later
