-- What is known of a line for which no cause applies.
use Rattle.std.specs.Prelude.{◌≡◌, ◌<◌, ◌^◌, ℕ, true, false, List, [], Option, None, Some, length}
use Rattle.std.specs.List.{list_all, list_any}
use Rattle.std.specs.Prelude.{is_none}
use Rattle.row_defs.specs.declared.kind.Kind.{Kind}
use Rattle.row_defs.specs.LocalOps.{map_op}
use Rattle.row_defs.specs.Values.{expr_kind}
use Rattle.script_defs.specs.declared.shape.Shape.{Shape}
use Rattle.script_defs.specs.declared.word.Word.{Word}
use Rattle.script_defs.specs.declared.word.Word.TheVariants.{FlatMap, Sum}
use Rattle.script_defs.specs.Scripts.{Form, lines_form, generate_form, local_form, cache_form, Statement, line, act, first_kinds}
use Rattle.script_defs.specs.Reading.{is_printable, Earlier, Known, value_in, number_word, operands_in, operand_kinds, exprs_fault, fits_count, is_bad_form, has_unknown_name, has_unknown_word, has_bad_number, has_bad_column, has_bad_kind, LineReading, skipped, refused, stated}
use Rattle.dia_item.specs.KindList.{kind_list}
use Rattle.script_read.specs.Statements.{form_in, action_in}
use Rattle.script_read.specs.declared.line.LineRead as reads
use Rattle.script_read.specs.declared.line.LineRead.TheVariants as reads_of
use Rattle.script_read.specs.declared.line.Stated as stateds
use Rattle.script_read.specs.declared.line.Stated.TheVariants.{Line, Act}

-- the name and the words after the statement word have no byte outside 0x20 to 0x7E
abbrev pub AreTexts : Option (List ℕ) → List (List ℕ) → Type 0
AreTexts None args = list_all (list_all is_printable) args ≡ true
AreTexts (Some name) args = (list_all is_printable name ≡ true) × (list_all (list_all is_printable) args ≡ true)

-- no cause applies to the words behind the word of this shape
pub record IsAccepted (known : Known) (shape : Shape) (args : List (List ℕ)) : Type 0 where
  pub count : fits_count shape args ≡ true
  pub spelled : is_bad_form (exprs_fault shape.exprs args) ≡ false
  pub operands : has_unknown_name known shape args ≡ false
  pub words : has_unknown_word shape args ≡ false
  pub numbers : has_bad_number shape args ≡ false
  pub columns : has_bad_column (operand_kinds (operands_in known shape args)) shape args ≡ false
  pub kinds : has_bad_kind (operand_kinds (operands_in known shape args)) shape args ≡ false

-- what the statement of a line that has a column or a number asks for: an operand, one of its columns, a number that fits
abbrev pub IsStatable : Word → List Earlier → Shape → List (List ℕ) → Type 0
IsStatable FlatMap operands shape args =
    (0 < length operands) × (has_bad_column (operand_kinds operands) shape args ≡ false) × (value_in (number_word shape.number args) < 2 ^ 32)
IsStatable Sum operands shape args = (0 < length operands) × (has_bad_column (operand_kinds operands) shape args ≡ false)
IsStatable _ operands shape args = Unit {0}

-- the statement of a line, by its name
abbrev pub stated_as : List ℕ → stateds.Stated → Statement
stated_as name (Line form) = line name (form_in form)
stated_as name (Act action) = act (action_in action)

-- the kinds of a form's rows can be told from those of its operands: there is one where it names a line, and each of its
-- expressions has a kind
abbrev pub CanTell : List (List Kind) → Form → Type 0
CanTell operands (lines_form input) = Unit {0}
CanTell operands (generate_form count) = Unit {0}
CanTell operands (local_form of (map_op exprs)) =
    (0 < length operands) × (0 < length exprs) × (list_any (λ e. is_none (expr_kind (first_kinds operands) e)) exprs ≡ false)
CanTell operands (local_form of op) = 0 < length operands
CanTell operands (cache_form of) = 0 < length operands

abbrev pub CanTellStatement : List (List Kind) → Statement → Type 0
CanTellStatement operands (line name form) = CanTell operands form
CanTellStatement operands (act action) = Unit {0}

abbrev pub CanTellStated : List (List Kind) → stateds.Stated → Type 0
CanTellStated operands s = CanTellStatement operands (stated_as [] s)

-- what a line reads as
abbrev pub line_read_in : reads.LineRead → LineReading
line_read_in reads_of.Skipped = skipped
line_read_in (reads_of.Refused cause) = refused cause
line_read_in (reads_of.Line name form kinds) = stated (line name (form_in form)) (kind_list kinds)
line_read_in (reads_of.Act action) = stated (act (action_in action)) []
