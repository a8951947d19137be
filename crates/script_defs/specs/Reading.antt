-- What a script's bytes read as: its statements, or the first cause for which it is refused, and the line.
use Rattle.std.specs.Prelude.{◌≡◌, ℕ, ◌+◌, ◌==◌, nat_lt, nat_le, Bool, true, false, not, ◌&&◌, ◌||◌, List, [], ◌∷◌, ◌++◌, length, take, drop, map, find, Option, None, Some, is_none, is_some, unwrap_or, slice_get, Result, Ok, Err, if◌then◌else◌, codes}
use Rattle.std.specs.List.{list_all, list_any, filter_map}
use Rattle.std.specs.Str.{bytes_eq}
use Rattle.row_defs.specs.declared.kind.Kind.{Kind}
use Rattle.row_defs.specs.declared.kind.Kind.TheVariants.{Int, Text}
use Rattle.row_defs.specs.declared.cause.Cause.{Cause}
use Rattle.row_defs.specs.declared.cause.Cause.TheVariants.{ScriptLong, LineLong, BadForm, UnknownName, NameTaken, UnknownWord, BadNumber, BadColumn, BadKind, TooManyColumns}
use Rattle.row_defs.specs.Limits.{most_columns}
use Rattle.row_defs.specs.Pieces.{lines_of, words_of}
use Rattle.row_defs.specs.Texts.{is_decimal, number_spelled, number_or_0}
use Rattle.row_defs.specs.Values.{Expr, is_int, is_text, expr_kind, lacks_column}
use Rattle.row_defs.specs.Expressions.{exprs_of, list_fault, one_fault}
use Rattle.script_defs.specs.declared.word.Word.{Word}
use Rattle.script_defs.specs.declared.word.Selector.{Selector}
use Rattle.script_defs.specs.declared.shape.Shape.{Shape}
use Rattle.script_defs.specs.declared.shape.NumberPlace.{NumberPlace}
use Rattle.script_defs.specs.declared.shape.ColumnPlace.{ColumnPlace}
use Rattle.script_defs.specs.declared.shape.ExprPlace.{ExprPlace}
use Rattle.script_defs.specs.declared.shape.ExprPlace.TheVariants as places
use Rattle.script_defs.specs.Limits.{script_limit, script_lines_limit, line_limit}
use Rattle.script_defs.specs.Scripts.{Statement, line, act, Script, statement_kinds}
use Rattle.script_defs.specs.Words.{word_spelled, selector_spelled}
use Rattle.script_defs.specs.Shapes.{shape_of}
use Rattle.script_defs.specs.Stating.{Said, statement_of}

-- words ------------------------------------------------------------------------------------------------------

abbrev pub is_lower : ℕ → Bool
is_lower b = nat_le 97 b && nat_le b 122

abbrev pub is_name_byte : ℕ → Bool
is_name_byte b = is_lower b || is_decimal b || b == 95

-- a lower-case letter, and up to 31 lower-case letters, digits and `_`
abbrev pub is_name : List ℕ → Bool
is_name [] = false
is_name (b ∷ bytes) = is_lower b && nat_le (length bytes) 31 && list_all is_name_byte bytes

abbrev pub is_printable : ℕ → Bool
is_printable b = nat_le 32 b && nat_le b 126

-- a line with no byte but spaces, or whose first other byte is `#`
abbrev pub is_skipped_words : List (List ℕ) → Bool
is_skipped_words [] = true
is_skipped_words ([] ∷ words) = true
is_skipped_words ((b ∷ word) ∷ words) = b == 35

-- the parts of a line: the name before `=`, the statement or action word, and the words after it
pub record Sentence : Type 0 where
  pub defines : Option (List ℕ)
  pub word : List ℕ
  pub args : List (List ℕ)

abbrev pub defining : List ℕ → List (List ℕ) → Sentence
defining name [] = record { defines = Some name; word = []; args = [] }
defining name (word ∷ args) = record { defines = Some name; word = word; args = args }

abbrev pub sentence_of : List (List ℕ) → Sentence
sentence_of [] = record { defines = None; word = []; args = [] }
sentence_of (word ∷ []) = record { defines = None; word = word; args = [] }
sentence_of (first ∷ second ∷ more) =
    if bytes_eq second (codes "=") then defining first more else record { defines = None; word = first; args = second ∷ more }

-- what is known before a line ---------------------------------------------------------------------------------

-- an earlier line: its number, its name, and the kinds of its rows
pub record Earlier : Type 0 where
  pub number : ℕ
  pub name : List ℕ
  pub kinds : List Kind

pub record Known : Type 0 where
  pub lines : List Earlier

abbrev pub nothing_known : Known
nothing_known = record { lines = [] }

abbrev pub earlier_named : Known → List ℕ → Option Earlier
earlier_named known word = find (λ (e : Earlier). bytes_eq e.name word) known.lines

-- what the places of a line hold ----------------------------------------------------------------------------------

-- a word is known in its place: statement words behind a name, action words else
abbrev pub placed : Bool → Option Word → Option Word
placed named None = None
placed named (Some word) = if (shape_of word None).defines then (if named then Some word else None) else (if named then None else Some word)

abbrev pub word_in : Option (List ℕ) → List ℕ → Option Word
word_in name word = placed (is_some name) (word_spelled word)

abbrev pub selector_of : Option (List ℕ) → Option Selector
selector_of None = None
selector_of (Some word) = selector_spelled word

-- a selector stands behind the operand
abbrev pub selector_in : List (List ℕ) → Option Selector
selector_in args = selector_of (slice_get args 1)

abbrev pub shape_in : Word → List (List ℕ) → Shape
shape_in word args = shape_of word (selector_in args)

-- the words that name earlier lines, and these lines
abbrev pub operand_words : Shape → List (List ℕ) → List (List ℕ)
operand_words shape args = take shape.names.most (drop shape.names.from args)

abbrev pub operands_in : Known → Shape → List (List ℕ) → List Earlier
operands_in known shape args = filter_map (earlier_named known) (operand_words shape args)

abbrev pub kinds_among : List Earlier → List (List Kind)
kinds_among = map (λ (e : Earlier). e.kinds)

abbrev pub numbers_among : List Earlier → List ℕ
numbers_among = map (λ (e : Earlier). e.number)

-- the kinds of the first operand's rows, where there is an operand
abbrev pub operand_kinds : List Earlier → Option (List Kind)
operand_kinds [] = None
operand_kinds (e ∷ operands) = Some e.kinds

-- the word of a number, and that of a column
abbrev pub number_word : Option NumberPlace → List (List ℕ) → Option (List ℕ)
number_word None args = None
number_word (Some number) args = slice_get args number.place

abbrev pub column_word : Option ColumnPlace → List (List ℕ) → Option (List ℕ)
column_word None args = None
column_word (Some column) args = slice_get args column.place

-- the words of expressions, why they are refused, and the expressions where none of the words is
abbrev pub expr_words : ExprPlace → List (List ℕ) → List (List ℕ)
expr_words places.Nowhere args = []
expr_words (places.Test from) args = drop from args
expr_words (places.List from) args = drop from args

abbrev pub exprs_fault : ExprPlace → List (List ℕ) → Option Cause
exprs_fault places.Nowhere args = None
exprs_fault (places.Test from) args = one_fault (drop from args)
exprs_fault (places.List from) args = list_fault (drop from args)

abbrev pub exprs_without : Option Cause → List (List ℕ) → List Expr
exprs_without None words = unwrap_or (exprs_of words) []
exprs_without (Some cause) words = []

abbrev pub exprs_in : ExprPlace → List (List ℕ) → List Expr
exprs_in place args = exprs_without (exprs_fault place args) (expr_words place args)

-- the number that a word spells, where there is one
abbrev pub value_in : Option (List ℕ) → ℕ
value_in None = 0
value_in (Some w) = number_or_0 w

abbrev pub said_of : List Earlier → Shape → List (List ℕ) → Said
said_of operands shape args = record {
  selector = selector_in args;
  operands = numbers_among operands;
  number = value_in (number_word shape.number args);
  column = value_in (column_word shape.column args);
  exprs = exprs_in shape.exprs args;
  first = unwrap_or (slice_get args 0) [];
}

abbrev pub said_in : Known → Word → List (List ℕ) → Said
said_in known word args = said_of (operands_in known (shape_in word args) args) (shape_in word args) args

-- the causes, each where it applies if no earlier one does -------------------------------------------------------

-- whether this is why the words of expressions are refused
abbrev pub is_bad_form : Option Cause → Bool
is_bad_form (Some BadForm) = true
is_bad_form _ = false

abbrev pub is_unknown_word : Option Cause → Bool
is_unknown_word (Some UnknownWord) = true
is_unknown_word _ = false

abbrev pub is_bad_number : Option Cause → Bool
is_bad_number (Some BadNumber) = true
is_bad_number _ = false

-- BadForm

abbrev pub has_bad_name : Option (List ℕ) → List ℕ → Bool
has_bad_name None word = false
has_bad_name (Some name) word = not (is_name name) || length word == 0

abbrev pub fits_most : Option ℕ → ℕ → Bool
fits_most None n = true
fits_most (Some most) n = nat_le n most

abbrev pub fits_count : Shape → List (List ℕ) → Bool
fits_count shape args = nat_le shape.least (length args) && fits_most shape.most (length args)

abbrev pub has_bad_words : Shape → List (List ℕ) → Bool
has_bad_words shape args = not (fits_count shape args) || is_bad_form (exprs_fault shape.exprs args)

-- UnknownName

abbrev pub has_unknown_name : Known → Shape → List (List ℕ) → Bool
has_unknown_name known shape args = list_any (λ w. is_none (earlier_named known w)) (operand_words shape args)

-- NameTaken

abbrev pub has_taken_name : Known → Option (List ℕ) → Bool
has_taken_name known None = false
has_taken_name known (Some name) = is_some (earlier_named known name)

-- UnknownWord

abbrev pub has_unknown_word : Shape → List (List ℕ) → Bool
has_unknown_word shape args = not shape.is_selected || is_unknown_word (exprs_fault shape.exprs args)

-- BadNumber

-- a word in a number's place spells none, or one that isn't in the range
abbrev pub is_number_outside : ℕ → ℕ → Option ℕ → Bool
is_number_outside least most None = true
is_number_outside least most (Some n) = not (nat_le least n && nat_le n most)

abbrev pub is_outside : Option NumberPlace → Option (List ℕ) → Bool
is_outside (Some number) (Some w) = is_number_outside number.least number.most (number_spelled w)
is_outside _ _ = false

abbrev pub is_no_number : Option (List ℕ) → Bool
is_no_number None = false
is_no_number (Some w) = is_none (number_spelled w)

abbrev pub has_bad_number : Shape → List (List ℕ) → Bool
has_bad_number shape args =
    is_outside shape.number (number_word shape.number args) || is_no_number (column_word shape.column args)
    || is_bad_number (exprs_fault shape.exprs args)

-- BadColumn

abbrev pub is_no_column : List Kind → Option (List ℕ) → Bool
is_no_column kinds None = false
is_no_column kinds (Some w) = nat_le (length kinds) (number_or_0 w)

abbrev pub lack_columns : List Kind → List Expr → Bool
lack_columns kinds exprs = list_any (lacks_column (length kinds)) exprs

-- columns are those of the first operand
abbrev pub has_bad_column : Option (List Kind) → Shape → List (List ℕ) → Bool
has_bad_column None shape args = false
has_bad_column (Some kinds) shape args = is_no_column kinds (column_word shape.column args) || lack_columns kinds (exprs_in shape.exprs args)

-- BadKind

abbrev pub is_kind : Kind → Option Kind → Bool
is_kind Int kind = is_int kind
is_kind Text kind = is_text kind

abbrev pub is_other_kind : Option ColumnPlace → List Kind → Option (List ℕ) → Bool
is_other_kind (Some column) kinds (Some w) = not (is_kind column.kind (slice_get kinds (number_or_0 w)))
is_other_kind _ kinds _ = false

abbrev pub is_one_int : List Kind → List Expr → Bool
is_one_int kinds (e ∷ []) = is_int (expr_kind kinds e)
is_one_int kinds _ = false

abbrev pub have_no_kinds : ExprPlace → List Kind → List Expr → Bool
have_no_kinds (places.Test from) kinds exprs = not (is_one_int kinds exprs)
have_no_kinds _ kinds exprs = list_any (λ e. is_none (expr_kind kinds e)) exprs

abbrev pub has_bad_kind : Option (List Kind) → Shape → List (List ℕ) → Bool
has_bad_kind None shape args = false
has_bad_kind (Some kinds) shape args =
    is_other_kind shape.column kinds (column_word shape.column args) || have_no_kinds shape.exprs kinds (exprs_in shape.exprs args)

-- a cause, and whether it applies
pub record Test : Type 0 where
  pub cause : Cause
  pub applies : Bool

abbrev pub first_cause : List Test → Option Cause
first_cause [] = None
first_cause (test ∷ tests) = if test.applies then Some test.cause else first_cause tests

abbrev pub has_bad_bytes : List ℕ → Sentence → Bool
has_bad_bytes bytes s = not (list_all is_printable bytes) || has_bad_name s.defines s.word

-- the tests of a line whose word isn't known, and those of one whose word has this shape
abbrev pub tests_of_unknown : Known → List ℕ → Sentence → List Test
tests_of_unknown known bytes s =
    record { cause = BadForm; applies = has_bad_bytes bytes s }
    ∷ record { cause = NameTaken; applies = has_taken_name known s.defines }
    ∷ record { cause = UnknownWord; applies = true }
    ∷ []

abbrev pub tests_of : Known → List ℕ → Sentence → Shape → List Test
tests_of known bytes s shape =
    let kinds = operand_kinds (operands_in known shape s.args) in
    record { cause = BadForm; applies = has_bad_bytes bytes s || has_bad_words shape s.args }
    ∷ record { cause = UnknownName; applies = has_unknown_name known shape s.args }
    ∷ record { cause = NameTaken; applies = has_taken_name known s.defines }
    ∷ record { cause = UnknownWord; applies = has_unknown_word shape s.args }
    ∷ record { cause = BadNumber; applies = has_bad_number shape s.args }
    ∷ record { cause = BadColumn; applies = has_bad_column kinds shape s.args }
    ∷ record { cause = BadKind; applies = has_bad_kind kinds shape s.args }
    ∷ []

-- what a line reads as: nothing, a cause, or a statement and the kinds of its rows
pub data LineReading : Type 0 where
  skipped : LineReading
  refused : Cause → LineReading
  stated : Statement → List Kind → LineReading

-- the last cause: its rows would have too many columns
abbrev pub within_columns : Statement → List Kind → LineReading
within_columns statement kinds = if nat_lt most_columns (length kinds) then refused TooManyColumns else stated statement kinds

-- the statement that a line without an earlier cause is, and the kinds of its rows
abbrev pub statement_in : Known → Option (List ℕ) → Word → List (List ℕ) → Statement
statement_in known name word args = statement_of (unwrap_or name []) word (said_in known word args)

abbrev pub kinds_of_line : Known → Option (List ℕ) → Word → List (List ℕ) → List Kind
kinds_of_line known name word args =
    statement_kinds (kinds_among (operands_in known (shape_in word args) args)) (statement_in known name word args)

abbrev pub reading_without : Known → Sentence → Word → Option Cause → LineReading
reading_without known s word (Some cause) = refused cause
reading_without known s word None = within_columns (statement_in known s.defines word s.args) (kinds_of_line known s.defines word s.args)

abbrev pub unknown_cause : Option Cause → LineReading
unknown_cause None = refused UnknownWord
unknown_cause (Some cause) = refused cause

abbrev pub reading_of_word : Known → List ℕ → Sentence → Option Word → LineReading
reading_of_word known bytes s None = unknown_cause (first_cause (tests_of_unknown known bytes s))
reading_of_word known bytes s (Some word) = reading_without known s word (first_cause (tests_of known bytes s (shape_in word s.args)))

abbrev pub reading_of_parts : Known → List ℕ → Sentence → LineReading
reading_of_parts known bytes s = reading_of_word known bytes s (word_in s.defines s.word)

unfoldable pub line_reading : Known → List ℕ → LineReading
line_reading known bytes =
    if nat_lt line_limit (length bytes) then refused LineLong
    else (if is_skipped_words (words_of bytes) then skipped else reading_of_parts known bytes (sentence_of (words_of bytes)))

-- scripts -----------------------------------------------------------------------------------------------------------

-- what is known after a statement on line n
abbrev pub known_after : Known → ℕ → Statement → List Kind → Known
known_after known n (line name form) kinds = record { lines = known.lines ++ record { number = n; name = name; kinds = kinds } ∷ [] }
known_after known n (act action) kinds = known

-- a statement before those that the rest reads as
abbrev pub onto_script : ℕ → Statement → Result Script (ℕ × Cause) → Result Script (ℕ × Cause)
onto_script n statement (Ok more) = Ok (record { number = n; statement = statement } ∷ more)
onto_script n statement (Err e) = Err e

-- what these lines read as, the first of them being line n
unfoldable pub reading_from : Known → ℕ → List (List ℕ) → Result Script (ℕ × Cause)
reading_from known n [] = Ok []
reading_from known n (bytes ∷ more) = elim (line_reading known bytes) [
  | skipped ↦ reading_from known (n + 1) more
  | refused cause ↦ Err (n, cause)
  | stated statement kinds ↦ onto_script n statement (reading_from (known_after known n statement kinds) (n + 1) more)
]

-- the script that the bytes are, or the line and the cause of its first refusal
unfoldable pub reading_of : List ℕ → Result Script (ℕ × Cause)
reading_of bytes =
    if nat_lt script_limit (length bytes) || nat_lt script_lines_limit (length (lines_of bytes)) then Err (script_lines_limit + 1, ScriptLong)
    else reading_from nothing_known 1 (lines_of bytes)

-- the bytes read as this script, and nothing in it is refused
abbrev pub ReadsAs : List ℕ → Script → Type 0
ReadsAs bytes script = reading_of bytes ≡ Ok script

-- the bytes are refused for this cause, on this line
abbrev pub IsRefused : List ℕ → ℕ → Cause → Type 0
IsRefused bytes n cause = reading_of bytes ≡ Err (n, cause)
