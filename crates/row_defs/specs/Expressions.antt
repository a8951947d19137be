-- How expressions are spelled: words in prefix form, read from the left.
use Rattle.std.specs.Prelude.{ℕ, zero, suc, ◌+◌, ◌-◌, ◌^◌, ◌<◌, ◌≤◌, ◌++◌, ◌==◌, nat_le, Bool, false, not, ◌&&◌, List, [], ◌∷◌, length, Option, None, Some, is_none, if◌then◌else◌, codes}
use Rattle.std.specs.Option.{option_map, option_or}
use Rattle.std.specs.List.{list_any}
use Rattle.std.specs.Str.{bytes_eq}
use Rattle.std.specs.Fmt.{decimal}
use Rattle.row_defs.specs.declared.cause.Cause.{Cause}
use Rattle.row_defs.specs.declared.cause.Cause.TheVariants.{BadForm, UnknownWord, BadNumber}
use Rattle.row_defs.specs.Limits.{longest_text}
use Rattle.row_defs.specs.Texts.{is_decimal, is_number, number_or_0}
use Rattle.row_defs.specs.Values.{Math, plus, minus, times, quotient, remainder, smaller, larger, bits_and, bits_or, bits_xor, Comparison, equal, less, at_most, Part, prefix, suffix, nth_word, Expr, column, number, literal, math, is_zero, compare, choose, len, num, spelled, part}

-- words -------------------------------------------------------------------------------------------------------

-- what a word begins: an expression of its own, or a form with so many of the expressions behind it
pub data Beginning : Type 0 where
  whole : Expr → Beginning
  with_one : (Expr → Expr) → Beginning
  with_two : (Expr → Expr → Expr) → Beginning
  with_three : (Expr → Expr → Expr → Expr) → Beginning

abbrev pub math_word : List ℕ → Option Math
math_word w =
    if bytes_eq w (codes "add") then Some plus
    else (if bytes_eq w (codes "sub") then Some minus
    else (if bytes_eq w (codes "mul") then Some times
    else (if bytes_eq w (codes "div") then Some quotient
    else (if bytes_eq w (codes "mod") then Some remainder
    else (if bytes_eq w (codes "least") then Some smaller
    else (if bytes_eq w (codes "most") then Some larger
    else (if bytes_eq w (codes "and") then Some bits_and
    else (if bytes_eq w (codes "or") then Some bits_or
    else (if bytes_eq w (codes "xor") then Some bits_xor else None)))))))))

abbrev pub comparison_word : List ℕ → Option Comparison
comparison_word w =
    if bytes_eq w (codes "eq") then Some equal
    else (if bytes_eq w (codes "lt") then Some less
    else (if bytes_eq w (codes "le") then Some at_most else None))

abbrev pub part_word : List ℕ → Option Part
part_word w =
    if bytes_eq w (codes "head") then Some prefix
    else (if bytes_eq w (codes "tail") then Some suffix
    else (if bytes_eq w (codes "word") then Some nth_word else None))

abbrev pub other_word : List ℕ → Option Beginning
other_word w =
    if bytes_eq w (codes "not") then Some (with_one is_zero)
    else (if bytes_eq w (codes "len") then Some (with_one len)
    else (if bytes_eq w (codes "num") then Some (with_one num)
    else (if bytes_eq w (codes "text") then Some (with_one spelled)
    else (if bytes_eq w (codes "if") then Some (with_three choose) else None))))

-- a form by its name
abbrev pub form_word : List ℕ → Option Beginning
form_word w =
    option_or (option_map (λ op. with_two (math op)) (math_word w))
    (option_or (option_map (λ op. with_two (compare op)) (comparison_word w))
    (option_or (option_map (λ op. with_two (part op)) (part_word w)) (other_word w)))

-- `f` and one digit
abbrev pub column_word : List ℕ → Option Expr
column_word (b ∷ digit ∷ []) = if b == 102 && is_decimal digit then Some (column (digit - 48)) else None
column_word _ = None

-- the rest of a word that begins with `'`, as far as it is a text
abbrev pub literal_rest : List ℕ → Option Expr
literal_rest rest = if nat_le (length rest) longest_text then Some (literal rest) else None

-- a word that begins with a digit is a number, also where it spells none
abbrev pub leaf_word : List ℕ → Option Expr
leaf_word [] = None
leaf_word (b ∷ rest) =
    if b == 39 then literal_rest rest
    else (if is_decimal b then Some (number (number_or_0 (b ∷ rest))) else column_word (b ∷ rest))

abbrev pub beginning_of : List ℕ → Option Beginning
beginning_of w = option_or (option_map whole (leaf_word w)) (form_word w)

abbrev pub begins_none : List ℕ → Bool
begins_none w = is_none (beginning_of w)

abbrev pub is_bad_number : List ℕ → Bool
is_bad_number [] = false
is_bad_number (b ∷ rest) = is_decimal b && not (is_number (b ∷ rest))

-- what words are ----------------------------------------------------------------------------------------------

-- a word before others: it takes what its form asks for from the beginning of the expressions that they are
abbrev pub onto : Option Beginning → Option (List Expr) → Option (List Expr)
onto (Some (whole e)) (Some exprs) = Some (e ∷ exprs)
onto (Some (with_one f)) (Some (x ∷ exprs)) = Some (f x ∷ exprs)
onto (Some (with_two f)) (Some (x ∷ y ∷ exprs)) = Some (f x y ∷ exprs)
onto (Some (with_three f)) (Some (x ∷ y ∷ z ∷ exprs)) = Some (f x y z ∷ exprs)
onto _ _ = None

-- the expressions that the words are, where they are any
unfoldable pub exprs_of : List (List ℕ) → Option (List Expr)
exprs_of [] = Some []
exprs_of (w ∷ words) = onto (beginning_of w) (exprs_of words)

-- so many expressions, and those that it takes
abbrev pub and_operands : Beginning → ℕ → ℕ
and_operands (whole _) n = n
and_operands (with_one _) n = suc n
and_operands (with_two _) n = suc (suc n)
and_operands (with_three _) n = suc (suc (suc n))

-- how the reading of so many expressions ends: they are read and these words are left, it stops at a word that begins
-- none, or the words end inside an expression
pub data Ending : Type 0 where
  read : List (List ℕ) → Ending
  stopped : Ending
  inside : Ending

unfoldable pub ending_of : ℕ → List (List ℕ) → Ending
ending_of zero words = read words
ending_of (suc n) [] = inside
ending_of (suc n) (w ∷ words) = elim (beginning_of w) [ None ↦ stopped | Some b ↦ ending_of (and_operands b n) words ]

-- why words are refused -----------------------------------------------------------------------------------------

abbrev pub number_fault : List (List ℕ) → Option Cause
number_fault words = if list_any is_bad_number words then Some BadNumber else None

-- as a list of expressions. Each word stands where an expression begins, so the reading stops at any that begins none;
-- where it doesn't, the words end inside an expression if they aren't a list of some
abbrev pub list_fault : List (List ℕ) → Option Cause
list_fault words =
    if list_any begins_none words then Some UnknownWord
    else (if is_none (exprs_of words) then Some BadForm else number_fault words)

-- as one expression, behind which no word may be left
abbrev pub fault_at : List (List ℕ) → Ending → Option Cause
fault_at words stopped = Some UnknownWord
fault_at words inside = Some BadForm
fault_at words (read []) = number_fault words
fault_at words (read (w ∷ more)) = Some BadForm

abbrev pub one_fault : List (List ℕ) → Option Cause
one_fault words = fault_at words (ending_of 1 words)

-- how expressions are written -------------------------------------------------------------------------------------

abbrev pub math_name : Math → List ℕ
math_name plus = codes "add"
math_name minus = codes "sub"
math_name times = codes "mul"
math_name quotient = codes "div"
math_name remainder = codes "mod"
math_name smaller = codes "least"
math_name larger = codes "most"
math_name bits_and = codes "and"
math_name bits_or = codes "or"
math_name bits_xor = codes "xor"

abbrev pub comparison_name : Comparison → List ℕ
comparison_name equal = codes "eq"
comparison_name less = codes "lt"
comparison_name at_most = codes "le"

abbrev pub part_name : Part → List ℕ
part_name prefix = codes "head"
part_name suffix = codes "tail"
part_name nth_word = codes "word"

-- the words of an expression, its numbers in decimal without leading zeros
abbrev pub expr_words : Expr → List (List ℕ)
expr_words (column i) = (102 ∷ (48 + i) ∷ []) ∷ []
expr_words (number n) = decimal n ∷ []
expr_words (literal t) = (39 ∷ t) ∷ []
expr_words (math op a b) = math_name op ∷ expr_words a ++ expr_words b
expr_words (is_zero a) = codes "not" ∷ expr_words a
expr_words (compare op x y) = comparison_name op ∷ expr_words x ++ expr_words y
expr_words (choose c x y) = codes "if" ∷ expr_words c ++ (expr_words x ++ expr_words y)
expr_words (len t) = codes "len" ∷ expr_words t
expr_words (num t) = codes "num" ∷ expr_words t
expr_words (spelled a) = codes "text" ∷ expr_words a
expr_words (part op a t) = part_name op ∷ expr_words a ++ expr_words t

-- what words can write: one digit for a column, numbers of 64 bits, texts that aren't too long
abbrev pub HasWords : Expr → Type 0
HasWords (column i) = i ≤ 9
HasWords (number n) = n < 2 ^ 64
HasWords (literal t) = length t ≤ longest_text
HasWords (math op a b) = HasWords a × HasWords b
HasWords (is_zero a) = HasWords a
HasWords (compare op x y) = HasWords x × HasWords y
HasWords (choose c x y) = HasWords c × HasWords x × HasWords y
HasWords (len t) = HasWords t
HasWords (num t) = HasWords t
HasWords (spelled a) = HasWords a
HasWords (part op a t) = HasWords a × HasWords t
