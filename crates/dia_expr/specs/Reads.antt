-- What the reading of an expression leaves.
use Rattle.std.specs.Prelude.{◌≡◌, ◌≤◌, ◌<◌, length, ℕ, suc, true, false, List, ◌∷◌, map, Option, None, Some}
use Rattle.std.specs.Borrow.{Bor}
use Rattle.std.specs.Option.{option_map}
use Rattle.std.specs.List.{list_any}
use Rattle.row_defs.specs.declared.cause.Cause as causes
use Rattle.row_defs.specs.declared.cause.Cause.TheVariants as cause
use Rattle.row_defs.specs.Values.{Expr}
use Rattle.row_defs.specs.Expressions.{Beginning, begins_none, onto, exprs_of, and_operands, stopped, inside, ending_of}
use Rattle.dia_expr.specs.declared.read.ExprErr as errors
use Rattle.dia_expr.specs.declared.read.ExprErr.TheVariants.{BadForm, UnknownWord, BadNumber, NoMemory}

abbrev pub words_in : List (Bor (List ℕ)) → List (List ℕ)
words_in words = map (λ (word : Bor (List ℕ)). word.now) words

-- the words are this expression and then those of the rest
pub record IsRead (words : List (List ℕ)) (e : Expr) (rest : List (List ℕ)) : Type 0 where
  pub exprs : exprs_of words ≡ option_map (λ more. e ∷ more) (exprs_of rest)
  pub known : list_any begins_none words ≡ list_any begins_none rest
  pub ending : (n : ℕ) → ending_of (suc n) words ≡ ending_of n rest

-- the words are these two expressions and then those of the rest
pub record IsPairRead (words : List (List ℕ)) (a b : Expr) (rest : List (List ℕ)) : Type 0 where
  pub exprs : exprs_of words ≡ option_map (λ more. a ∷ b ∷ more) (exprs_of rest)
  pub known : list_any begins_none words ≡ list_any begins_none rest
  pub ending : (n : ℕ) → ending_of (suc (suc n)) words ≡ ending_of n rest

-- the words are the operands that a form takes, with which it is this expression, and then those of the rest
pub record IsFormRead (b : Beginning) (words : List (List ℕ)) (e : Expr) (rest : List (List ℕ)) : Type 0 where
  pub exprs : onto (Some b) (exprs_of words) ≡ option_map (λ more. e ∷ more) (exprs_of rest)
  pub known : list_any begins_none words ≡ list_any begins_none rest
  pub ending : (n : ℕ) → ending_of (and_operands b n) words ≡ ending_of n rest

-- the words aren't so many expressions
abbrev pub AreFewer : ℕ → Option (List Expr) → Type 0
AreFewer k None = Unit {0}
AreFewer k (Some exprs) = length exprs < k

-- the reading of so many expressions or more stops
abbrev pub IsStopAt : ℕ → errors.ExprErr → List (List ℕ) → Type 0
IsStopAt k UnknownWord words = (list_any begins_none words ≡ true) × ((n : ℕ) → k ≤ n → ending_of n words ≡ stopped)
IsStopAt k BadForm words =
    (list_any begins_none words ≡ false) × AreFewer k (exprs_of words) × ((n : ℕ) → k ≤ n → ending_of n words ≡ inside)
IsStopAt k BadNumber words = ⊥
IsStopAt k NoMemory words = Unit {0}

-- the reading of a list of expressions stops
abbrev pub IsListStop : errors.ExprErr → List (List ℕ) → Type 0
IsListStop UnknownWord words = list_any begins_none words ≡ true
IsListStop BadForm words = (list_any begins_none words ≡ false) × (exprs_of words ≡ None)
IsListStop BadNumber words = ⊥
IsListStop NoMemory words = Unit {0}

-- a refusal is the one that the words have
abbrev pub IsFault : errors.ExprErr → Option causes.Cause → Type 0
IsFault BadForm fault = fault ≡ Some cause.BadForm
IsFault UnknownWord fault = fault ≡ Some cause.UnknownWord
IsFault BadNumber fault = fault ≡ Some cause.BadNumber
IsFault NoMemory fault = Unit {0}
