-- Why words are refused, from where their reading stops.
use Rattle.std.proofs.Common.{◌≡◌, ◌<◌, length, ℕ, true, false, List, [], ◌∷◌, ◌++◌, Option, None, Some, refl, sym, ap, ◌∙◌, arith, lit≤, append_assoc, append-nil}
use Rattle.std.specs.Option.{option_map}
use Rattle.std.specs.List.{list_any}
use Rattle.row_defs.specs.declared.cause.Cause.TheVariants as cause
use Rattle.row_defs.specs.Values.{Expr}
use Rattle.row_defs.specs.Expressions.{begins_none, is_bad_number, exprs_of, read, ending_of, number_fault, list_fault, fault_at, one_fault}
use Rattle.dia_expr.specs.declared.read.ExprErr as errors
use Rattle.dia_expr.specs.declared.read.ExprErr.TheVariants.{BadForm, UnknownWord, BadNumber, NoMemory}
use Rattle.dia_expr.specs.Reads.{IsRead, IsStopAt, IsListStop, IsFault}
use Rattle.dia_expr.proofs.ReadLemmas.{exprs_some}

pub list_stop-first : (words : List (List ℕ)) (why : errors.ExprErr) → 0 < length words → IsStopAt 1 why words → IsListStop why words
list_stop-first words BadForm some s = (s.0, exprs_some words some s.1)
list_stop-first words UnknownWord some s = s.0
list_stop-first words BadNumber some s = s
list_stop-first words NoMemory some s = tt

pub list_stop-behind : (words rest : List (List ℕ)) (e : Expr) (why : errors.ExprErr) → IsRead words e rest → IsListStop why rest → IsListStop why words
list_stop-behind words rest e BadForm r s = (r.known ∙ s.0, r.exprs ∙ ap (option_map (λ more. e ∷ more)) s.1)
list_stop-behind words rest e UnknownWord r s = r.known ∙ s
list_stop-behind words rest e BadNumber r s = s
list_stop-behind words rest e NoMemory r s = tt

pub list_fault-stop : (words : List (List ℕ)) (why : errors.ExprErr) → IsListStop why words → IsFault why (list_fault words)
list_fault-stop words BadForm s = rw (s.0, s.1) refl
list_fault-stop words UnknownWord s = rw s refl
list_fault-stop words BadNumber s = absurd s
list_fault-stop words NoMemory s = tt

pub list_fault-numbers : (words : List (List ℕ)) (exprs : List Expr) → list_any begins_none words ≡ false → exprs_of words ≡ Some exprs
    → list_fault words ≡ number_fault words
list_fault-numbers words exprs known is = rw (known, is) refl

pub one_fault-stop : (words : List (List ℕ)) (why : errors.ExprErr) → IsStopAt 1 why words → IsFault why (one_fault words)
one_fault-stop words BadForm s = ap (fault_at words) (s.2 1 (lit≤ tt))
one_fault-stop words UnknownWord s = ap (fault_at words) (s.1 1 (lit≤ tt))
one_fault-stop words BadNumber s = absurd s
one_fault-stop words NoMemory s = tt

ending_of-read : (words rest : List (List ℕ)) (e : Expr) → IsRead words e rest → ending_of 1 words ≡ read rest
unfolding ending_of
ending_of-read words rest e r = r.ending 0

pub one_fault-left : (words rest : List (List ℕ)) (e : Expr) → IsRead words e rest → 0 < length rest → one_fault words ≡ Some cause.BadForm
one_fault-left words [] e r some = absurd (omega arith)
one_fault-left words (w ∷ rest) e r some = ap (fault_at words) (ending_of-read words (w ∷ rest) e r)

pub one_fault-numbers : (words rest : List (List ℕ)) (e : Expr) → IsRead words e rest → length rest ≡ 0 → one_fault words ≡ number_fault words
one_fault-numbers words [] e r none = ap (fault_at words) (ending_of-read words [] e r)
one_fault-numbers words (w ∷ rest) e r none = absurd (omega arith)

pub exprs_of-one : (words rest : List (List ℕ)) (e : Expr) → IsRead words e rest → length rest ≡ 0 → exprs_of words ≡ Some (e ∷ [])
unfolding exprs_of
exprs_of-one words [] e r none = r.exprs
exprs_of-one words (w ∷ rest) e r none = absurd (omega arith)

-- one expression more before others
onto_prefix : (prefix : List Expr) (e : Expr) (o : Option (List Expr))
    → option_map (λ exprs. prefix ++ exprs) (option_map (λ exprs. e ∷ exprs) o) ≡ option_map (λ exprs. (prefix ++ e ∷ []) ++ exprs) o
onto_prefix prefix e None = refl
onto_prefix prefix e (Some exprs) = ap Some (sym (append_assoc prefix (e ∷ []) exprs))

pub exprs_of-more : (words rest : List (List ℕ)) (prefix longer : List Expr) (e : Expr) → IsRead words e rest → longer ≡ prefix ++ e ∷ []
    → option_map (λ exprs. prefix ++ exprs) (exprs_of words) ≡ option_map (λ exprs. longer ++ exprs) (exprs_of rest)
exprs_of-more words rest prefix longer e r onto =
    ap (option_map (λ exprs. prefix ++ exprs)) r.exprs ∙ onto_prefix prefix e (exprs_of rest)
    ∙ ap (λ all. option_map (λ exprs. all ++ exprs) (exprs_of rest)) (sym onto)

pub exprs_of-done : (words : List (List ℕ)) (prefix : List Expr) → length words ≡ 0
    → option_map (λ exprs. prefix ++ exprs) (exprs_of words) ≡ Some prefix
unfolding exprs_of
exprs_of-done [] prefix none = ap Some (append-nil prefix)
exprs_of-done (w ∷ words) prefix none = absurd (omega arith)

pub exprs_of-all : (o : Option (List Expr)) → option_map (λ exprs. [] ++ exprs) o ≡ o
exprs_of-all None = refl
exprs_of-all (Some exprs) = refl

pub known-done : (words : List (List ℕ)) → length words ≡ 0 → list_any begins_none words ≡ false
known-done [] none = refl
known-done (w ∷ words) none = absurd (omega arith)

pub number_fault-some : (words : List (List ℕ)) → list_any is_bad_number words ≡ true → number_fault words ≡ Some cause.BadNumber
number_fault-some words bad = rw bad refl

pub number_fault-none : (words : List (List ℕ)) → list_any is_bad_number words ≡ false → number_fault words ≡ None
number_fault-none words good = rw good refl
