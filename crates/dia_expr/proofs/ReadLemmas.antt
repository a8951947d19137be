-- How the readings of operands make the reading of a form.
use Rattle.std.proofs.Common.{◌≡◌, ◌≤◌, ◌<◌, length, lit<, ℕ, zero, suc, List, [], ◌∷◌, Option, None, Some, refl, ◌∙◌, arith}
use Rattle.std.specs.Option.{option_map}
use Rattle.row_defs.specs.Values.{Expr}
use Rattle.row_defs.specs.Expressions.{Beginning, whole, with_one, with_two, with_three, beginning_of, onto, exprs_of, and_operands, Ending, stopped, inside, ending_of}
use Rattle.dia_expr.specs.declared.read.ExprErr as errors
use Rattle.dia_expr.specs.declared.read.ExprErr.TheVariants.{BadForm, UnknownWord, BadNumber, NoMemory}
use Rattle.dia_expr.specs.Reads.{IsRead, IsPairRead, IsFormRead, AreFewer, IsStopAt}

onto_whole : (e : Expr) (o : Option (List Expr)) → onto (Some (whole e)) o ≡ option_map (λ more. e ∷ more) o
onto_whole e None = refl
onto_whole e (Some more) = refl

onto_one : (f : Expr → Expr) (a : Expr) (o : Option (List Expr))
    → onto (Some (with_one f)) (option_map (λ more. a ∷ more) o) ≡ option_map (λ more. f a ∷ more) o
onto_one f a None = refl
onto_one f a (Some more) = refl

push_both : (a b : Expr) (o : Option (List Expr))
    → option_map (λ more. a ∷ more) (option_map (λ more. b ∷ more) o) ≡ option_map (λ more. a ∷ b ∷ more) o
push_both a b None = refl
push_both a b (Some more) = refl

onto_two : (f : Expr → Expr → Expr) (a b : Expr) (o : Option (List Expr))
    → onto (Some (with_two f)) (option_map (λ more. a ∷ b ∷ more) o) ≡ option_map (λ more. f a b ∷ more) o
onto_two f a b None = refl
onto_two f a b (Some more) = refl

onto_three : (f : Expr → Expr → Expr → Expr) (a b c : Expr) (o : Option (List Expr))
    → onto (Some (with_three f)) (option_map (λ more. a ∷ more) (option_map (λ more. b ∷ c ∷ more) o))
    ≡ option_map (λ more. f a b c ∷ more) o
onto_three f a b c None = refl
onto_three f a b c (Some more) = refl

-- too few operands make no expression
onto_fewer : (k : ℕ) (b : Beginning) (o : Option (List Expr)) → k ≤ and_operands b 0 → AreFewer k o → onto (Some b) o ≡ None
onto_fewer k (whole e) None takes few = refl
onto_fewer k (with_one f) None takes few = refl
onto_fewer k (with_two f) None takes few = refl
onto_fewer k (with_three f) None takes few = refl
onto_fewer k (whole e) (Some exprs) takes few = absurd (omega arith)
onto_fewer k (with_one f) (Some []) takes few = refl
onto_fewer k (with_one f) (Some (x ∷ exprs)) takes few = absurd (omega arith)
onto_fewer k (with_two f) (Some []) takes few = refl
onto_fewer k (with_two f) (Some (x ∷ [])) takes few = refl
onto_fewer k (with_two f) (Some (x ∷ y ∷ exprs)) takes few = absurd (omega arith)
onto_fewer k (with_three f) (Some []) takes few = refl
onto_fewer k (with_three f) (Some (x ∷ [])) takes few = refl
onto_fewer k (with_three f) (Some (x ∷ y ∷ [])) takes few = refl
onto_fewer k (with_three f) (Some (x ∷ y ∷ z ∷ exprs)) takes few = absurd (omega arith)

fewer_behind : (k : ℕ) (a : Expr) (o : Option (List Expr)) → AreFewer k o → AreFewer (suc k) (option_map (λ more. a ∷ more) o)
fewer_behind k a None few = tt
fewer_behind k a (Some exprs) few = omega arith

fewer_than : (k m : ℕ) (o : Option (List Expr)) → k ≤ m → AreFewer k o → AreFewer m o
fewer_than k m None low few = tt
fewer_than k m (Some exprs) low few = omega arith

pub read_whole : (w : List ℕ) (rest : List (List ℕ)) (e : Expr) → beginning_of w ≡ Some (whole e) → IsRead (w ∷ rest) e rest
unfolding exprs_of ending_of
read_whole w rest e is = record {
  exprs = rw is (onto_whole e (exprs_of rest));
  known = rw is refl;
  ending = λ n. rw (is, ending_of) refl;
}

pub read_pair : (words more rest : List (List ℕ)) (a b : Expr) → IsRead words a more → IsRead more b rest → IsPairRead words a b rest
read_pair words more rest a b r s = record {
  exprs = rw (r.exprs, s.exprs) (push_both a b (exprs_of rest));
  known = r.known ∙ s.known;
  ending = λ n. r.ending (suc n) ∙ s.ending n;
}

pub read_one : (words rest : List (List ℕ)) (f : Expr → Expr) (a : Expr) → IsRead words a rest → IsFormRead (with_one f) words (f a) rest
read_one words rest f a r = record {
  exprs = rw r.exprs (onto_one f a (exprs_of rest));
  known = r.known;
  ending = λ n. r.ending n;
}

pub read_two : (words rest : List (List ℕ)) (f : Expr → Expr → Expr) (a b : Expr)
    → IsPairRead words a b rest → IsFormRead (with_two f) words (f a b) rest
read_two words rest f a b r = record {
  exprs = rw r.exprs (onto_two f a b (exprs_of rest));
  known = r.known;
  ending = λ n. r.ending n;
}

pub read_three : (words more rest : List (List ℕ)) (f : Expr → Expr → Expr → Expr) (a b c : Expr)
    → IsRead words a more → IsPairRead more b c rest → IsFormRead (with_three f) words (f a b c) rest
read_three words more rest f a b c r s = record {
  exprs = rw (r.exprs, s.exprs) (onto_three f a b c (exprs_of rest));
  known = r.known ∙ s.known;
  ending = λ n. r.ending (suc (suc n)) ∙ s.ending n;
}

pub read_form : (w : List ℕ) (words rest : List (List ℕ)) (b : Beginning) (e : Expr)
    → beginning_of w ≡ Some b → IsFormRead b words e rest → IsRead (w ∷ words) e rest
unfolding exprs_of ending_of
read_form w words rest b e is r = record {
  exprs = rw is r.exprs;
  known = rw is r.known;
  ending = λ n. rw (is, ending_of) (r.ending n);
}

ending-nil : (n : ℕ) → 1 ≤ n → ending_of n [] ≡ inside
unfolding ending_of
ending-nil zero some = absurd (omega arith)
ending-nil (suc n) some = refl

ending-unknown : (w : List ℕ) (words : List (List ℕ)) → beginning_of w ≡ None → (n : ℕ) → 1 ≤ n → ending_of n (w ∷ words) ≡ stopped
unfolding ending_of
ending-unknown w words is zero some = absurd (omega arith)
ending-unknown w words is (suc n) some = rw (is, ending_of) refl

pub stop_unknown : (w : List ℕ) (words : List (List ℕ)) → beginning_of w ≡ None → IsStopAt 1 UnknownWord (w ∷ words)
stop_unknown w words is = (rw is refl, ending-unknown w words is)

pub stop_empty : (words : List (List ℕ)) → length words ≡ 0 → IsStopAt 1 BadForm words
unfolding exprs_of
stop_empty [] none = (refl, lit< tt, ending-nil)
stop_empty (w ∷ words) none = absurd (omega arith)

pub stop_weaken : (k m : ℕ) (why : errors.ExprErr) (words : List (List ℕ)) → k ≤ m → IsStopAt k why words → IsStopAt m why words
stop_weaken k m BadForm words low s = (s.0, fewer_than k m (exprs_of words) low s.1, λ n high. s.2 n (omega arith))
stop_weaken k m UnknownWord words low s = (s.0, λ n high. s.1 n (omega arith))
stop_weaken k m BadNumber words low s = s
stop_weaken k m NoMemory words low s = tt

-- where the reading stops behind an operand
ending_behind : (k : ℕ) (words more : List (List ℕ)) (a : Expr) (e : Ending) → IsRead words a more
    → ((n : ℕ) → k ≤ n → ending_of n more ≡ e) → (n : ℕ) → suc k ≤ n → ending_of n words ≡ e
ending_behind k words more a e r s zero low = absurd (omega arith)
ending_behind k words more a e r s (suc n) low = r.ending n ∙ s n (omega arith)

pub stop_behind : (k : ℕ) (why : errors.ExprErr) (words more : List (List ℕ)) (a : Expr)
    → IsRead words a more → IsStopAt k why more → IsStopAt (suc k) why words
stop_behind k BadForm words more a r s =
    (r.known ∙ s.0, rw r.exprs (fewer_behind k a (exprs_of more) s.1), ending_behind k words more a inside r s.2)
stop_behind k UnknownWord words more a r s = (r.known ∙ s.0, ending_behind k words more a stopped r s.1)
stop_behind k BadNumber words more a r s = s
stop_behind k NoMemory words more a r s = tt

-- where the reading of a form's operands stops
takes_more : (b : Beginning) (n : ℕ) → and_operands b 0 ≤ and_operands b n
takes_more (whole e) n = omega arith
takes_more (with_one f) n = omega arith
takes_more (with_two f) n = omega arith
takes_more (with_three f) n = omega arith

ending_form : (w : List ℕ) (words : List (List ℕ)) (b : Beginning) (e : Ending) → beginning_of w ≡ Some b
    → ((n : ℕ) → and_operands b 0 ≤ n → ending_of n words ≡ e) → (n : ℕ) → 1 ≤ n → ending_of n (w ∷ words) ≡ e
unfolding ending_of
ending_form w words b e is s zero low = absurd (omega arith)
ending_form w words b e is s (suc n) low = rw (is, ending_of) (s (and_operands b n) (takes_more b n))

exprs_form : (w : List ℕ) (words : List (List ℕ)) (b : Beginning) → beginning_of w ≡ Some b
    → AreFewer (and_operands b 0) (exprs_of words) → exprs_of (w ∷ words) ≡ None
unfolding exprs_of
exprs_form w words b is few = rw is (onto_fewer (and_operands b 0) b (exprs_of words) (omega arith) few)

pub stop_form : (why : errors.ExprErr) (w : List ℕ) (words : List (List ℕ)) (b : Beginning)
    → beginning_of w ≡ Some b → IsStopAt (and_operands b 0) why words → IsStopAt 1 why (w ∷ words)
stop_form BadForm w words b is s = (rw is s.0, rw (exprs_form w words b is s.1) tt, ending_form w words b inside is s.2)
stop_form UnknownWord w words b is s = (rw is s.0, ending_form w words b stopped is s.1)
stop_form BadNumber w words b is s = s
stop_form NoMemory w words b is s = tt

-- words aren't a list of no expressions
onto_some : (b : Option Beginning) (o : Option (List Expr)) → onto b o ≡ Some [] → ⊥
onto_some None o is = cc
onto_some (Some (whole e)) None is = cc
onto_some (Some (whole e)) (Some exprs) is = cc
onto_some (Some (with_one f)) None is = cc
onto_some (Some (with_one f)) (Some []) is = cc
onto_some (Some (with_one f)) (Some (x ∷ exprs)) is = cc
onto_some (Some (with_two f)) None is = cc
onto_some (Some (with_two f)) (Some []) is = cc
onto_some (Some (with_two f)) (Some (x ∷ [])) is = cc
onto_some (Some (with_two f)) (Some (x ∷ y ∷ exprs)) is = cc
onto_some (Some (with_three f)) None is = cc
onto_some (Some (with_three f)) (Some []) is = cc
onto_some (Some (with_three f)) (Some (x ∷ [])) is = cc
onto_some (Some (with_three f)) (Some (x ∷ y ∷ [])) is = cc
onto_some (Some (with_three f)) (Some (x ∷ y ∷ z ∷ exprs)) is = cc

fewer_none : (o : Option (List Expr)) → (o ≡ Some [] → ⊥) → AreFewer 1 o → o ≡ None
fewer_none None some few = refl
fewer_none (Some []) some few = absurd (some refl)
fewer_none (Some (x ∷ exprs)) some few = absurd (omega arith)

pub exprs_some : (words : List (List ℕ)) → 0 < length words → AreFewer 1 (exprs_of words) → exprs_of words ≡ None
unfolding exprs_of
exprs_some [] some few = absurd (omega arith)
exprs_some (w ∷ words) some few = fewer_none (onto (beginning_of w) (exprs_of words)) (onto_some (beginning_of w) (exprs_of words)) few
