-- The slot of a block, after one was assigned and after one was released.
use Rattle.std.proofs.Common.{◌≡◌, ◌≢◌, ℕ, suc, ◌+◌, ◌<◌, ◌≤◌, inl, inr, Bool, true, false, cond, eqb, List, [], ◌∷◌, ◌++◌, length, get_or, set, Option, Some, None, refl, sym, ap, ◌∙◌, subst, arith}
use Rattle.std.specs.Option.{is_some, option_map, IfSome}
use Rattle.std.specs.List.{count_by}
use Rattle.std.proofs.lemmas.List.{get_or-set_same, get_or-set_other, get_or_past, get_or_push, get_or_append_left, length_push}
use Rattle.std.proofs.lemmas.List.Sums.{sum_by-set, sum_by-cons, sum_by_push}
use Rattle.std.proofs.lemmas.Bool.{cases_lt, cases_eq, cases_Bool}
use Rattle.std.proofs.lemmas.Bool.Decides.{nat_tests}
use Rattle.pool_defs.specs.declared.block.Block.{Block}
use Rattle.pool_defs.specs.declared.block.Place.{Place}
use Rattle.pool_defs.specs.declared.block.Place.TheVariants.{Out, Cached, Slot}
use Rattle.pool_defs.specs.Pool.{PoolMachine, is_placed, is_spilled, block_of, place_of, slots_in_use}
use Rattle.pool_core.specs.Numbers.{Given, is_given, Gives, Returns}
use Rattle.pool_core.specs.Slots.{slot_of, IsAssigned}
use Rattle.pool_core.proofs.Giving.{still_given}
use Rattle.pool_core.proofs.Sound.{at_id, at_other}

-- a fact about a slot, from one about it where there is one
pub if_slot : (slot : Option ℕ) (P : ℕ → Type 0) → ((n : ℕ) → slot ≡ Some n → P n) → IfSome slot P
if_slot None P has = tt
if_slot (Some n) P has = has n refl

pub at_slot : (slot : Option ℕ) (P : ℕ → Type 0) (n : ℕ) → slot ≡ Some n → IfSome slot P → P n
at_slot slot P n is has = let at = subst (λ it. IfSome it P) is has in at

-- one more id changes no slot
pub slot_of-push : (by_id : List (Option ℕ)) (id : ℕ) → slot_of (by_id ++ None ∷ []) id ≡ slot_of by_id id
slot_of-push by_id id = elim (cases_lt id (length by_id)) [
  | inl below ↦ get_or_append_left by_id (None ∷ []) None id below
  | inr past ↦ elim (cases_eq id (length by_id)) [
    | inl end ↦ get_or_push by_id None None id (sym end) ∙ sym (get_or_past by_id id None past)
    | inr beyond ↦ get_or_past (by_id ++ None ∷ []) id None (omega (arith, length_push by_id None)) ∙ sym (get_or_past by_id id None past)
  ]
]

pub pushed : (by_id : List (Option ℕ)) (numbers : Given) → IsAssigned by_id numbers → IsAssigned (by_id ++ None ∷ []) numbers
pushed by_id numbers was = record {
  given = λ id slot is. was.given id slot (sym (slot_of-push by_id id) ∙ is);
  apart = λ id other slot is is_too. was.apart id other slot (sym (slot_of-push by_id id) ∙ is) (sym (slot_of-push by_id other) ∙ is_too);
  counted = omega (arith, was.counted, sum_by_push (λ it. cond (is_some it) 1 0) by_id None);
}

-- the slots after that of one id was set
pub slot_of-set : (by_id : List (Option ℕ)) (id : ℕ) (slot : Option ℕ) → id < length by_id → (other : ℕ) → slot_of (set by_id id slot) other ≡ cond (eqb id other) slot (slot_of by_id other)
slot_of-set by_id id slot known other = elim (cases_eq other id) [
  | inl same ↦
      let here = get_or-set_same by_id id slot None known in
      let at = ap (λ it. get_or (set by_id id slot) it None) same in
      let test : eqb id other ≡ true = grind (arith, nat_tests) in
      rw test (at ∙ here)
  | inr differs ↦
      let test : eqb id other ≡ false = grind (arith, nat_tests) in
      rw test (get_or-set_other by_id id other slot None differs)
]

-- how many blocks have a slot, after one got it or lost it
pub count-slots : (by_id : List (Option ℕ)) (id : ℕ) (was now : Option ℕ) → id < length by_id → slot_of by_id id ≡ was
    → count_by is_some (set by_id id now) + cond (is_some was) 1 0 ≡ count_by is_some by_id + cond (is_some now) 1 0
count-slots by_id id was now known is =
    let sums = sum_by-set (λ it. cond (is_some it) 1 0) by_id id now None known in
    let before = ap {B = ℕ} (λ it. cond (is_some it) 1 0) is in
    omega (arith, sums, before)

pub assigned : (by_id : List (Option ℕ)) (old new : Given) (id slot : ℕ) → id < length by_id → slot_of by_id id ≡ None → Gives old new slot
    → IsAssigned by_id old → IsAssigned (set by_id id (Some slot)) new
assigned by_id old new id slot known none gives was =
    let at = slot_of-set by_id id (Some slot) known in
    let here = at_id id (slot_of (set by_id id (Some slot)) id) (Some slot) (slot_of by_id id) (at id) in
    let there : (other : ℕ) → other ≢ id → slot_of (set by_id id (Some slot)) other ≡ slot_of by_id other = λ other differs.
    at_other id other (slot_of (set by_id id (Some slot)) other) (Some slot) (slot_of by_id other) (at other) differs in
    let fresh : (other n : ℕ) → slot_of by_id other ≡ Some n → n ≢ slot = λ other n is same.
    let given = was.given other n is in let free = gives.was_free in let taken = ap (λ it. is_given old it) same in cc in
    let only : (n : ℕ) → slot_of (set by_id id (Some slot)) id ≡ Some n → slot ≡ n = λ n is. cc in
    record {
      given = λ other n is. elim (cases_eq other id) [
        | inl same ↦ subst (λ it. is_given new it ≡ true) (only n (sym (ap (λ it. slot_of (set by_id id (Some slot)) it) same) ∙ is)) gives.is_taken
        | inr differs ↦ still_given old new slot n gives (was.given other n (sym (there other differs) ∙ is))
      ];
      apart = λ one other n is is_too. elim (cases_eq one id) [
        | inl same ↦ elim (cases_eq other id) [
          | inl same_too ↦ same ∙ sym same_too
          | inr differs ↦ absurd (fresh other n (sym (there other differs) ∙ is_too) (sym (only n (sym (ap (λ it. slot_of (set by_id id (Some slot)) it) same) ∙ is))))
        ]
        | inr differs ↦ elim (cases_eq other id) [
          | inl same ↦ absurd (fresh one n (sym (there one differs) ∙ is) (sym (only n (sym (ap (λ it. slot_of (set by_id id (Some slot)) it) same) ∙ is_too))))
          | inr differs_too ↦ was.apart one other n (sym (there one differs) ∙ is) (sym (there other differs_too) ∙ is_too)
        ]
      ];
      counted = omega (arith, was.counted, gives.one_more, count-slots by_id id None (Some slot) known none);
    }

pub released : (by_id : List (Option ℕ)) (old new : Given) (id slot : ℕ) → id < length by_id → slot_of by_id id ≡ Some slot → Returns old new slot
    → IsAssigned by_id old → IsAssigned (set by_id id None) new
released by_id old new id slot known own returns was =
    let at = slot_of-set by_id id None known in
    let here = at_id id (slot_of (set by_id id None) id) None (slot_of by_id id) (at id) in
    let kept : (other n : ℕ) → slot_of (set by_id id None) other ≡ Some n → (other ≢ id) × (slot_of by_id other ≡ Some n) = λ other n is. elim (cases_eq other id) [
      | inl same ↦ let now = ap (λ it. slot_of (set by_id id None) it) same in absurd (cc)
      | inr differs ↦ (differs, sym (at_other id other (slot_of (set by_id id None) other) None (slot_of by_id other) (at other) differs) ∙ is)
    ] in
    record {
      given = λ other n is.
          let before = kept other n is in
          returns.others n (λ same. before.0 (was.apart other id slot (before.1 ∙ ap Some same) own)) ∙ was.given other n before.1;
      apart = λ one other n is is_too. was.apart one other n (kept one n is).1 (kept other n is_too).1;
      counted = omega (arith, was.counted, returns.next, returns.one_less, count-slots by_id id (Some slot) None known own);
    }

-- where each that passes one test is where the other list passes another, no more pass the first
pub counted_within : {X : Type 0} (test : Option X → Bool) (xs : List (Option X)) (ys : List (Option ℕ)) → ((id : ℕ) → test (get_or xs id None) ≡ true → is_some (get_or ys id None) ≡ true)
    → count_by test xs ≤ count_by is_some ys
counted_within test [] ys passes = omega arith
counted_within test (x ∷ xs) [] passes =
    let rest = counted_within test xs [] (λ id is. passes (suc id) is) in
    let first = sum_by-cons (λ it. cond (test it) 1 0) x xs in
    elim (cases_Bool (test x)) [
      | inl is ↦ absurd (let never = passes 0 is in cc)
      | inr none ↦ let one = ap {B = ℕ} (λ b. cond b 1 0) none in omega (arith, first, one, rest)
    ]
counted_within test (x ∷ xs) (y ∷ ys) passes =
    let rest = counted_within test xs ys (λ id is. passes (suc id) is) in
    let first = sum_by-cons (λ it. cond (test it) 1 0) x xs in
    let other = sum_by-cons (λ it. cond (is_some it) 1 0) y ys in
    elim (cases_Bool (test x)) [
      | inl is ↦
          let one = ap {B = ℕ} (λ b. cond b 1 0) is in
          let one_too = ap {B = ℕ} (λ b. cond b 1 0) (passes 0 is) in
          omega (arith, first, other, one, one_too, rest)
      | inr none ↦ let one = ap {B = ℕ} (λ b. cond b 1 0) none in omega (arith, first, other, one, rest)
    ]

-- so no more slots are in use than blocks have one
pub used_within : (pool : PoolMachine ℕ) (by_id : List (Option ℕ)) → ((id slot : ℕ) → place_of pool id ≡ Some (Slot slot) → slot_of by_id id ≡ Some slot) → slots_in_use pool ≤ count_by is_some by_id
used_within pool by_id own = counted_within (is_placed is_spilled) pool.blocks by_id (λ id is. has (block_of pool id) (slot_of by_id id) is (own id))
  where
    has : (block : Option (Block ℕ)) (slot : Option ℕ) → is_placed is_spilled block ≡ true → ((n : ℕ) → option_map (λ it. it.place) block ≡ Some (Slot n) → slot ≡ Some n) → is_some slot ≡ true
    has None slot is own = cc
    has (Some block) slot is own = let at = spilled block.place is in ap is_some (own at.0 (ap Some at.1))
      where
        spilled : (place : Place) → is_spilled place ≡ true → (n : ℕ) × (place ≡ Slot n)
        spilled Out is = absurd (cc)
        spilled Cached is = absurd (cc)
        spilled (Slot n) is = (n, refl)
