-- Slots in ascending order: where a number stands, and what a change there does to each slot.
use Rattle.std.proofs.Common.{◌≡◌, ◌≢◌, ℕ, zero, suc, ◌<◌, ◌≤◌, ◌==◌, true, List, [], ◌∷◌, map, get_or, set, length, Result, Ok, Err, insert, if◌then◌else◌, refl, sym, ap, ◌∙◌, arith, subst, get_or-set_same, add-one, ⊎_elim}
use Rattle.std.proofs.lemmas.Bool.{ne_eqb, cases_lt}
use Rattle.std.proofs.lemmas.Grind.{common_steps, elements}
use Rattle.std.proofs.lemmas.List.{get_or-map, length-map, map-append, take-map, drop-map}
use Rattle.std.proofs.Math.Seq.{map-set_same}
use Rattle.std.proofs.lemmas.List.{map-set}
use Rattle.std.proofs.Math.ListN.{length-set}
use Rattle.std.proofs.lemmas.List.Sorted.{searched}
use Rattle.std.specs.List.Sorted.{IsStrictlyIncreasing, IsBinarySearchResult, IsSearchInRange}
use Rattle.std.specs.Ordering.{nat_cmp}
use Rattle.dia_edge.specs.Slots.{slots_of, pair_of, pairs_of, numbers, IsAscending, IsPlace, IsPut}
use Rattle.dia_edge.specs.declared.mem_disk.Held.{Held}

-- an earlier number is the lower one
pub lower : (xs : List ℕ) (j k : ℕ) → IsStrictlyIncreasing xs → j < k → k < length xs → get_or xs j 0 < get_or xs k 0
lower xs j zero up before within = omega arith
lower xs j (suc k) up before within =
    let step : get_or xs k 0 < get_or xs (suc k) 0 = rw add-one at (up k (omega arith)) in
    ⊎_elim (λ l. let rest : get_or xs j 0 < get_or xs k 0 = lower xs j k up l (omega arith) in omega arith)
    (λ l. let here : j ≡ k = omega arith in rw here step)
    (cases_lt j k)

rising : (xs : List ℕ) → IsStrictlyIncreasing xs → (i j : ℕ) → i ≤ j → j < length xs → get_or xs i 0 ≤ get_or xs j 0
rising xs up i j before within =
    ⊎_elim (λ l. let less : get_or xs i 0 < get_or xs j 0 = lower xs i j up l within in omega arith)
    (λ (l : j ≤ i). let here : i ≡ j = omega arith in let flat : get_or xs j 0 ≤ get_or xs j 0 = omega arith in rw here flat)
    (cases_lt i j)

same : (a : ℕ) → (a == a) ≡ true
same a = grind (arith, common_steps)

-- what a search found by a key, it found among the keys
keyed : {X : Type 0} (key : X → ℕ) (xs : List X) (some : X) (number : ℕ) (place : Result ℕ ℕ) → IsBinarySearchResult (λ y. nat_cmp (key y) number) xs place → IsSearchInRange place (length xs) → IsBinarySearchResult (λ y. nat_cmp y number) (map key xs) place
keyed key xs some number (Ok i) found within = λ d. rw (get_or-map key xs i some d within) (found some)
keyed key xs some number (Err i) found within =
    λ up.
    let parted = found (λ a b d le lt. rw (get_or-map key xs a d (key d) (omega arith), get_or-map key xs b d (key d) lt) at (up a b (key d) le (rw (length-map xs key) lt))) in (
      (λ k d low high. rw (get_or-map key xs k some d (omega arith)) (parted.0 k some low high)),
      λ k d low high.
          let inside : k < length xs = rw (length-map xs key) at high in
          rw (get_or-map key xs k some d inside) (parted.1 k some low inside),
    )

-- what a binary search finds by a key whose values rise
pub place_by_key : {X : Type 0} (key : X → ℕ) (xs : List X) (number : ℕ) (place : Result ℕ ℕ) → IsBinarySearchResult (λ y. nat_cmp (key y) number) xs place → IsSearchInRange place (length xs) → IsStrictlyIncreasing (map key xs) → IsPlace (map key xs) number place
place_by_key key [] number (Ok i) found within up = absurd (omega arith)
place_by_key key [] number (Err i) found within up = (within, (λ k l. absurd (omega arith)), λ k l m. absurd (omega arith))
place_by_key key (x ∷ xs) number place found within up =
    searched (map key (x ∷ xs)) number place (keyed key (x ∷ xs) x number place found within)
    (rising (map key (x ∷ xs)) up)

-- other slots are as they were after an insertion
pub inserted_others : (pairs : List (ℕ × List ℕ)) (i slot : ℕ) (bytes : List ℕ) (other : ℕ) → other ≢ slot → slots_of (insert pairs i (slot, bytes)) other ≡ slots_of pairs other
inserted_others pairs zero slot bytes other differs = rw (ne_eqb slot other (λ e. differs (sym e))) refl
inserted_others [] (suc i) slot bytes other differs = rw (ne_eqb slot other (λ e. differs (sym e))) refl
inserted_others (pair ∷ pairs) (suc i) slot bytes other differs =
    ap (λ rest. if pair.0 == other then pair.1 else rest) (inserted_others pairs i slot bytes other differs)

-- the slot that was inserted has its bytes
pub inserted : (pairs : List (ℕ × List ℕ)) (i slot : ℕ) (bytes : List ℕ) → i ≤ length pairs → ((k : ℕ) → k < i → get_or (numbers pairs) k 0 < slot) → slots_of (insert pairs i (slot, bytes)) slot ≡ bytes
inserted pairs zero slot bytes within below = rw (same slot) refl
inserted [] (suc i) slot bytes within below = absurd (omega arith)
inserted (pair ∷ pairs) (suc i) slot bytes within below =
    let first : pair.0 < slot = below 0 (omega arith) in
    rw (ne_eqb pair.0 slot (λ e. omega arith))
    (inserted pairs i slot bytes (omega arith) (λ k l. below (suc k) (omega arith)))

-- the numbers still rise after an insertion between the lower and the higher ones
pub inserted_rises : (xs : List ℕ) (i number : ℕ) → IsStrictlyIncreasing xs → i ≤ length xs → ((k : ℕ) → k < i → get_or xs k 0 < number) → ((k : ℕ) → i ≤ k → k < length xs → number < get_or xs k 0) → IsStrictlyIncreasing (insert xs i number)
inserted_rises xs i number up within below above = λ k l. grind (arith, elements)

-- other slots are as they were after a slot was set
pub set_others : (pairs : List (ℕ × List ℕ)) (i slot : ℕ) (bytes : List ℕ) (other : ℕ) → other ≢ slot → get_or (numbers pairs) i 0 ≡ slot → slots_of (set pairs i (slot, bytes)) other ≡ slots_of pairs other
set_others [] i slot bytes other differs at = refl
set_others (pair ∷ pairs) zero slot bytes other differs at =
    rw (ne_eqb slot other (λ e. differs (sym e)), ne_eqb pair.0 other (λ e. differs (sym e ∙ at))) refl
set_others (pair ∷ pairs) (suc i) slot bytes other differs at =
    ap (λ rest. if pair.0 == other then pair.1 else rest) (set_others pairs i slot bytes other differs at)

-- the slot at this place, with lower ones before it, has the bytes that stand there
pub slot_at : (pairs : List (ℕ × List ℕ)) (i slot : ℕ) (bytes : List ℕ) → ((k : ℕ) → k < i → get_or (numbers pairs) k 0 < slot) → i < length pairs → get_or pairs i (slot, bytes) ≡ (slot, bytes) → slots_of pairs slot ≡ bytes
slot_at [] i slot bytes below within at = absurd (omega arith)
slot_at (pair ∷ pairs) zero slot bytes below within at = rw (at, same slot) refl
slot_at (pair ∷ pairs) (suc i) slot bytes below within at =
    let first : pair.0 < slot = below 0 (omega arith) in
    rw (ne_eqb pair.0 slot (λ e. omega arith))
    (slot_at pairs i slot bytes (λ k l. below (suc k) (omega arith)) (omega arith) at)

-- a number that stands nowhere is a slot without bytes
pub slot_absent : (pairs : List (ℕ × List ℕ)) (slot : ℕ) → ((k : ℕ) → k < length (numbers pairs) → get_or (numbers pairs) k 0 ≢ slot) → slots_of pairs slot ≡ []
slot_absent [] slot nowhere = refl
slot_absent (pair ∷ pairs) slot nowhere =
    rw (ne_eqb pair.0 slot (nowhere 0 (omega arith)))
    (slot_absent pairs slot (λ k l. nowhere (suc k) (omega arith)))

-- the numbers of the slots
pub numbers_of : (held : List Held) → numbers (pairs_of held) ≡ map (λ one. one.slot) held
numbers_of [] = refl
numbers_of (one ∷ held) = ap (λ rest. one.slot ∷ rest) (numbers_of held)

pub length-numbers : (pairs : List (ℕ × List ℕ)) → length (numbers pairs) ≡ length pairs
length-numbers pairs = length-map pairs (λ pair. pair.0)

-- a slot that stands among the slots has the bytes that stand beside it
pub found : (pairs : List (ℕ × List ℕ)) (i slot : ℕ) (bytes : List ℕ) → IsAscending pairs → i < length pairs → get_or pairs i (slot, bytes) ≡ (slot, bytes) → slots_of pairs slot ≡ bytes
found pairs i slot bytes up within at =
    let inside : i < length (numbers pairs) = rw length-numbers within in
    let there : get_or (numbers pairs) i 0 ≡ slot = get_or-map (λ pair. pair.0) pairs i (slot, bytes) 0 within ∙ ap (λ pair. pair.0) at in
    slot_at pairs i slot bytes (λ k l. rw there at (lower (numbers pairs) k i up l inside)) within at

-- the same, where the slots are kept
pub found_held : (held : List Held) (i slot : ℕ) (one : Held) → IsAscending (pairs_of held) → i < length (numbers (pairs_of held)) → get_or (numbers (pairs_of held)) i 0 ≡ slot → one ≡ get_or held i one → slots_of (pairs_of held) slot ≡ one.bytes.items
found_held held i slot one up inside there at =
    let within : i < length held = rw (length-numbers (pairs_of held), length-map held pair_of) at inside in
    let paired : get_or (pairs_of held) i (pair_of one) ≡ pair_of one = get_or-map pair_of held i one (pair_of one) within ∙ ap pair_of (sym at) in
    let number : one.slot ≡ slot = sym (get_or-map (λ pair. pair.0) (pairs_of held) i (pair_of one) 0 (rw length-numbers at inside) ∙ ap (λ pair. pair.0) paired) ∙ there in
    rw (← number) (found (pairs_of held) i one.slot one.bytes.items up (rw length-numbers at inside) paired)

-- a slot that would have to be put has no bytes
pub not_found : (pairs : List (ℕ × List ℕ)) (i slot : ℕ) → ((k : ℕ) → k < i → get_or (numbers pairs) k 0 < slot) → ((k : ℕ) → i ≤ k → k < length (numbers pairs) → slot < get_or (numbers pairs) k 0) → slots_of pairs slot ≡ []
not_found pairs i slot below above =
    slot_absent pairs slot (λ k l e. ⊎_elim (λ before. let less : get_or (numbers pairs) k 0 < slot = below k before in omega arith) (λ after. let more : slot < get_or (numbers pairs) k 0 = above k after l in omega arith) (cases_lt k i))

pub map-insert : {X Y : Type 0} (f : X → Y) (xs : List X) (i : ℕ) (x : X) → map f (insert xs i x) ≡ insert (map f xs) i (f x)
map-insert f xs i x = simp (map-append, take-map, drop-map)

-- the slots as pairs, after a slot was set or put
pub pairs-set : (held : List Held) (i : ℕ) (one : Held) → pairs_of (set held i one) ≡ set (pairs_of held) i (pair_of one)
pairs-set held i one = map-set pair_of held i one

pub pairs-insert : (held : List Held) (i : ℕ) (one : Held) → pairs_of (insert held i one) ≡ insert (pairs_of held) i (pair_of one)
pairs-insert held i one = map-insert pair_of held i one

-- where the slot stands, it is set
pub set_puts : (pairs : List (ℕ × List ℕ)) (i slot : ℕ) (bytes : List ℕ) → IsAscending pairs → i < length (numbers pairs) → get_or (numbers pairs) i 0 ≡ slot → IsPut pairs (set pairs i (slot, bytes)) slot bytes
set_puts pairs i slot bytes up inside there =
    let within : i < length pairs = rw length-numbers at inside in
    let numbers_stay : numbers (set pairs i (slot, bytes)) ≡ numbers pairs = map-set_same (λ pair. pair.0) pairs i (slot, bytes) (slot, bytes) (sym there ∙ get_or-map (λ pair. pair.0) pairs i (slot, bytes) 0 within) in
    let rises : IsAscending (set pairs i (slot, bytes)) = subst IsStrictlyIncreasing (sym numbers_stay) up in
    record {
      ascending = rises;
      set = found (set pairs i (slot, bytes)) i slot bytes rises (rw length-set within) (get_or-set_same pairs i (slot, bytes) (slot, bytes) within);
      others = λ other differs. set_others pairs i slot bytes other differs there;
    }

-- where it doesn't stand, it is put
pub insert_puts : (pairs : List (ℕ × List ℕ)) (i slot : ℕ) (bytes : List ℕ) → IsAscending pairs → i ≤ length (numbers pairs) → ((k : ℕ) → k < i → get_or (numbers pairs) k 0 < slot) → ((k : ℕ) → i ≤ k → k < length (numbers pairs) → slot < get_or (numbers pairs) k 0) → IsPut pairs (insert pairs i (slot, bytes)) slot bytes
insert_puts pairs i slot bytes up inside below above =
    record {
      ascending = subst IsStrictlyIncreasing (sym (map-insert (λ pair. pair.0) pairs i (slot, bytes))) (inserted_rises (numbers pairs) i slot up inside below above);
      set = inserted pairs i slot bytes (rw length-numbers at inside) below;
      others = λ other differs. inserted_others pairs i slot bytes other differs;
    }
