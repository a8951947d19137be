-- Packets sorted by rank have each sender's in their order.
use Rattle.std.proofs.Common.{◌≡◌, ℕ, suc, ◌<◌, ◌≤◌, lt_of_not-le, Bool, true, false, cond, not, ◌&&◌, List, [], ◌∷◌, ◌++◌, length, get_or, refl, sym, ap, ◌∙◌, arith, eq-eqb, ne_eqb}
use Rattle.std.specs.Prelude.{◌==◌}
use Rattle.std.specs.List.{filter}
use Rattle.std.specs.List.Sorted.{IsStableByKey, IsNonDecreasingBy}
use Rattle.std.specs.Ordering.{nat_cmp, is_lt}
use Rattle.std.specs.Cmp.{nat_cmp_is}
use Rattle.std.specs.declared.cmp.Ordering.{Ordering}
use Rattle.std.specs.declared.cmp.Ordering.TheVariants.{Less, Equal, Greater}
use Rattle.std.specs.Prelude.{IsPermutation}
use Rattle.std.proofs.lemmas.List.Sorted.{All-permutation, IsPermutation-map}
use mathlib.Core.Logic.{dite}
use native.Mathlib.Decide.{dec_le}
use Rattle.block_pool.specs.Handles.{BlockValue, PoolName, AreOfPool}
use Rattle.multiplexer.specs.declared.packet.Packet.{Packet}
use Rattle.mix_stream.specs.Packets.{bytes_from, blocks_in, Rises}

abbrev joined : List Packet → List ℕ
joined [] = []
joined (p ∷ ps) = p.block.bytes ++ joined ps

joined_cond : (b : Bool) (p : Packet) (ps : List Packet) → joined (cond b (p ∷ ps) ps) ≡ cond b (p.block.bytes ++ joined ps) (joined ps)
joined_cond true p ps = refl
joined_cond false p ps = refl

filtered : (k : ℕ) (test : Packet → Bool) → ((p : Packet) → test p ≡ (p.from == k)) → (ps : List Packet) → bytes_from k ps ≡ joined (filter test ps)
filtered k test is [] = refl
filtered k test is (p ∷ ps) = ap (λ (l : List ℕ). cond (p.from == k) (p.block.bytes ++ l) l) (filtered k test is ps)
    ∙ sym (joined_cond (p.from == k) p (filter test ps)) ∙ ap (λ (b : Bool). joined (cond b (p ∷ filter test ps) (filter test ps))) (sym (is p))

both : (x y u v : Ordering) → x ≡ u → y ≡ v → (not (is_lt x) && not (is_lt y)) ≡ (not (is_lt u) && not (is_lt v))
both x y u v e f = λ i. not (is_lt (e i)) && not (is_lt (f i))

tie : (a b : ℕ) → (not (is_lt (nat_cmp a b)) && not (is_lt (nat_cmp b a))) ≡ (b == a)
tie a b = dite (dec_le b a)
    (λ le. dite (dec_le a b)
    (λ ge. let e : a ≡ b = omega arith in both (nat_cmp a b) (nat_cmp b a) Equal Equal (sym (nat_cmp_is a b Equal e)) (sym (nat_cmp_is b a Equal (sym e))) ∙ sym (eq-eqb b a (sym e)))
    (λ nle. let lt : b < a = lt_of_not-le nle in both (nat_cmp a b) (nat_cmp b a) Greater Less (sym (nat_cmp_is a b Greater lt)) (sym (nat_cmp_is b a Less lt)) ∙ sym (ne_eqb b a (λ e. omega arith))))
    (λ nle. let lt : a < b = lt_of_not-le nle in both (nat_cmp a b) (nat_cmp b a) Less Greater (sym (nat_cmp_is a b Less lt)) (sym (nat_cmp_is b a Greater lt)) ∙ sym (ne_eqb b a (λ e. omega arith)))

-- some pool, of which nothing is said
module _ (pool : PoolName) where
  stable_in : (xs ys : List Packet) → IsStableByKey (λ (p : Packet). p.from) nat_cmp xs ys → (k : ℕ) → bytes_from k ys ≡ bytes_from k xs
  stable_in xs ys h k =
      let x : Packet = record { from = k; seq = 0; block = record { pool = pool; bytes = [] } } in
      let test : Packet → Bool = λ p. not (is_lt (nat_cmp k p.from)) && not (is_lt (nat_cmp p.from k)) in
      filtered k test (λ p. tie k p.from) ys ∙ ap joined (h x) ∙ sym (filtered k test (λ p. tie k p.from) xs)

pub stable_bytes : (xs ys : List Packet) → IsStableByKey (λ (p : Packet). p.from) nat_cmp xs ys → length xs ≡ length ys → (k : ℕ) → bytes_from k ys ≡ bytes_from k xs
stable_bytes [] [] h len k = refl
stable_bytes [] (y ∷ ys) h len k = absurd (omega (arith, len))
stable_bytes (x ∷ xs) ys h len k = stable_in x.block.pool (x ∷ xs) ys h k

pub rises_sorted : (ps : List Packet) (k : ℕ) → IsNonDecreasingBy (λ (p : Packet). p.from) ps → (0 < length ps → (d : Packet) → k ≤ (get_or ps 0 d).from) → Rises k ps
rises_sorted [] k h low = tt
rises_sorted (p ∷ ps) k h low = (low (omega arith) p, rises_sorted ps p.from (λ i j d le lt. h (suc i) (suc j) d (omega arith) (omega arith)) (λ lt d. h 0 1 d (omega arith) (omega arith)))

pub own_sorted : (pool : PoolName) (xs ys : List Packet) → IsPermutation xs ys → AreOfPool pool (blocks_in xs) → AreOfPool pool (blocks_in ys)
own_sorted pool xs ys s own = All-permutation (λ (b : BlockValue). b.pool ≡ pool) (blocks_in xs) (blocks_in ys) (IsPermutation-map (λ (p : Packet). p.block) xs ys s) own
