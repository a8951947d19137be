-- A packet is taken out of the others and put first.
use Rattle.std.proofs.Common.{◌≡◌, ◌≢◌, ℕ, zero, suc, ◌+◌, ◌<◌, Bool, true, false, cond, List, [], ◌∷◌, ◌++◌, length, take, get_or, refl, sym, ap, ◌∙◌, subst, append-nil, append_assoc, eq-eqb, ne_eqb, lt_of_not-le, arith}
use native.Mathlib.Decide.{dec_le}
use mathlib.Core.Logic.{dite}
use Rattle.std.specs.Prelude.{◌==◌}
use Rattle.std.specs.List.{remove}
use Rattle.std.proofs.lemmas.List.Elements.{All-cons, All-head, All-tail}
use Rattle.block_pool.specs.Handles.{BlockValue, PoolName, AreOfPool}
use Rattle.multiplexer.specs.declared.packet.Packet.{Packet}
use Rattle.mix_stream.specs.Packets.{bytes_from, blocks_in, IsBrought, Rises}
use Rattle.mix_stream.proofs.Rising.{rises_remove}

of_here : (k : ℕ) (p : Packet) (ps : List Packet) → p.from ≡ k → bytes_from k (p ∷ ps) ≡ p.block.bytes ++ bytes_from k ps
of_here k p ps e = ap (λ (b : Bool). cond b (p.block.bytes ++ bytes_from k ps) (bytes_from k ps)) (eq-eqb p.from k e)

pub of_else : (k : ℕ) (p : Packet) (ps : List Packet) → p.from ≢ k → bytes_from k (p ∷ ps) ≡ bytes_from k ps
of_else k p ps n = ap (λ (b : Bool). cond b (p.block.bytes ++ bytes_from k ps) (bytes_from k ps)) (ne_eqb p.from k n)

pub of_cons : (k : ℕ) (q : Packet) (ps : List Packet) → bytes_from k (q ∷ ps) ≡ bytes_from k (q ∷ []) ++ bytes_from k ps
of_cons k q ps = elim (q.from == k) as (λ (b : Bool). cond b (q.block.bytes ++ bytes_from k ps) (bytes_from k ps) ≡ cond b (q.block.bytes ++ []) [] ++ bytes_from k ps) [
  | true ↦ ap (λ (l : List ℕ). l ++ bytes_from k ps) (sym (append-nil q.block.bytes))
  | false ↦ refl
]

eq_or : (a b : ℕ) (P : Type 0) → (a ≡ b → P) → (a ≢ b → P) → P
eq_or a b P same other = dite (dec_le a b)
    (λ le. dite (dec_le b a) (λ ge. let e : a ≡ b = omega arith in same e) (λ nle. let lt : a < b = lt_of_not-le nle in other (λ e. omega arith)))
    (λ nle. let lt : b < a = lt_of_not-le nle in other (λ e. omega arith))

nil_left : (xs ys : List ℕ) → xs ++ ys ≡ [] → xs ≡ []
nil_left [] ys e = refl
nil_left (x ∷ xs) ys e = cc

nil_right : (xs ys : List ℕ) → xs ++ ys ≡ [] → ys ≡ []
nil_right [] ys e = e
nil_right (x ∷ xs) ys e = cc

of_none : (k : ℕ) (q : Packet) (ps : List Packet) → bytes_from k (q ∷ []) ≡ [] → bytes_from k (q ∷ ps) ≡ bytes_from k ps
of_none k q ps none = of_cons k q ps ∙ ap (λ (l : List ℕ). l ++ bytes_from k ps) none

pub none_more : (ps : List Packet) (at k : ℕ) (p : Packet) → at < length ps → p ≡ get_or ps at p → p.from ≢ k → bytes_from k (take at ps) ≡ [] → bytes_from k (take (at + 1) ps) ≡ []
none_more [] at k p lt is n h = absurd (omega arith)
none_more (q ∷ ps) zero k p lt is n h = of_else k q [] (λ e. n (ap (λ (x : Packet). x.from) is ∙ e))
none_more (q ∷ ps) (suc at) k p lt is n h =
    let m : suc at + 1 ≡ suc (at + 1) = omega arith in
    let both : bytes_from k (q ∷ []) ++ bytes_from k (take at ps) ≡ [] = sym (of_cons k q (take at ps)) ∙ h in
    ap (λ (j : ℕ). bytes_from k (take j (q ∷ ps))) m ∙ of_none k q (take (at + 1) ps) (nil_left _ _ both) ∙ none_more ps at k p (omega arith) is n (nil_right _ _ both)

-- each sender's bytes stay where a packet is put before those that stood before it, none of which is of its sender
same_bytes : (ps : List Packet) (at j : ℕ) (p : Packet) → at < length ps → p ≡ get_or ps at p → bytes_from p.from (take at ps) ≡ [] → bytes_from j (p ∷ remove ps at) ≡ bytes_from j ps
same_bytes [] at j p lt is none = absurd (omega arith)
same_bytes (q ∷ ps) zero j p lt is none = ap (λ (x : Packet). bytes_from j (x ∷ ps)) is
same_bytes (q ∷ ps) (suc at) j p lt is none =
    let both : bytes_from p.from (q ∷ []) ++ bytes_from p.from (take at ps) ≡ [] = sym (of_cons p.from q (take at ps)) ∙ none in
    let rest : bytes_from j (p ∷ []) ++ bytes_from j (remove ps at) ≡ bytes_from j ps = sym (of_cons j p (remove ps at)) ∙ same_bytes ps at j p (omega arith) is (nil_right _ _ both) in
    of_cons j p (q ∷ remove ps at) ∙ ap (λ (l : List ℕ). bytes_from j (p ∷ []) ++ l) (of_cons j q (remove ps at))
    ∙ sym (append_assoc (bytes_from j (p ∷ [])) (bytes_from j (q ∷ [])) (bytes_from j (remove ps at)))
    ∙ ap (λ (l : List ℕ). l ++ bytes_from j (remove ps at)) (apart j p q (nil_left _ _ both))
    ∙ append_assoc (bytes_from j (q ∷ [])) (bytes_from j (p ∷ [])) (bytes_from j (remove ps at))
    ∙ ap (λ (l : List ℕ). bytes_from j (q ∷ []) ++ l) rest ∙ sym (of_cons j q ps)
  where
    -- of two packets one is of another sender, or has no bytes
    apart : (j : ℕ) (p q : Packet) → bytes_from p.from (q ∷ []) ≡ [] → bytes_from j (p ∷ []) ++ bytes_from j (q ∷ []) ≡ bytes_from j (q ∷ []) ++ bytes_from j (p ∷ [])
    apart j p q none = eq_or p.from j _
        (λ e. let no_q : bytes_from j (q ∷ []) ≡ [] = ap (λ (k : ℕ). bytes_from k (q ∷ [])) (sym e) ∙ none in (λ i. bytes_from j (p ∷ []) ++ no_q i) ∙ append-nil (bytes_from j (p ∷ [])) ∙ (λ i. sym no_q i ++ bytes_from j (p ∷ [])))
        (λ ne. let no_p : bytes_from j (p ∷ []) ≡ [] = of_else j p [] ne in (λ i. no_p i ++ bytes_from j (q ∷ [])) ∙ sym (append-nil (bytes_from j (q ∷ []))) ∙ (λ i. bytes_from j (q ∷ []) ++ sym no_p i))

length_removed : (ps : List Packet) (at : ℕ) → at < length ps → suc (length (remove ps at)) ≡ length ps
length_removed [] at lt = absurd (omega arith)
length_removed (q ∷ ps) zero lt = refl
length_removed (q ∷ ps) (suc at) lt = ap suc (length_removed ps at (omega arith))

module _ (pool : PoolName) where
  own_removed : (ps : List Packet) (at : ℕ) → AreOfPool pool (blocks_in ps) → AreOfPool pool (blocks_in (remove ps at))
  own_removed [] zero h = h
  own_removed [] (suc at) h = h
  own_removed (q ∷ ps) zero h = All-tail (λ (b : BlockValue). b.pool ≡ pool) q.block (blocks_in ps) h
  own_removed (q ∷ ps) (suc at) h = All-cons (λ (b : BlockValue). b.pool ≡ pool) q.block (blocks_in (remove ps at)) (All-head (λ (b : BlockValue). b.pool ≡ pool) q.block (blocks_in ps) h) (own_removed ps at (All-tail (λ (b : BlockValue). b.pool ≡ pool) q.block (blocks_in ps) h))

  own_at : (ps : List Packet) (at : ℕ) (p : Packet) → at < length ps → p ≡ get_or ps at p → AreOfPool pool (blocks_in ps) → p.block.pool ≡ pool
  own_at [] at p lt is h = absurd (omega arith)
  own_at (q ∷ ps) zero p lt is h = ap (λ (x : Packet). x.block.pool) is ∙ All-head (λ (b : BlockValue). b.pool ≡ pool) q.block (blocks_in ps) h
  own_at (q ∷ ps) (suc at) p lt is h = own_at ps at p (omega arith) is (All-tail (λ (b : BlockValue). b.pool ≡ pool) q.block (blocks_in ps) h)

pub brought : (ps : List Packet) (at from : ℕ) (p : Packet) → at < length ps → p ≡ get_or ps at p → p.from ≡ from → bytes_from from (take at ps) ≡ [] → IsBrought from ps (p ∷ remove ps at)
brought ps at from p lt is own none =
    let here : bytes_from p.from (take at ps) ≡ [] = ap (λ (k : ℕ). bytes_from k (take at ps)) own ∙ none in
    record {
      first = p;
      others = remove ps at;
      after_is = refl;
      own = own;
      same = λ j. same_bytes ps at j p lt is here;
      count = length_removed ps at lt;
      pools = λ pool h. All-cons (λ (b : BlockValue). b.pool ≡ pool) p.block (blocks_in (remove ps at)) (own_at pool ps at p lt is h) (own_removed pool ps at h);
      rises = λ h. (omega (arith, own), subst (λ (k : ℕ). Rises k (remove ps at)) (sym own) (rises_remove ps at from h));
    }
