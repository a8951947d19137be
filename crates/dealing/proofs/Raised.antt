-- Packets of senders whose ranks are raised.
use Rattle.std.proofs.Common.{◌≡◌, ℕ, ◌+◌, ◌^◌, ◌<◌, ◌≤◌, ◌==◌, Bool, true, false, cond, List, [], ◌∷◌, ◌++◌, refl, sym, ap, ◌∙◌, arith, inl, inr, append_assoc, append-nil}
use Rattle.std.proofs.lemmas.Bool.Decides.{eqb_tells}
use Rattle.std.proofs.lemmas.List.Elements.{All-nil, All-cons, All-head, All-tail}
use Rattle.block_pool.specs.Handles.{PoolName, BlockValue, AreOfPool}
use Rattle.multiplexer.specs.declared.packet.Packet.{Packet}
use Rattle.mix_stream.specs.Packets.{bytes_from, blocks_in}
use Rattle.dealing.specs.Boxes.{IsRaised}

bytes_choose : (b : Bool) (w zs us vs : List ℕ) → zs ≡ us ++ vs → cond b (w ++ zs) zs ≡ cond b (w ++ us) us ++ vs
bytes_choose true w zs us vs e = ap (λ (l : List ℕ). w ++ l) e ∙ sym (append_assoc w us vs)
bytes_choose false w zs us vs e = e

pub bytes-append : (k : ℕ) (xs ys : List Packet) → bytes_from k (xs ++ ys) ≡ bytes_from k xs ++ bytes_from k ys
bytes-append k [] ys = refl
bytes-append k (p ∷ xs) ys = bytes_choose (p.from == k) p.block.bytes (bytes_from k (xs ++ ys)) (bytes_from k xs) (bytes_from k ys) (bytes-append k xs ys)

-- one packet has bytes of its sender alone
other : (k : ℕ) (p : Packet) → (p.from ≡ k → ⊥) → bytes_from k (p ∷ []) ≡ []
other k p isnt = elim (eqb_tells p.from k) [
  | inl same ↦ absurd (isnt same.1)
  | inr not ↦ ap (λ (b : Bool). cond b (p.block.bytes ++ []) []) not.0
]

own : (k : ℕ) (p : Packet) → p.from ≡ k → bytes_from k (p ∷ []) ≡ p.block.bytes
own k p is = elim (eqb_tells p.from k) [
  | inl same ↦ ap (λ (b : Bool). cond b (p.block.bytes ++ []) []) same.0 ∙ append-nil p.block.bytes
  | inr not ↦ absurd (not.1 is)
]

-- none is raised yet
pub raised_none : (by : ℕ) → IsRaised by [] []
raised_none by = record { low = λ k lt. refl; here = λ k lt. refl; past = λ k le. refl; pools = λ pool all. all }

module _ (by : ℕ) (ps rs : List Packet) (p : Packet) (so : IsRaised by ps rs) where
  abbrev before : PoolName → BlockValue → Type 0
  before pool b = b.pool ≡ pool

  first_own : (pool : PoolName) → AreOfPool pool (blocks_in (ps ++ p ∷ [])) → AreOfPool pool (blocks_in ps) × (p.block.pool ≡ pool)
  first_own pool all = parts ps all
    where
      parts : (xs : List Packet) → AreOfPool pool (blocks_in (xs ++ p ∷ [])) → AreOfPool pool (blocks_in xs) × (p.block.pool ≡ pool)
      parts [] all = (All-nil (before pool), All-head (before pool) p.block [] all)
      parts (x ∷ xs) all =
          let rest = parts xs (All-tail (before pool) x.block (blocks_in (xs ++ p ∷ [])) all) in
          (All-cons (before pool) x.block (blocks_in xs) (All-head (before pool) x.block (blocks_in (xs ++ p ∷ [])) all) rest.0, rest.1)

  last_own : (q : Packet) (pool : PoolName) (xs : List Packet) → AreOfPool pool (blocks_in xs) → q.block.pool ≡ pool → AreOfPool pool (blocks_in (xs ++ q ∷ []))
  last_own q pool [] all is = All-cons (before pool) q.block [] is (All-nil (before pool))
  last_own q pool (x ∷ xs) all is =
      All-cons (before pool) x.block (blocks_in (xs ++ q ∷ [])) (All-head (before pool) x.block (blocks_in xs) all)
      (last_own q pool xs (All-tail (before pool) x.block (blocks_in xs) all) is)

  -- one more is raised
  pub raised_more : (q : Packet) → q.from ≡ p.from + by → q.from < 2 ^ 32 → q.block ≡ p.block → IsRaised by (ps ++ p ∷ []) (rs ++ q ∷ [])
  raised_more q is few block = record {
    low = λ k lt. bytes-append k rs (q ∷ []) ∙ ap (λ (l : List ℕ). l ++ bytes_from k (q ∷ [])) (so.low k lt) ∙ other k q (λ same. absurd (omega (arith, same, is, lt)));
    here = λ k lt.
        bytes-append (by + k) rs (q ∷ []) ∙ ap (λ (l : List ℕ). l ++ bytes_from (by + k) (q ∷ [])) (so.here k lt)
        ∙ ap (λ (l : List ℕ). bytes_from k ps ++ l) (one k) ∙ sym (bytes-append k ps (p ∷ []));
    past = λ k le. bytes-append k rs (q ∷ []) ∙ ap (λ (l : List ℕ). l ++ bytes_from k (q ∷ [])) (so.past k le) ∙ other k q (λ same. absurd (omega (arith, same, few, le)));
    pools = λ pool all. let two = first_own pool all in last_own q pool rs (so.pools pool two.0) (ap (λ (b : BlockValue). b.pool) block ∙ two.1);
  }
    where
      one : (k : ℕ) → bytes_from (by + k) (q ∷ []) ≡ bytes_from k (p ∷ [])
      one k = elim (eqb_tells p.from k) [
        | inl same ↦ own (by + k) q (omega (arith, is, same.1)) ∙ ap (λ (b : BlockValue). b.bytes) block ∙ sym (own k p same.1)
        | inr not ↦ other (by + k) q (λ eq. not.1 (omega (arith, is, eq))) ∙ sym (other k p not.1)
      ]

  -- one more is left out
  pub raised_less : 2 ^ 32 ≤ p.from + by → IsRaised by (ps ++ p ∷ []) rs
  raised_less many = record {
    low = so.low;
    here = λ k lt. so.here k lt ∙ sym (append-nil (bytes_from k ps)) ∙ ap (λ (l : List ℕ). bytes_from k ps ++ l) (sym (other k p (λ same. absurd (omega (arith, same, many, lt))))) ∙ sym (bytes-append k ps (p ∷ []));
    past = so.past;
    pools = λ pool all. so.pools pool (first_own pool all).0;
  }
