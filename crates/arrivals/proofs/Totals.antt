-- Bytes of packets, sender by sender and all together.
use Rattle.std.proofs.Common.{◌≡◌, ◌≢◌, ℕ, zero, suc, ◌+◌, ◌<◌, ◌≤◌, Bool, cond, List, [], ◌∷◌, ◌++◌, length, refl, sym, ap, ◌∙◌, arith, length-append, eq-eqb, ne_eqb, lt_of_not-le}
use Rattle.std.specs.Prelude.{◌==◌}
use native.Mathlib.Decide.{dec_le}
use mathlib.Core.Logic.{dite}
use Rattle.row_defs.specs.Rows.{Row}
use Rattle.block_pool.specs.Handles.{PoolName}
use Rattle.dia_file.specs.Encoding.{spelled}
use Rattle.multiplexer.specs.declared.packet.Packet.{Packet}
use Rattle.mix_stream.specs.Packets.{bytes_from}
use Rattle.mix_stream.specs.Reading.{Reading, IsNext, bytes_of}
use Rattle.arrivals.specs.Boxes.{bytes_in, bytes_left}

abbrev sum_below : ℕ → (ℕ → ℕ) → ℕ
sum_below zero f = 0
sum_below (suc n) f = f n + sum_below n f

sum_same : (n : ℕ) (f g : ℕ → ℕ) → ((j : ℕ) → j < n → f j ≡ g j) → sum_below n f ≡ sum_below n g
sum_same zero f g same = refl
sum_same (suc n) f g same =
    let here : f n ≡ g n = same n (omega arith) in
    let rest = sum_same n f g (λ j less. same j (omega arith)) in
    omega (arith, here, rest)

-- one of the numbers is larger
sum_more : (n k x : ℕ) (f g : ℕ → ℕ) → k < n → f k ≡ x + g k → ((j : ℕ) → j ≢ k → f j ≡ g j) → sum_below n f ≡ x + sum_below n g
sum_more zero k x f g less here others = absurd (omega arith)
sum_more (suc n) k x f g less here others = dite (dec_le n k)
    (λ le.
    let at : k ≡ n = omega arith in
    let top : f n ≡ x + g n = ap f (sym at) ∙ here ∙ ap (λ i. x + g i) at in
    let rest = sum_same n f g (λ j below. others j (λ e. absurd (omega (arith, e, at, below)))) in
    omega (arith, top, rest))
    (λ nle.
    let below : k < n = lt_of_not-le nle in
    let top : f n ≡ g n = others n (λ e. absurd (omega (arith, e, below))) in
    let rest = sum_more n k x f g below here others in
    omega (arith, top, rest))

sum_none : (n : ℕ) → sum_below n (λ k. 0) ≡ 0
sum_none zero = refl
sum_none (suc n) = let rest = sum_none n in omega (arith, rest)

-- all senders have numbers below this one
abbrev Below : ℕ → List Packet → Type 0
Below n [] = Unit {0}
Below n (p ∷ ps) = (p.from < n) × Below n ps

abbrev bound : List Packet → ℕ
bound [] = 0
bound (p ∷ ps) = suc (p.from + bound ps)

below_more : (m n : ℕ) (ps : List Packet) → m ≤ n → Below m ps → Below n ps
below_more m n [] le h = tt
below_more m n (p ∷ ps) le h = (let b = h.0 in omega arith, below_more m n ps le h.1)

below_bound : (ps : List Packet) → Below (bound ps) ps
below_bound [] = tt
below_bound (p ∷ ps) = (omega arith, below_more (bound ps) (suc (p.from + bound ps)) ps (omega arith) (below_bound ps))

of_here : (from : ℕ) (xs ys : List ℕ) → length (cond (from == from) xs [] ++ ys) ≡ length xs + length ys
of_here from xs ys = ap (λ (b : Bool). length (cond b xs [] ++ ys)) (eq-eqb from from refl) ∙ length-append xs ys

of_else : (from k : ℕ) (xs ys : List ℕ) → from ≢ k → length (cond (from == k) xs [] ++ ys) ≡ length ys
of_else from k xs ys ne = ap (λ (b : Bool). length (cond b xs [] ++ ys)) (ne_eqb from k ne)

first_here : (p : Packet) (ps : List Packet) → length (bytes_from p.from (p ∷ ps)) ≡ length p.block.bytes + length (bytes_from p.from ps)
first_here p ps = ap (λ (b : Bool). length (cond b (p.block.bytes ++ bytes_from p.from ps) (bytes_from p.from ps))) (eq-eqb p.from p.from refl) ∙ length-append p.block.bytes (bytes_from p.from ps)

first_else : (k : ℕ) (p : Packet) (ps : List Packet) → p.from ≢ k → length (bytes_from k (p ∷ ps)) ≡ length (bytes_from k ps)
first_else k p ps ne = ap (λ (b : Bool). length (cond b (p.block.bytes ++ bytes_from k ps) (bytes_from k ps))) (ne_eqb p.from k ne)

total_in : (n : ℕ) (ps : List Packet) → Below n ps → sum_below n (λ k. length (bytes_from k ps)) ≡ bytes_in ps
total_in n [] below = sum_none n
total_in n (p ∷ ps) below =
    sum_more n p.from (length p.block.bytes) (λ k. length (bytes_from k (p ∷ ps))) (λ k. length (bytes_from k ps)) below.0 (first_here p ps) (λ j ne. first_else j p ps (λ e. ne (sym e)))
    ∙ ap (λ m. length p.block.bytes + m) (total_in n ps below.1)

total_left : (n : ℕ) (r : Reading) → r.from < n → Below n r.packets → sum_below n (λ k. length (bytes_of k r)) ≡ bytes_left r
total_left n r less below =
    sum_more n r.from (length r.left) (λ k. length (bytes_of k r)) (λ k. length (bytes_from k r.packets)) less (of_here r.from r.left (bytes_from r.from r.packets))
    (λ j ne. of_else r.from j r.left (bytes_from j r.packets) (λ e. ne (sym e)))
    ∙ ap (λ m. length r.left + m) (total_in n r.packets below)

-- a row that is read is as many bytes fewer
pub fewer_left : (pool : PoolName) (k : ℕ) (row : Row) (a b : Reading) → IsNext pool k row a b → bytes_left a ≡ length (spelled row) + bytes_left b
fewer_left pool k row a b next =
    let m = bound a.packets in
    let n = bound b.packets in
    let top = suc (k + a.from + b.from + m + n) in
    let one : sum_below top (λ j. length (bytes_of j a)) ≡ bytes_left a = total_left top a (omega arith) (below_more m top a.packets (omega arith) (below_bound a.packets)) in
    let two : sum_below top (λ j. length (bytes_of j b)) ≡ bytes_left b = total_left top b (omega arith) (below_more n top b.packets (omega arith) (below_bound b.packets)) in
    let here : length (bytes_of k a) ≡ length (spelled row) + length (bytes_of k b) = sym next.read.count ∙ length-append (spelled row) (bytes_of k b) in
    let both = sum_more top k (length (spelled row)) (λ j. length (bytes_of j a)) (λ j. length (bytes_of j b)) (omega arith) here (λ j ne. sym (next.others j ne).count) in
    sym one ∙ both ∙ ap (λ i. length (spelled row) + i) two
