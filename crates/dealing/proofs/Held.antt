-- What merged boxes hold.
use Rattle.std.proofs.Common.{◌≡◌, ℕ, ◌+◌, ◌-◌, ◌^◌, ◌<◌, ◌≤◌, List, [], ◌∷◌, ◌++◌, length, map, Some, zero, suc, refl, sym, ap, subst, ◌∙◌, arith, inl, inr, append-nil}
use Rattle.std.proofs.lemmas.List.{length-map, map-append}
use Rattle.std.specs.Prelude.{All, slice_get, slice_index_or}
use Rattle.std.specs.List.{AllZip}
use Rattle.std.proofs.lemmas.Bool.Decides.{leb_tells}
use Rattle.std.proofs.lemmas.List.Elements.{All-nil, All-head, All-tail, All-append}
use Rattle.row_defs.specs.declared.kind.Kind.{Kind}
use Rattle.row_defs.specs.Rows.{Row}
use Rattle.block_pool.specs.Handles.{PoolName, HandValue, BlockValue, AreOfPool, Follows}
use Rattle.dia_file.specs.Encoding.{encoded, AreOf}
use Rattle.multiplexer.specs.declared.packet.Packet.{Packet}
use Rattle.multiplexer.specs.declared.inbox.Inbox.{Inbox}
use Rattle.mix_stream.specs.Packets.{bytes_from, blocks_in}
use Rattle.exchange.specs.Deals.{rows_to}
use Rattle.scatter.specs.Carrying.{AreForHand}
use Rattle.scatter.specs.Phases.{AllThree}
use Rattle.dealt_shares.specs.Dealings.{Dealing}
use Rattle.arrivals.specs.Boxes.{Holds}
use Rattle.dealing.specs.Boxes.{IsMerged, HasCome}
use Rattle.dealing.proofs.Raised.{bytes-append}

pub index_past : (xs : List (List Row)) (k : ℕ) → length xs ≤ k → slice_index_or xs k [] ≡ []
index_past [] zero le = refl
index_past [] (suc k) le = refl
index_past (x ∷ xs) zero le = absurd (omega (arith, le))
index_past (x ∷ xs) (suc k) le = index_past xs k (omega (arith, le))

index_first : (xs ys : List (List Row)) (k : ℕ) → k < length xs → slice_index_or (xs ++ ys) k [] ≡ slice_index_or xs k []
index_first [] ys k lt = absurd (omega (arith, lt))
index_first (x ∷ xs) ys zero lt = refl
index_first (x ∷ xs) ys (suc k) lt = index_first xs ys k (omega (arith, lt))

index_later : (xs ys : List (List Row)) (k : ℕ) → slice_index_or (xs ++ ys) (length xs + k) [] ≡ slice_index_or ys k []
index_later [] ys k = ap (λ (n : ℕ). slice_index_or ys n []) (let e : 0 + k ≡ k = omega arith in e)
index_later (x ∷ xs) ys k =
    let e : suc (length xs) + k ≡ suc (length xs + k) = omega arith in
    ap (λ (n : ℕ). slice_index_or (x ∷ (xs ++ ys)) n []) e ∙ index_later xs ys k

-- a box that holds lists, merged with one that holds others, holds both
pub holds_both : (kinds : List Kind) (box more merged : Inbox) (xs ys : List (List Row)) (by : ℕ) → IsMerged by box more merged → length xs ≡ by → by + length ys ≤ 2 ^ 32
    → Holds kinds box.packets.items xs → Holds kinds more.packets.items ys → Holds kinds merged.packets.items (xs ++ ys)
holds_both kinds box more merged xs ys by m long few first later = record {
  are = All-append (AreOf kinds) xs ys first.are later.are;
  bytes = λ k. ap (bytes_from k) m.is ∙ bytes-append k box.packets.items m.raised ∙ at k;
}
  where
    at : (k : ℕ) → bytes_from k box.packets.items ++ bytes_from k m.raised ≡ encoded (slice_index_or (xs ++ ys) k [])
    at k = elim (leb_tells (k + 1) by) [
      | inl low ↦
          let lt : k < by = omega (arith, low.1) in
          ap (λ (l : List ℕ). bytes_from k box.packets.items ++ l) (m.are.low k lt) ∙ append-nil (bytes_from k box.packets.items) ∙ first.bytes k
          ∙ ap encoded (sym (index_first xs ys k (omega (arith, lt, long))))
      | inr high ↦
          let n = k - by in
          let is : by + n ≡ k = omega (arith, high.1) in
          let none : bytes_from k box.packets.items ≡ [] = first.bytes k ∙ ap encoded (index_past xs k (omega (arith, high.1, long))) in
          let same : length xs + n ≡ k = omega (arith, long, is) in
          let there : slice_index_or (xs ++ ys) k [] ≡ slice_index_or ys n [] = ap (λ (i : ℕ). slice_index_or (xs ++ ys) i []) (sym same) ∙ index_later xs ys n in
          ap (λ (l : List ℕ). l ++ bytes_from k m.raised) none ∙ raised n k is ∙ ap encoded (sym there)
    ]
      where
        raised : (n k : ℕ) → by + n ≡ k → bytes_from k m.raised ≡ encoded (slice_index_or ys n [])
        raised n k is = elim (leb_tells (k + 1) (2 ^ 32)) [
          | inl fits ↦ ap (λ (i : ℕ). bytes_from i m.raised) (sym is) ∙ m.are.here n (omega (arith, fits.1, is)) ∙ later.bytes n
          | inr past ↦ m.are.past k (omega (arith, past.1)) ∙ ap encoded (sym (index_past ys n (omega (arith, past.1, is, few))))
        ]

-- the boxes before, at the place of a merged one
boxes_before : (by : ℕ) (xs ys zs : List Inbox) (j : ℕ) (z : Inbox) → AllThree (IsMerged by) xs ys zs → slice_get zs j ≡ Some z
    → (x : Inbox) × (y : Inbox) × (slice_get xs j ≡ Some x) × (slice_get ys j ≡ Some y) × IsMerged by x y z
boxes_before by (x ∷ xs) (y ∷ ys) (w ∷ zs) zero z all at = let same : w ≡ z = cc in (x, y, refl, refl, subst (λ b. IsMerged by x y b) same all.0)
boxes_before by (x ∷ xs) (y ∷ ys) (w ∷ zs) (suc j) z all at = boxes_before by xs ys zs j z all.1 at
boxes_before by [] [] [] j z all at = cc
boxes_before by [] [] (z ∷ zs) j y all at = absurd all
boxes_before by [] (y ∷ ys) zs j z all at = absurd all
boxes_before by (x ∷ xs) [] zs j z all at = absurd all
boxes_before by (x ∷ xs) (y ∷ ys) [] j z all at = absurd all

-- what came, and behind it what came of more senders
pub come_both : (kinds : List Kind) (came more : List Dealing) (into boxes merged : List Inbox) (by : ℕ) → AllThree (IsMerged by) into boxes merged → length came ≡ by → by + length more ≤ 2 ^ 32
    → HasCome kinds came into → HasCome kinds more boxes → HasCome kinds (came ++ more) merged
come_both kinds came more into boxes merged by all long few first later = λ j z at.
    let to : Dealing → List Row = λ s. rows_to j s.rows s.to in
    let two = boxes_before by into boxes merged j z all at in
    let long_first = length-map came to in
    let long_later = length-map more to in
    subst (λ lists. Holds kinds z.packets.items lists) (sym (map-append to came more))
    (holds_both kinds two.0 two.1 z (map to came) (map to more) by two.4 (long_first ∙ long) (omega (arith, long_later, few)) (first j two.0 two.2) (later j two.1 two.3))

-- merged boxes are of the hands' pools
blocks_own : (pool : PoolName) (xs ys : List Packet) → AreOfPool pool (blocks_in xs) → AreOfPool pool (blocks_in ys) → AreOfPool pool (blocks_in (xs ++ ys))
blocks_own pool xs ys p q =
    let Own : BlockValue → Type 0 = λ b. b.pool ≡ pool in
    subst (λ (l : List BlockValue). All Own l) (sym (map-append (λ (p : Packet). p.block) xs ys)) (All-append Own (blocks_in xs) (blocks_in ys) p q)

pub merged_own : (by : ℕ) (before hands : List HandValue) (into boxes merged : List Inbox) → AllZip Follows before hands → AllZip AreForHand before into → AllZip AreForHand hands boxes → AllThree (IsMerged by) into boxes merged
    → AllZip AreForHand hands merged
merged_own by [] [] [] [] [] f p q all = tt
merged_own by (a ∷ before) (b ∷ hands) (x ∷ into) (y ∷ boxes) (z ∷ merged) f p q all =
    let m = all.0 in
    let first : AreOfPool b.pool (blocks_in x.packets.items) = subst (λ pool. AreOfPool pool (blocks_in x.packets.items)) (sym f.0.pool) p.0 in
    let both : AreOfPool b.pool (blocks_in (x.packets.items ++ m.raised)) = blocks_own b.pool x.packets.items m.raised first (m.are.pools b.pool q.0) in
    (subst (λ (l : List Packet). AreOfPool b.pool (blocks_in l)) (sym m.is) both, merged_own by before hands into boxes merged f.1 p.1 q.1 all.1)
merged_own by [] [] [] [] (z ∷ merged) f p q all = absurd all
merged_own by [] [] [] (y ∷ boxes) merged f p q all = absurd all
merged_own by [] [] (x ∷ into) boxes merged f p q all = absurd p
merged_own by [] (b ∷ hands) into boxes merged f p q all = absurd f
merged_own by (a ∷ before) [] into boxes merged f p q all = absurd f
merged_own by (a ∷ before) (b ∷ hands) [] boxes merged f p q all = absurd p
merged_own by (a ∷ before) (b ∷ hands) (x ∷ into) [] merged f p q all = absurd q
merged_own by (a ∷ before) (b ∷ hands) (x ∷ into) (y ∷ boxes) [] f p q all = absurd all

-- nothing came yet
at_place : (P : Inbox → Type 0) (xs : List Inbox) (j : ℕ) (x : Inbox) → All P xs → slice_get xs j ≡ Some x → P x
at_place P [] j x all at = cc
at_place P (y ∷ xs) zero x all at = let same : y ≡ x = cc in subst P same (All-head P y xs all)
at_place P (y ∷ xs) (suc j) x all at = at_place P xs j x (All-tail P y xs all) at

abbrev IsEmpty : Inbox → Type 0
IsEmpty x = x.packets.items ≡ []

pub none_come : (kinds : List Kind) (boxes : List Inbox) → All IsEmpty boxes → HasCome kinds [] boxes
none_come kinds boxes all = λ j x at.
    let none : IsEmpty x = at_place IsEmpty boxes j x all at in
    record {
      are = All-nil (AreOf kinds);
      bytes = λ k. ap (bytes_from k) none ∙ ap encoded (sym (index_past [] k (omega arith)));
    }

pub none_own : (hands : List HandValue) (boxes : List Inbox) → length boxes ≡ length hands → All IsEmpty boxes → AllZip AreForHand hands boxes
none_own [] [] long all = tt
none_own [] (x ∷ boxes) long all = absurd (omega (arith, long))
none_own (a ∷ hands) [] long all = absurd (omega (arith, long))
none_own (a ∷ hands) (x ∷ boxes) long all =
    let none : x.packets.items ≡ [] = All-head IsEmpty x boxes all in
    let Own : BlockValue → Type 0 = λ b. b.pool ≡ a.pool in
    (subst (λ (l : List Packet). All Own (blocks_in l)) (sym none) (All-nil Own), none_own hands boxes (omega (arith, long)) (All-tail IsEmpty x boxes all))
