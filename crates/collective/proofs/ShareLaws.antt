-- Shares meet without a gap, each position has one owner, and the shares of a list, joined, are the list.
use Rattle.std.proofs.Common.{◌≡◌, ℕ, zero, suc, ◌+◌, ◌-◌, ◌*◌, ◌/◌, ◌<◌, ◌≤◌, List, [], ◌∷◌, ◌++◌, length, take, drop, refl, sym, ap, ◌∙◌, subst, inl, inr, arith, append-nil}
use Rattle.std.proofs.Math.Nat.{div-mul-le_self, mul-div_left, mul-le-mul_left, zero-div}
use Rattle.std.proofs.Math.Seq.{take-add}
use Rattle.std.proofs.lemmas.Bool.Decides.{leb_tells}
use Rattle.std.proofs.lemmas.Bool.{cases_order}
use Rattle.std.proofs.lemmas.List.{take_all}
use Rattle.std.proofs.lemmas.List.Concat.{flat_map-append}
use Rattle.std.proofs.lemmas.Nat.{le-div}
use Rattle.std.specs.List.{flat_map}
use Rattle.collective.specs.Shares.{share_start, HasPlace, share_of, shares_of}
use Rattle.collective.specs.Laws.{AreWithoutGap, IsOwner}

-- The end of a share is the start of the next one by definition; the first starts at 0, the last ends at the total, and none ends before it starts.
pub start_first : (total workers : ℕ) → share_start total workers 0 ≡ 0
start_first total workers = let none : total * 0 ≡ 0 = omega arith in rw none (zero-div workers)

pub start_last : (total workers : ℕ) → 0 < workers → share_start total workers workers ≡ total
start_last total workers some = mul-div_left total some

pub start_ordered : (total workers a b : ℕ) → 0 < workers → a ≤ b → share_start total workers a ≤ share_start total workers b
start_ordered total workers a b some le =
    let low : total * a / workers * workers ≤ total * a = div-mul-le_self (total * a) workers in
    let up : total * a ≤ total * b = mul-le-mul_left total le in
    le-div (total * a / workers) (total * b) workers some (omega (arith, low, up))

pub start_within : (total workers rank : ℕ) → 0 < workers → rank ≤ workers → share_start total workers rank ≤ total
start_within total workers rank some le =
    let ordered : share_start total workers rank ≤ share_start total workers workers = start_ordered total workers rank workers some le in
    let last : share_start total workers workers ≡ total = start_last total workers some in
    omega (arith, ordered, last)

pub without_gap : (total workers : ℕ) → 0 < workers → AreWithoutGap total workers
without_gap total workers some = record {
  first = start_first total workers;
  ordered = λ rank within. start_ordered total workers rank (rank + 1) some (omega arith);
  last = start_last total workers some;
}

-- each position has an owner ..
owner_below : (total workers place n : ℕ) → place < share_start total workers n → (rank : ℕ) × (rank < n) × HasPlace total workers rank place
owner_below total workers place zero less = let none : share_start total workers 0 ≡ 0 = start_first total workers in absurd (omega (arith, less, none))
owner_below total workers place (suc n) less =
    let P : ℕ → Type 0 = λ rank. place < share_start total workers rank in
    let next : suc n ≡ n + 1 = omega arith in
    elim (leb_tells (share_start total workers n) place) [
      | inl here ↦ (n, omega arith, (here.1, subst P next less))
      | inr before ↦
          let low = owner_below total workers place n before.1 in
          let within : low.0 < n = low.1 in
          (low.0, omega (arith, within), low.2)
    ]

pub has_owner : (total workers place : ℕ) → 0 < workers → place < total → (rank : ℕ) × (rank < workers) × HasPlace total workers rank place
has_owner total workers place some less =
    let last : share_start total workers workers ≡ total = start_last total workers some in
    owner_below total workers place workers (omega (arith, less, last))

-- .. and no other
pub one_owner : (total workers place a b : ℕ) → 0 < workers → HasPlace total workers a place → HasPlace total workers b place → a ≡ b
one_owner total workers place a b some p q =
    elim (cases_order a b) [
      | inl same ↦ same
      | inr other ↦ elim other [
        | inl less ↦
            let up : share_start total workers (a + 1) ≤ share_start total workers b = start_ordered total workers (a + 1) b some (omega (arith, less)) in
            absurd (omega (arith, up, p.1, q.0))
        | inr more ↦
            let up : share_start total workers (b + 1) ≤ share_start total workers a = start_ordered total workers (b + 1) a some (omega (arith, more)) in
            absurd (omega (arith, up, q.1, p.0))
      ]
    ]

pub its_owner : (total workers place : ℕ) → 0 < workers → place < total → (rank : ℕ) × IsOwner total workers place rank
its_owner total workers place some less =
    let found = has_owner total workers place some less in (
      found.0,
      record {
        within = found.1;
        has = found.2;
        alone = λ other has. one_owner total workers place other found.0 some has found.2;
      },
    )

module _ {A : Type 0} (xs : List A) (workers : ℕ) (some : 0 < workers) where
  shares_joined_up_to : (n : ℕ) → flat_map (λ share. share) (shares_of xs workers n) ≡ take (share_start (length xs) workers n) xs
  shares_joined_up_to zero = rw (start_first (length xs) workers) refl
  shares_joined_up_to (suc n) =
      let a = share_start (length xs) workers n in
      let b = share_start (length xs) workers (n + 1) in
      let next : n + 1 ≡ suc n = omega arith in
      let ordered : a ≤ b = start_ordered (length xs) workers n (n + 1) some (omega arith) in
      let sum : a + (b - a) ≡ b = omega (arith, ordered) in
      let cut : take (a + (b - a)) xs ≡ take a xs ++ take (b - a) (drop a xs) = take-add a (b - a) xs in
      let both : flat_map (λ share. share) (shares_of xs workers (suc n)) ≡ flat_map (λ share. share) (shares_of xs workers n) ++ (take (b - a) (drop a xs) ++ []) =
      flat_map-append (λ share. share) (shares_of xs workers n) (share_of xs workers n ∷ []) in
      both ∙ ap (λ r. flat_map (λ share. share) (shares_of xs workers n) ++ r) (append-nil (take (b - a) (drop a xs)))
      ∙ ap (λ l. l ++ take (b - a) (drop a xs)) (shares_joined_up_to n) ∙ sym cut ∙ ap (λ k. take k xs) sum ∙ ap (λ rank. take (share_start (length xs) workers rank) xs) next

  -- the shares of all ranks, joined
  pub shares_joined : flat_map (λ share. share) (shares_of xs workers workers) ≡ xs
  shares_joined = shares_joined_up_to workers ∙ ap (λ k. take k xs) (start_last (length xs) workers some) ∙ take_all (length xs) xs (omega arith)
