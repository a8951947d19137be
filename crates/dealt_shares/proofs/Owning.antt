-- What a worker gets of rows that are dealt out by position is its share.
use Rattle.std.proofs.Common.{◌≡◌, ℕ, zero, suc, ◌+◌, ◌-◌, ◌<◌, ◌≤◌, ◌==◌, Bool, true, false, List, [], ◌∷◌, ◌++◌, length, take, drop, if◌then◌else◌, refl, sym, ap, ◌∙◌, subst, inl, inr, arith, length-append}
use Rattle.std.proofs.Math.Dec.{leb}
use Rattle.std.proofs.lemmas.Bool.Decides.{leb_tells, eqb_tells}
use Rattle.row_defs.specs.Rows.{Row}
use Rattle.collective.specs.Shares.{share_start, HasPlace, share_of}
use Rattle.collective.proofs.ShareLaws.{start_ordered, one_owner}
use Rattle.exchange.specs.Deals.{AreRouted, rows_to}
use Rattle.dealt_shares.specs.Dealings.{Dealing, dealt, coming_to, AreOwned}

-- the rows whose positions, from n on, lie from one on and before another
abbrev part : ℕ → ℕ → ℕ → List Row → List Row
part low high n [] = []
part low high n (row ∷ rows) = if leb low n then (if leb (n + 1) high then row ∷ part low high (n + 1) rows else part low high (n + 1) rows) else part low high (n + 1) rows

part-append : (low high n : ℕ) (xs ys : List Row) → part low high n (xs ++ ys) ≡ part low high n xs ++ part low high (n + length xs) ys
part-append low high n [] ys = let same : n ≡ n + 0 = omega arith in ap (λ (k : ℕ). part low high k ys) same
part-append low high n (x ∷ xs) ys =
    let rest : part low high (n + 1) (xs ++ ys) ≡ part low high (n + 1) xs ++ part low high (n + 1 + length xs) ys = part-append low high (n + 1) xs ys in
    let at : n + 1 + length xs ≡ n + suc (length xs) = omega arith in
    let all : part low high (n + 1) (xs ++ ys) ≡ part low high (n + 1) xs ++ part low high (n + suc (length xs)) ys = rest ∙ ap (λ (k : ℕ). part low high (n + 1) xs ++ part low high k ys) at in
    by (leb low n) (leb (n + 1) high) (part low high (n + 1) (xs ++ ys)) (part low high (n + 1) xs) (part low high (n + suc (length xs)) ys) all
  where
    by : (b c : Bool) (zs us vs : List Row) → zs ≡ us ++ vs → (if b then (if c then x ∷ zs else zs) else zs) ≡ (if b then (if c then x ∷ us else us) else us) ++ vs
    by true true zs us vs e = ap (λ (l : List Row). x ∷ l) e
    by true false zs us vs e = e
    by false c zs us vs e = e

none : (a b : ℕ) → let no : List Row = [] in no ≡ take a (drop b no)
none zero zero = refl
none zero (suc b) = refl
none (suc a) zero = refl
none (suc a) (suc b) = refl

-- they are what is cut out of the list
cut_out : (low high n : ℕ) (xs : List Row) → low ≤ high → part low high n xs ≡ take ((high - n) - (low - n)) (drop (low - n) xs)
cut_out low high n [] le = none ((high - n) - (low - n)) (low - n)
cut_out low high n (x ∷ xs) le =
    let rest : part low high (n + 1) xs ≡ take ((high - (n + 1)) - (low - (n + 1))) (drop (low - (n + 1)) xs) = cut_out low high (n + 1) xs le in
    elim (leb_tells low n) [
      | inl here ↦ elim (leb_tells (n + 1) high) [
        | inl within ↦
            let a : low - n ≡ 0 = omega (arith, here.1) in
            let b : (high - n) - 0 ≡ suc ((high - (n + 1)) - (low - (n + 1))) = omega (arith, here.1, within.1) in
            let c : low - (n + 1) ≡ 0 = omega (arith, here.1) in
            rw here.0 (rw within.0 (rw a (rw b (ap (λ (l : List Row). x ∷ l) (rest ∙ ap (λ (k : ℕ). take ((high - (n + 1)) - (low - (n + 1))) (drop k xs)) c)))))
        | inr past ↦
            let b : (high - n) - (low - n) ≡ 0 = omega (arith, past.1) in
            let c : (high - (n + 1)) - (low - (n + 1)) ≡ 0 = omega (arith, past.1) in
            rw here.0 (rw past.0 (rw b (rest ∙ ap (λ (k : ℕ). take k (drop (low - (n + 1)) xs)) c)))
      ]
      | inr before ↦
          let a : low - n ≡ suc (low - (n + 1)) = omega (arith, before.1) in
          let b : (high - n) - suc (low - (n + 1)) ≡ (high - (n + 1)) - (low - (n + 1)) = omega (arith, before.1) in
          rw before.0 (rw a (rw b rest))
    ]

module _ (total workers rank : ℕ) (some : 0 < workers) where
  abbrev low : ℕ
  low = share_start total workers rank

  abbrev high : ℕ
  high = share_start total workers (rank + 1)

  -- the rows that are routed to a rank are those whose positions it owns
  routed : (start n : ℕ) (rows : List Row) (to : List ℕ) → AreRouted (λ row k worker. HasPlace total workers worker (start + k)) n rows to
      → rows_to rank rows to ≡ part low high (start + n) rows
  routed start n [] to h = refl
  routed start n (row ∷ rows) to h =
      let at : start + (n + 1) ≡ start + n + 1 = omega arith in
      let rest : rows_to rank rows h.1 ≡ part low high (start + n + 1) rows = routed start (n + 1) rows h.1 h.3 ∙ ap (λ (k : ℕ). part low high k rows) at in
      let first : (if h.0 == rank then row ∷ rows_to rank rows h.1 else rows_to rank rows h.1) ≡ part low high (start + n) (row ∷ rows) = elim (eqb_tells h.0 rank) [
        | inl same ↦
            let P : ℕ → Type 0 = λ w. HasPlace total workers w (start + n) in
            let has : HasPlace total workers rank (start + n) = subst P same.1 h.2 in
            rw same.0 (kept (start + n) row rows (rows_to rank rows h.1) has rest)
        | inr other ↦ rw other.0 (left (start + n) row rows (rows_to rank rows h.1) (λ has. other.1 (one_owner total workers (start + n) h.0 rank some h.2 has)) rest)
      ] in
      ap (λ (ds : List ℕ). rows_to rank (row ∷ rows) ds) h.4 ∙ first
    where
      kept : (p : ℕ) (row : Row) (rows got : List Row) → HasPlace total workers rank p → got ≡ part low high (p + 1) rows → row ∷ got ≡ part low high p (row ∷ rows)
      kept p row rows got has rest = elim (leb_tells low p) [
        | inl here ↦ elim (leb_tells (p + 1) high) [
          | inl within ↦ rw here.0 (rw within.0 (ap (λ (l : List Row). row ∷ l) rest))
          | inr past ↦ absurd (omega (arith, past.1, has.1))
        ]
        | inr before ↦ absurd (omega (arith, before.1, has.0))
      ]

      left : (p : ℕ) (row : Row) (rows got : List Row) → (HasPlace total workers rank p → ⊥) → got ≡ part low high (p + 1) rows → got ≡ part low high p (row ∷ rows)
      left p row rows got hasn't rest = elim (leb_tells low p) [
        | inl here ↦ elim (leb_tells (p + 1) high) [
          | inl within ↦ absurd (hasn't (here.1, omega (arith, within.1)))
          | inr past ↦ rw here.0 (rw past.0 rest)
        ]
        | inr before ↦ rw before.0 rest
      ]

  -- what comes of all senders
  coming : (start : ℕ) (senders : List Dealing) → AreOwned total workers start senders → coming_to rank senders ≡ part low high start (dealt senders)
  coming start [] h = refl
  coming start (s ∷ senders) h =
      let at : start + 0 ≡ start = omega arith in
      let here : rows_to rank s.rows s.to ≡ part low high start s.rows = routed start 0 s.rows s.to h.0 ∙ ap (λ (k : ℕ). part low high k s.rows) at in
      let rest : coming_to rank senders ≡ part low high (start + length s.rows) (dealt senders) = coming (start + length s.rows) senders h.1 in
      ap (λ (l : List Row). l ++ coming_to rank senders) here ∙ ap (λ (l : List Row). part low high start s.rows ++ l) rest
      ∙ sym (part-append low high start s.rows (dealt senders))

pub shares_come : (workers worker : ℕ) (senders : List Dealing) → worker < workers → AreOwned (length (dealt senders)) workers 0 senders → coming_to worker senders ≡ share_of (dealt senders) workers worker
shares_come workers worker senders within owned =
    let total = length (dealt senders) in
    let some : 0 < workers = omega (arith, within) in
    let ordered : share_start total workers worker ≤ share_start total workers (worker + 1) = start_ordered total workers worker (worker + 1) some (omega arith) in
    let from = share_start total workers worker in
    let up_to = share_start total workers (worker + 1) in
    let first : from - 0 ≡ from = omega arith in
    let count : (up_to - 0) - (from - 0) ≡ up_to - from = omega arith in
    coming total workers worker some 0 senders owned ∙ cut_out from up_to 0 (dealt senders) ordered
    ∙ ap (λ (k : ℕ). take k (drop (from - 0) (dealt senders))) count ∙ ap (λ (k : ℕ). take (up_to - from) (drop k (dealt senders))) first

-- senders of one list, and behind them those of another whose positions go on
pub owned-append : (total workers start : ℕ) (xs ys : List Dealing) → AreOwned total workers start xs → AreOwned total workers (start + length (dealt xs)) ys → AreOwned total workers start (xs ++ ys)
owned-append total workers start [] ys p q =
    let same : start + 0 ≡ start = omega arith in let P : ℕ → Type 0 = λ k. AreOwned total workers k ys in subst P same q
owned-append total workers start (x ∷ xs) ys p q =
    let long : length (dealt (x ∷ xs)) ≡ length x.rows + length (dealt xs) = length-append x.rows (dealt xs) in
    let same : start + length (dealt (x ∷ xs)) ≡ start + length x.rows + length (dealt xs) = omega (arith, long) in
    let P : ℕ → Type 0 = λ k. AreOwned total workers k ys in
    (p.0, owned-append total workers (start + length x.rows) xs ys p.1 (subst P same q))
