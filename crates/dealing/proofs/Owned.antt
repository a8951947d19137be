-- Rows that are routed to the owners of their positions.
use Rattle.std.proofs.Common.{◌≡◌, ℕ, ◌+◌, ◌≤◌, ◌==◌, Bool, true, false, if◌then◌else◌, List, [], ◌∷◌, ◌++◌, length, map, sum, Some, zero, suc, refl, sym, ap, subst, ◌∙◌, arith, length-append}
use Rattle.std.specs.Prelude.{All, slice_get, slice_index_or}
use Rattle.std.specs.List.{flat_map}
use Rattle.std.proofs.lemmas.List.Elements.{All-nil, All-cons}
use Rattle.std.proofs.lemmas.List.Sums.{sum_by-cons}
use Rattle.row_defs.specs.declared.kind.Kind.{Kind}
use Rattle.row_defs.specs.Rows.{Row}
use Rattle.dia_file.specs.Encoding.{encoded, AreOf}
use Rattle.collective.specs.Shares.{HasPlace}
use Rattle.multiplexer.specs.declared.inbox.Inbox.{Inbox}
use Rattle.mix_stream.specs.Packets.{bytes_from}
use Rattle.exchange.specs.Deals.{AreRouted, rows_to}
use Rattle.exchange.specs.Serving.{Answered, answers_of}
use Rattle.scatter.specs.Phases.{AllThree}
use Rattle.link.specs.Linking.{HasDealt}
use Rattle.dealt_shares.specs.Dealings.{Dealing, dealt, AreOwned}
use Rattle.dealing.specs.Boxes.{HasCome}
use Rattle.dealing.specs.Routes.{IsRoute, AreRoutes}

-- senders by their rows and where these went
abbrev pub senders_of : List (List Row) → List (List ℕ) → List Dealing
senders_of [] to = []
senders_of (rs ∷ rows) [] = []
senders_of (rs ∷ rows) (ts ∷ to) = let s : Dealing = record { rows = rs; to = ts } in s ∷ senders_of rows to

module _ {F : Type 0} (post : Answered F) (kinds : List Kind) where
  pub senders_count : (routes : List F) (rows : List (List Row)) (to : List (List ℕ)) → AllThree (HasDealt post kinds) routes rows to → length (senders_of rows to) ≡ length rows
  senders_count [] [] [] all = refl
  senders_count (f ∷ routes) (rs ∷ rows) (ts ∷ to) all = ap suc (senders_count routes rows to all.1)
  senders_count _ _ _ all = absurd all

  pub senders_rows : (routes : List F) (rows : List (List Row)) (to : List (List ℕ)) → AllThree (HasDealt post kinds) routes rows to → dealt (senders_of rows to) ≡ flat_map (λ (rs : List Row). rs) rows
  senders_rows [] [] [] all = refl
  senders_rows (f ∷ routes) (rs ∷ rows) (ts ∷ to) all = ap (λ (l : List Row). rs ++ l) (senders_rows routes rows to all.1)
  senders_rows _ _ _ all = absurd all

  module _ (total workers : ℕ) where
    routed_at : (from : ℕ) (f : F) → IsRoute post total workers from f → (n : ℕ) (rows : List Row) (to : List ℕ) → from + (n + length rows) ≤ total → AreRouted (answers_of post f) n rows to
        → AreRouted (λ row k worker. HasPlace total workers worker (from + k)) n rows to
    routed_at from f is n [] to fits h = h
    routed_at from f is n (row ∷ rows) to fits h =
        (h.0, h.1, is h.2.0 n h.0 h.2.2 (omega (arith, fits)), routed_at from f is (n + 1) rows h.1 (omega (arith, fits)) h.3, h.4)

    pub owned : (from : ℕ) (counts : List ℕ) (routes : List F) (rows : List (List Row)) (to : List (List ℕ)) → AllThree (HasDealt post kinds) routes rows to → AreRoutes post total workers from counts routes
        → counts ≡ map (λ (rs : List Row). length rs) rows → from + sum counts ≤ total → AreOwned total workers from (senders_of rows to)
    owned from [] [] [] [] all are is fits = tt
    owned from (c ∷ counts) (f ∷ routes) (rs ∷ rows) (ts ∷ to) all are is fits =
        let here : c ≡ length rs = cc in
        let rest : counts ≡ map (λ (rs : List Row). length rs) rows = cc in
        let more : sum (c ∷ counts) ≡ c + sum counts = sum_by-cons (λ n. n) c counts in
        let within : from + (0 + length rs) ≤ total = omega (arith, fits, more, here) in
        let next : AreOwned total workers (from + c) (senders_of rows to) = owned (from + c) counts routes rows to all.1 are.1 rest (omega (arith, fits, more)) in
        (routed_at from f are.0 0 rs ts within all.0.routed, subst (λ (n : ℕ). AreOwned total workers (from + n) (senders_of rows to)) here next)
    owned from [] [] (rs ∷ rows) to all are is fits = absurd all
    owned from [] [] [] (ts ∷ to) all are is fits = absurd all
    owned from [] (f ∷ routes) rows to all are is fits = absurd are
    owned from (c ∷ counts) [] rows to all are is fits = absurd are
    owned from (c ∷ counts) (f ∷ routes) [] to all are is fits = cc
    owned from (c ∷ counts) (f ∷ routes) (rs ∷ rows) [] all are is fits = absurd all

  -- as many rows as were counted
  pub counted : (counts : List ℕ) (rows : List (List Row)) → counts ≡ map (λ (rs : List Row). length rs) rows → length (flat_map (λ (rs : List Row). rs) rows) ≡ sum counts
  counted counts rows is = lengths rows ∙ ap sum (sym is)
    where
      lengths : (rows : List (List Row)) → length (flat_map (λ (rs : List Row). rs) rows) ≡ sum (map (λ (rs : List Row). length rs) rows)
      lengths [] = refl
      lengths (rs ∷ rows) =
          let two = length-append rs (flat_map (λ (rs : List Row). rs) rows) in
          let more : sum (length rs ∷ map (λ (rs : List Row). length rs) rows) ≡ length rs + sum (map (λ (rs : List Row). length rs) rows) = sum_by-cons (λ n. n) (length rs) (map (λ (rs : List Row). length rs) rows) in
          let rest = lengths rows in
          omega (arith, two, more, rest)

  -- rows that go to a worker are rows
  chosen : (j : ℕ) (rows : List Row) (to : List ℕ) → AreOf kinds rows → AreOf kinds (rows_to j rows to)
  chosen j [] to are = tt
  chosen j (row ∷ rows) [] are = tt
  chosen j (row ∷ rows) (d ∷ to) are = by (d == j) (chosen j rows to are.1)
    where
      by : (b : Bool) → AreOf kinds (rows_to j rows to) → AreOf kinds (if b then row ∷ rows_to j rows to else rows_to j rows to)
      by true rest = (are.0, rest)
      by false rest = rest

  to_all : (j : ℕ) (routes : List F) (rows : List (List Row)) (to : List (List ℕ)) → AllThree (HasDealt post kinds) routes rows to → All (AreOf kinds) (map (λ (s : Dealing). rows_to j s.rows s.to) (senders_of rows to))
  to_all j [] [] [] all = All-nil (AreOf kinds)
  to_all j (f ∷ routes) (rs ∷ rows) (ts ∷ to) all =
      All-cons (AreOf kinds) (rows_to j rs ts) (map (λ (s : Dealing). rows_to j s.rows s.to) (senders_of rows to)) (chosen j rs ts all.0.are) (to_all j routes rows to all.1)
  to_all j _ _ _ all = absurd all

  at_sender : (j : ℕ) (routes : List F) (rows : List (List Row)) (to : List (List ℕ)) → AllThree (HasDealt post kinds) routes rows to → (k : ℕ)
      → rows_to j (slice_index_or rows k []) (slice_index_or to k []) ≡ slice_index_or (map (λ (s : Dealing). rows_to j s.rows s.to) (senders_of rows to)) k []
  at_sender j [] [] [] all zero = refl
  at_sender j [] [] [] all (suc k) = refl
  at_sender j (f ∷ routes) (rs ∷ rows) (ts ∷ to) all zero = refl
  at_sender j (f ∷ routes) (rs ∷ rows) (ts ∷ to) all (suc k) = at_sender j routes rows to all.1 k
  at_sender j _ _ _ all k = absurd all

  -- the boxes hold just the rows that were routed to them
  pub come : (routes : List F) (rows : List (List Row)) (to : List (List ℕ)) (boxes : List Inbox) → AllThree (HasDealt post kinds) routes rows to
      → ((j k : ℕ) (x : Inbox) → slice_get boxes j ≡ Some x → bytes_from k x.packets.items ≡ encoded (rows_to j (slice_index_or rows k []) (slice_index_or to k [])))
      → HasCome kinds (senders_of rows to) boxes
  come routes rows to boxes all bytes = λ j x at. record {
    are = to_all j routes rows to all;
    bytes = λ k. bytes j k x at ∙ ap encoded (at_sender j routes rows to all k);
  }
