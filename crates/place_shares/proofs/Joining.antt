-- What is written of shares, joined, is what is written of the whole.
use Rattle.std.proofs.Common.{◌≡◌, ℕ, zero, suc, ◌+◌, ◌-◌, ◌<◌, ◌≤◌, List, [], ◌∷◌, ◌++◌, map, length, take, drop, Some, refl, sym, ap, ◌∙◌, subst, arith, append_assoc, append-nil, length-take}
use Rattle.std.specs.Prelude.{slice_get}
use Rattle.std.proofs.Math.Seq.{take-add}
use Rattle.std.proofs.lemmas.List.{take_all}
use Rattle.std.proofs.lemmas.List.Sums.{sum_by-cons}
use Rattle.row_defs.specs.Rows.{Row}
use Rattle.collective.specs.Shares.{share_start, HasPlace, share_of}
use Rattle.collective.proofs.ShareLaws.{start_first, start_last, start_ordered, start_within}
use Rattle.exchange.specs.Deals.{AreRouted}
use Rattle.dealt_shares.specs.Dealings.{Dealing, dealt, AreOwned}
use Rattle.dealt_shares.proofs.Owning.{shares_come}
use Rattle.file_sink.specs.Numbered.{numbered, numbered-append}
use Rattle.place_shares.specs.Places.{begins_at, AreDealtByPosition, AreWritten, plain, joined, rows_of_senders}

-- what is written of rows is written of their parts, one behind the other
module _ (written : ℕ → List Row → List Row) (adds : (n : ℕ) (xs ys : List Row) → written n (xs ++ ys) ≡ written n xs ++ written (n + length xs) ys)
    (xs : List Row) (workers : ℕ) (some : 0 < workers) where
  abbrev start : ℕ → ℕ
  start rank = share_start (length xs) workers rank

  -- the part of a rank behind those of the ranks before it
  one_more : (n : ℕ) → n < workers → written 0 (take (start n) xs) ++ written (start n) (share_of xs workers n) ≡ written 0 (take (start (n + 1)) xs)
  one_more n less =
      let a = start n in
      let b = start (n + 1) in
      let ordered : a ≤ b = start_ordered (length xs) workers n (n + 1) some (omega arith) in
      let within : a ≤ length xs = start_within (length xs) workers n some (omega (arith, less)) in
      let long : 0 + length (take a xs) ≡ a = omega (arith, length-take a xs, within) in
      let sum : a + (b - a) ≡ b = omega (arith, ordered) in
      let cut : take (a + (b - a)) xs ≡ take a xs ++ take (b - a) (drop a xs) = take-add a (b - a) xs in
      ap (λ (k : ℕ). written 0 (take a xs) ++ written k (take (b - a) (drop a xs))) (sym long)
      ∙ sym (adds 0 (take a xs) (take (b - a) (drop a xs))) ∙ ap (written 0) (sym cut) ∙ ap (λ (k : ℕ). written 0 (take k xs)) sum

  abbrev Are : ℕ → List (List Row) → Type 0
  Are n parts = (k : ℕ) (rows : List Row) → slice_get parts k ≡ Some rows → rows ≡ written (start (n + k)) (share_of xs workers (n + k))

  parts_from : (n : ℕ) (parts : List (List Row)) → n + length parts ≡ workers → Are n parts → written 0 (take (start n) xs) ++ joined parts ≡ written 0 xs
  parts_from n [] long are =
      let all : n ≡ workers = omega (arith, long) in
      append-nil (written 0 (take (start n) xs)) ∙ ap (λ (k : ℕ). written 0 (take (start k) xs)) all
      ∙ ap (λ (k : ℕ). written 0 (take k xs)) (start_last (length xs) workers some) ∙ ap (written 0) (take_all (length xs) xs (omega arith))
  parts_from n (rows ∷ parts) long are =
      let at : n + 0 ≡ n = omega arith in
      let here : rows ≡ written (start n) (share_of xs workers n) = are 0 rows refl ∙ ap (λ (k : ℕ). written (start k) (share_of xs workers k)) at in
      let rest : Are (n + 1) parts = λ k rows found.
      let next : n + suc k ≡ n + 1 + k = omega arith in
      are (suc k) rows found ∙ ap (λ (i : ℕ). written (start i) (share_of xs workers i)) next in
      let before = written 0 (take (start n) xs) in
      ap (λ (l : List Row). before ++ (l ++ joined parts)) here ∙ sym (append_assoc before (written (start n) (share_of xs workers n)) (joined parts))
      ∙ ap (λ (l : List Row). l ++ joined parts) (one_more n (omega (arith, long))) ∙ parts_from (n + 1) parts (omega (arith, long)) rest

  pub parts_joined : ((n : ℕ) → written n [] ≡ []) → (parts : List (List Row)) → length parts ≡ workers → Are 0 parts → joined parts ≡ written 0 xs
  parts_joined none parts long are =
      let first : take (start 0) xs ≡ [] = ap (λ (k : ℕ). take k xs) (start_first (length xs) workers) in
      ap (λ (l : List Row). l ++ joined parts) (sym (ap (written 0) first ∙ none 0)) ∙ parts_from 0 parts (omega (arith, long)) are

-- what came to the workers are the shares
module _ (written : ℕ → List Row → List Row) (adds : (n : ℕ) (xs ys : List Row) → written n (xs ++ ys) ≡ written n xs ++ written (n + length xs) ys) (none : (n : ℕ) → written n [] ≡ []) where
  written_joined : (workers : ℕ) (senders : List Dealing) (parts : List (List Row)) → 0 < workers → AreOwned (length (dealt senders)) workers 0 senders
      → AreWritten written workers senders parts → joined parts ≡ written 0 (dealt senders)
  written_joined workers senders parts some owned are =
      parts_joined written adds (dealt senders) workers some none parts are.count (λ k rows found.
      let within : k < workers = omega (arith, are.count, at_within parts k rows found) in
      let at : k ≡ 0 + k = omega arith in
      are.each k rows found ∙ ap (written (share_start (length (dealt senders)) workers k)) (shares_come workers k senders within owned)
      ∙ ap (λ (i : ℕ). written (share_start (length (dealt senders)) workers i) (share_of (dealt senders) workers i)) at)
    where
      at_within : (parts : List (List Row)) (k : ℕ) (rows : List Row) → slice_get parts k ≡ Some rows → k < length parts
      at_within [] k rows found = cc
      at_within (p ∷ parts) zero rows found = omega arith
      at_within (p ∷ parts) (suc k) rows found = let less = at_within parts k rows found in omega (arith, less)

pub parts_are_rows : (workers : ℕ) (senders : List Dealing) (parts : List (List Row)) → 0 < workers → AreOwned (length (dealt senders)) workers 0 senders
    → AreWritten plain workers senders parts → joined parts ≡ dealt senders
parts_are_rows workers senders parts some owned are = written_joined plain (λ n xs ys. refl) (λ n. refl) workers senders parts some owned are

pub parts_are_numbered : (workers : ℕ) (senders : List Dealing) (parts : List (List Row)) → 0 < workers → AreOwned (length (dealt senders)) workers 0 senders
    → AreWritten numbered workers senders parts → joined parts ≡ numbered 0 (dealt senders)
parts_are_numbered workers senders parts some owned are = written_joined numbered numbered-append (λ n. refl) workers senders parts some owned are

-- each sender's rows begin behind those of the senders before it
owned_from : (total workers start : ℕ) (senders : List Dealing)
    → ((k : ℕ) (s : Dealing) → slice_get senders k ≡ Some s → AreRouted (λ row n worker. HasPlace total workers worker (start + begins_at senders k + n)) 0 s.rows s.to)
    → AreOwned total workers start senders
owned_from total workers start [] each = tt
owned_from total workers start (s ∷ senders) each =
    let At : Dealing → ℕ → Type 0 = λ s m. AreRouted (λ row n worker. HasPlace total workers worker (m + n)) 0 s.rows s.to in
    let here : start + 0 ≡ start = omega arith in
    let rest : (k : ℕ) (r : Dealing) → slice_get senders k ≡ Some r → At r (start + length s.rows + begins_at senders k) = λ k r found.
    let front : begins_at (s ∷ senders) (suc k) ≡ length s.rows + begins_at senders k = sum_by-cons (λ n. n) (length s.rows) (take k (map length (rows_of_senders senders))) in
    let same : start + begins_at (s ∷ senders) (suc k) ≡ start + length s.rows + begins_at senders k = omega (arith, front) in
    subst (At r) same (each (suc k) r found) in
    (subst (At s) here (each 0 s refl), owned_from total workers (start + length s.rows) senders rest)

pub are_owned : (total workers : ℕ) (senders : List Dealing) → AreDealtByPosition total workers senders → AreOwned total workers 0 senders
are_owned total workers senders each =
    owned_from total workers 0 senders (λ k s found.
    let At : ℕ → Type 0 = λ m. AreRouted (λ row n worker. HasPlace total workers worker (m + n)) 0 s.rows s.to in
    let same : begins_at senders k ≡ 0 + begins_at senders k = omega arith in
    subst At same (each k s found))

-- the rows of all senders are their lists, joined
pub dealt_joined : (senders : List Dealing) → joined (rows_of_senders senders) ≡ dealt senders
dealt_joined [] = refl
dealt_joined (s ∷ senders) = ap (λ (rows : List Row). s.rows ++ rows) (dealt_joined senders)
