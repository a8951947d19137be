-- Each kind of step keeps the rule of a receiver's queue.
use Rattle.std.proofs.Common.{◌≡◌, ◌≢◌, ℕ, zero, suc, ◌+◌, ◌<◌, ◌≤◌, ◌⊎◌, Bool, cond, eqb, List, [], ◌∷◌, ◌++◌, length, set, get_or, sym, refl, ap, ◌∙◌, subst, ⊎_elim, inl, inr, append_assoc, append-nil, eq-eqb, ne_eqb, length-append, lt_of_not-le, arith}
use Rattle.std.proofs.lemmas.List.Elements.{filter-append}
use Rattle.std.proofs.lemmas.List.{get_or_past}
use Rattle.std.proofs.Math.ListN.{get_or-append}
use Rattle.std.proofs.Math.Seq.{get_or-append_seam}
use mathlib.Core.Option.{Option, some, none, some-injective, some-ne-none}
use mathlib.Core.Logic.{dite}
use native.Mathlib.Decide.{dec_le, ℕ_discrete}
use lib.ListN.{get_elem?}
use Rattle.crossbeam_queue.proofs.Lists.{at_set, set_else}
use Rattle.crossbeam_queue.specs.Fifo.{Pushes, Pops, Forks, Merges, Learns}
use Rattle.std.specs.Prelude.{slice_index_or}
use Rattle.block_pool.specs.Handles.{BlockValue}
use Rattle.multiplexer.specs.Mixes.{of_sender, numbered}
use Rattle.multiplexer.specs.Delivery.{Delivers, Knows, keeper}
use Rattle.multiplexer.specs.Steps.{after_send, after_take, IsMixOnce}
use Rattle.multiplexer.specs.declared.packet.Packet.{Packet}
use Rattle.multiplexer.specs.declared.view.View.{View}
use Rattle.multiplexer.specs.declared.view.View.TheVariants.{Sends, Receives, Spent}

-- a function changed at one number
abbrev put : {A : Type 0} → ℕ → A → (ℕ → A) → ℕ → A
put k a f j = cond (eqb j k) a (f j)

put_here : {A : Type 0} (k : ℕ) (a : A) (f : ℕ → A) → put k a f k ≡ a
put_here {A} k a f = ap (λ (b : Bool). cond b a (f k)) (eq-eqb k k refl)

put_else : {A : Type 0} (k : ℕ) (a : A) (f : ℕ → A) (j : ℕ) → j ≢ k → put k a f j ≡ f j
put_else {A} k a f j n = ap (λ (b : Bool). cond b a (f j)) (ne_eqb j k n)

at_snoc : {A : Type 0} (l : List A) (a b : A) (j : ℕ) → get_elem? (l ++ a ∷ []) j ≡ some b → (get_elem? l j ≡ some b) ⊎ ((j ≡ length l) × (a ≡ b))
at_snoc {A} [] a b zero e = inr (refl, some-injective a b e)
at_snoc {A} [] a b (suc j) e = absurd (some-ne-none b (sym e))
at_snoc {A} (x ∷ xs) a b zero e = inl e
at_snoc {A} (x ∷ xs) a b (suc j) e = ⊎_elim (λ t. inl t) (λ t. inr (ap suc t.0, t.1)) (at_snoc xs a b j e)

-- a changed seat, and the others, each of which knew what is so before
all_set : (views : List View) (pass : ℕ) (w : View) (F : ℕ → View → Type 0) → F pass w → ((p : ℕ) (v : View) → p ≢ pass → get_elem? views p ≡ some v → F p v)
    → (p : ℕ) (v : View) → get_elem? (set views pass w) p ≡ some v → F p v
all_set views pass w F mine others p v e = ⊎_elim (λ (x : (p ≡ pass) × (w ≡ v)). subst (λ (y : ℕ × View). F y.0 y.1) (λ i. (sym x.0 i, x.1 i)) mine)
    (λ (x : (p ≢ pass) × (get_elem? views p ≡ some v)). others p v x.0 x.1) (at_set views pass p w v e)

numbered-append : (k n : ℕ) (bs cs : List BlockValue) → numbered k n (bs ++ cs) ≡ numbered k n bs ++ numbered k (n + length bs) cs
numbered-append k n [] cs = ap (λ (m : ℕ). numbered k m cs) (omega arith)
numbered-append k n (b ∷ bs) cs = let h : (n + 1) + length bs ≡ n + suc (length bs) = omega arith in
    ap (λ (l : List Packet). record { from = k; seq = n; block = b } ∷ l) (numbered-append k (n + 1) bs cs ∙ ap (λ (m : ℕ). numbered k (n + 1) bs ++ numbered k m cs) h)

own_packet : (k : ℕ) (x : Packet) → x.from ≡ k → of_sender k (x ∷ []) ≡ x ∷ []
own_packet k x e = ap (λ (b : Bool). cond b (x ∷ []) []) (eq-eqb x.from k e)

other_packet : (k : ℕ) (x : Packet) → x.from ≢ k → of_sender k (x ∷ []) ≡ []
other_packet k x n = ap (λ (b : Bool). cond b (x ∷ []) []) (ne_eqb x.from k n)

-- one more packet of sender k
snoc_order : (k : ℕ) (blocks : List BlockValue) (x : Packet) (all : List Packet) → x.from ≡ k → x.seq ≡ length blocks → of_sender k all ≡ numbered k 0 blocks
    → of_sender k (all ++ x ∷ []) ≡ numbered k 0 (blocks ++ x.block ∷ [])
snoc_order k blocks x all from seq order = let place : x.seq ≡ 0 + length blocks = omega arith in let is : x ∷ [] ≡ numbered k (0 + length blocks) (x.block ∷ []) = λ i. record { from = from i; seq = place i; block = x.block } ∷ [] in
    filter-append _ all (x ∷ []) ∙ ap (λ (l : List Packet). of_sender k all ++ l) (own_packet k x from ∙ is) ∙ ap (λ (l : List Packet). l ++ numbered k (0 + length blocks) (x.block ∷ [])) order ∙ sym (numbered-append k 0 blocks (x.block ∷ []))

other_order : (j : ℕ) (x : Packet) (all : List Packet) → x.from ≢ j → of_sender j (all ++ x ∷ []) ≡ of_sender j all
other_order j x all n = filter-append _ all (x ∷ []) ∙ ap (λ (l : List Packet). of_sender j all ++ l) (other_packet j x n) ∙ append-nil _

first_each : (p : ℕ) (v : View) → get_elem? (keeper ∷ []) p ≡ some v → Knows 0 (λ _. none) (λ _. []) [] p v
first_each zero v e = subst (λ (u : View). Knows 0 (λ _. none) (λ _. []) [] 0 u) (some-injective keeper v e) (record {
  is_reader = refl;
  took = refl;
  unmade = λ k _. (refl, refl);
  gathered = λ k h. absurd (omega arith);
  fewer = omega arith;
})
first_each (suc p) v e = absurd (some-ne-none v (sym e))

pub begins : Delivers [] (keeper ∷ [])
begins = record { reader = 0; seat = λ _. none; sent = λ _. []; got = []; in_order = λ k. refl; each = first_each }

module _ (reader : ℕ) (seat : ℕ → Option ℕ) (sent : ℕ → List BlockValue) (got : List Packet) where
  -- one pass has a sender's seat
  one_seat : (k p pass : ℕ) → seat k ≡ some pass → seat k ≡ some p → p ≡ pass
  one_seat k p pass a b = some-injective p pass (sym b ∙ a)

  no_seat : (k pass : ℕ) → seat k ≡ some pass → seat k ≡ none → ⊥
  no_seat k pass a b = some-ne-none pass (sym a ∙ b)

  -- what the other passes know stays when sender k sends more
  still_sent : (pass k : ℕ) (more : List BlockValue) → seat k ≡ some pass → (p : ℕ) → p ≢ pass → (v : View) → Knows reader seat sent got p v → Knows reader seat (put k more sent) got p v
  still_sent pass k more at p apart (Sends j blocks) h = (h.0, h.1 ∙ sym (put_else k more sent j (λ e. apart (one_seat k p pass at (subst (λ (i : ℕ). seat i ≡ some p) e h.0)))))
  still_sent pass k more at p apart (Receives taken made known) h = let other : (j : ℕ) → seat j ≡ none → put k more sent j ≡ sent j = λ j no. put_else k more sent j (λ e. no_seat k pass at (subst (λ (i : ℕ). seat i ≡ none) e no)) in record {
    is_reader = h.is_reader;
    took = h.took;
    unmade = λ j le. let u = h.unmade j le in (u.0, other j u.0 ∙ u.1);
    gathered = λ j lt. let u = h.gathered j lt in (u.0, u.1 ∙ sym (other j u.0));
    fewer = h.fewer;
  }
  still_sent pass k more at p apart Spent h = tt

  -- and when the receiver takes a packet
  still_taken : (pass : ℕ) (more : List Packet) → pass ≡ reader → (p : ℕ) → p ≢ pass → (v : View) → Knows reader seat sent got p v → Knows reader seat sent more p v
  still_taken pass more me p apart (Sends j blocks) h = h
  still_taken pass more me p apart (Receives taken made known) h = absurd (apart (h.is_reader ∙ sym me))
  still_taken pass more me p apart Spent h = tt

  -- and when a seat changes that no other pass has
  still_seated : (pass k : ℕ) (new : Option ℕ) → pass ≡ reader → (p : ℕ) → p ≢ pass → seat k ≢ some p → (v : View) → Knows reader seat sent got p v → Knows reader (put k new seat) sent got p v
  still_seated pass k new me p apart free (Sends j blocks) h = (put_else k new seat j (λ e. free (subst (λ (i : ℕ). seat i ≡ some p) e h.0)) ∙ h.0, h.1)
  still_seated pass k new me p apart free (Receives taken made known) h = absurd (apart (h.is_reader ∙ sym me))
  still_seated pass k new me p apart free Spent h = tt

pub sends : (n pass k : ℕ) (blocks : List BlockValue) (x : Packet) → x.from ≡ k → x.seq ≡ length blocks → Pushes Delivers n pass (Sends k blocks) x (λ w. w ≡ after_send (Sends k blocks) x)
sends n pass k blocks x from seq items views _ d at = let mine = d.each pass (Sends k blocks) at in let more : List BlockValue = blocks ++ x.block ∷ [] in let sent : ℕ → List BlockValue = put k more d.sent in (
  Sends k more,
  record {
    reader = d.reader;
    seat = d.seat;
    sent = sent;
    got = d.got;
    in_order = λ j. ap (of_sender j) (sym (append_assoc d.got items (x ∷ [])))
        ∙ dite (ℕ_discrete j k) (λ e. subst (λ (i : ℕ). of_sender i ((d.got ++ items) ++ x ∷ []) ≡ numbered i 0 (sent i)) (sym e) (snoc_order k blocks x (d.got ++ items) from seq (d.in_order k ∙ ap (numbered k 0) (sym mine.1)) ∙ ap (numbered k 0) (sym (put_here k more d.sent))))
        (λ ne. other_order j x (d.got ++ items) (λ e. ne (sym e ∙ from)) ∙ d.in_order j ∙ ap (numbered j 0) (sym (put_else k more d.sent j ne)));
    each = all_set views pass (Sends k more) (Knows d.reader d.seat sent d.got) (mine.0, sym (put_here k more d.sent)) (λ p v apart e. still_sent d.reader d.seat d.sent d.got pass k more mine.0 p apart v (d.each p v e));
  },
  refl,
)

pub takes : (pass : ℕ) (taken : List Packet) (made : ℕ) (known : List (List BlockValue)) → Pops Delivers pass (Receives taken made known) (λ x w. w ≡ after_take (Receives taken made known) x)
takes pass taken made known x items views d at = let mine = d.each pass (Receives taken made known) at in let got : List Packet = d.got ++ x ∷ [] in (
  Receives (taken ++ x ∷ []) made known,
  record {
    reader = d.reader;
    seat = d.seat;
    sent = d.sent;
    got = got;
    in_order = λ k. ap (of_sender k) (append_assoc d.got (x ∷ []) items) ∙ d.in_order k;
    each = all_set views pass (Receives (taken ++ x ∷ []) made known) (Knows d.reader d.seat d.sent got)
        (record { is_reader = mine.is_reader; took = ap (λ (l : List Packet). l ++ x ∷ []) mine.took; unmade = mine.unmade; gathered = mine.gathered; fewer = mine.fewer })
        (λ p v apart e. still_taken d.reader d.seat d.sent d.got pass got mine.is_reader p apart v (d.each p v e));
  },
  refl,
)

pub enrols : (pass : ℕ) (taken : List Packet) (made : ℕ) (known : List (List BlockValue)) → Forks Delivers pass (Receives taken made known) (Receives taken (made + 1) known) (Sends made [])
enrols pass taken made known items views d at = let mine = d.each pass (Receives taken made known) at in let left : View = Receives taken (made + 1) known in let vs : List View = set views pass left in
    let seat : ℕ → Option ℕ = put made (some (length vs)) d.seat in let free = mine.unmade made (omega arith) in
    let F : ℕ → View → Type 0 = Knows d.reader seat d.sent d.got in
    let fewer : length known ≤ made = mine.fewer in
    let old = all_set views pass left F
    (record {
      is_reader = mine.is_reader;
      took = mine.took;
      unmade = λ k le. let u = mine.unmade k (omega arith) in (put_else made (some (length vs)) d.seat k (λ e. omega arith) ∙ u.0, u.1);
      gathered = λ k lt. let u = mine.gathered k lt in (put_else made (some (length vs)) d.seat k (λ e. omega arith) ∙ u.0, u.1);
      fewer = omega arith;
    })
    (λ p v apart e. still_seated d.reader d.seat d.sent d.got pass made (some (length vs)) mine.is_reader p apart (λ s. some-ne-none p (sym s ∙ free.0)) v (d.each p v e)) in record {
      reader = d.reader;
      seat = seat;
      sent = d.sent;
      got = d.got;
      in_order = d.in_order;
      each = λ p v e. ⊎_elim (λ (x : get_elem? vs p ≡ some v). old p v x) (λ (x : (p ≡ length vs) × (Sends made [] ≡ v)). subst (F p) x.1 (put_here made (some (length vs)) d.seat ∙ ap some (sym x.0), sym free.1)) (at_snoc vs (Sends made []) v p e);
    }

pub gathers : (pass : ℕ) (taken : List Packet) (made : ℕ) (known : List (List BlockValue)) (other : ℕ) (blocks : List BlockValue)
    → Merges Delivers pass (Receives taken made known) other (Sends (length known) blocks) (Receives taken made (known ++ blocks ∷ [])) Spent
gathers pass taken made known other blocks items views d at apart at' = let mine = d.each pass (Receives taken made known) at in let k = length known in let both : View = Receives taken made (known ++ blocks ∷ []) in
    let vs : List View = set views pass both in
    let theirs = d.each other (Sends k blocks) (sym (set_else views pass other both apart) ∙ at') in
    let below : k < made = lt_of_not-le (λ le. no_seat d.reader d.seat d.sent d.got k other theirs.0 (mine.unmade k le).0) in
    let seat : ℕ → Option ℕ = put k none d.seat in let F : ℕ → View → Type 0 = Knows d.reader seat d.sent d.got in
    let G : ℕ → View → Type 0 = λ p v. p ≢ other → F p v in
    let now = all_set views pass both G
    (λ _. record {
      is_reader = mine.is_reader;
      took = mine.took;
      unmade = λ j le. let u = mine.unmade j le in (put_else k none d.seat j (λ e. omega arith) ∙ u.0, u.1);
      gathered = λ j lt. dite (ℕ_discrete j k)
          (λ e. subst (λ (i : ℕ). (seat i ≡ none) × (get_or (known ++ blocks ∷ []) i [] ≡ d.sent i)) (sym e) (put_here k none d.seat, get_or-append_seam known blocks [] [] ∙ theirs.1))
          (λ ne. let short : j < length known = omega (arith, length-append known (blocks ∷ [])) in let u = mine.gathered j short in (put_else k none d.seat j ne ∙ u.0, get_or-append known (blocks ∷ []) [] j short ∙ u.1));
      fewer = omega (arith, length-append known (blocks ∷ []));
    })
    (λ p v far e away. still_seated d.reader d.seat d.sent d.got pass k none mine.is_reader p far (λ s. away (one_seat d.reader d.seat d.sent d.got k p other theirs.0 s)) v (d.each p v e)) in record {
      reader = d.reader;
      seat = seat;
      sent = d.sent;
      got = d.got;
      in_order = d.in_order;
      each = all_set vs other Spent F tt (λ p v away e. now p v e away);
    }

-- the values of a function up to n
abbrev firsts : ℕ → (ℕ → List BlockValue) → List (List BlockValue)
firsts zero f = []
firsts (suc n) f = f 0 ∷ firsts n (λ k. f (suc k))

length_firsts : (n : ℕ) (f : ℕ → List BlockValue) → length (firsts n f) ≡ n
length_firsts zero f = refl
length_firsts (suc n) f = ap suc (length_firsts n (λ k. f (suc k)))

firsts_at : (n k : ℕ) (f : ℕ → List BlockValue) → ((j : ℕ) → n ≤ j → f j ≡ []) → slice_index_or (firsts n f) k [] ≡ f k
firsts_at zero k f past = get_or_past [] k [] (omega arith) ∙ sym (past k (omega arith))
firsts_at (suc n) zero f past = refl
firsts_at (suc n) (suc k) f past = firsts_at n k (λ j. f (suc j)) (λ j le. past (suc j) (omega arith))

pub mixes : (pass : ℕ) (taken : List Packet) (made : ℕ) (known : List (List BlockValue)) → Learns Delivers pass (Receives taken made known) (IsMixOnce (Receives taken made known))
mixes pass taken made known items views d at =
    let mine = d.each pass (Receives taken made known) at in
    let of_all : (k : ℕ) → of_sender k (taken ++ items) ≡ numbered k 0 (d.sent k) = λ k. ap (λ (l : List Packet). of_sender k (l ++ items)) mine.took ∙ d.in_order k in (
      record {
        sent = firsts made d.sent;
        count = length_firsts made d.sent;
        mix = λ k. of_all k ∙ ap (numbered k 0) (sym (firsts_at made k d.sent (λ j le. (mine.unmade j le).1)));
      },
      λ all k. of_all k ∙ ap (numbered k 0) (dite (dec_le (length known) k) (λ le. (mine.unmade k (omega arith)).1 ∙ sym (get_or_past known k [] le)) (λ nle. sym (mine.gathered k (lt_of_not-le nle)).1)),
    )
