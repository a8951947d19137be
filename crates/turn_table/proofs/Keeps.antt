-- Each step of a turn keeps its rule.
use Rattle.std.proofs.Common.{◌≡◌, ℕ, ◌<◌, eqb, ◌≢◌, List, [], ◌∷◌, ◌++◌, map, get_or, set, Some, refl, sym, ap, ◌∙◌, subst, ⊎_elim, arith, length-set, get_or-set_same}
use mathlib.Core.Logic.{dite}
use mathlib.Core.Option.{Option, some, none}
use mathlib.Core.List.{map-append}
use native.Mathlib.Decide.{ℕ_discrete}
use lib.ListN.{get_elem?}
use lib.Seq.{map-set}
use prog.Atomic.{either}
use Rattle.atomic_table.specs.Table.{State, rest, keeps, takes, gives, stepped, Allows, Splits, Joins}
use Rattle.atomic_table.proofs.Lists.{at_set, set_here, set_else, set_again, at_snoc, at_map, exchanged}
use Rattle.turn_table.specs.declared.seat.Doing.{Doing}
use Rattle.turn_table.specs.declared.seat.Stage.{Stage}
use Rattle.turn_table.specs.declared.seat.Stage.TheVariants.{Idle, Holding, Closing}
use Rattle.turn_table.specs.Seats.{Slot, SeatState, doing, idle, Steps}
use Rattle.turn_table.specs.Turning.{Knows, view_of, KeepsRule, Took, Closed, reached, gave}

abbrev Home : Type 0 → Type 0
Home S = Option (Option (Slot S))

module _ {S X : Type 0} (plain : S → X) where
  abbrev Known : ℕ → Home S → X → ℕ → ℕ → Stage X → Type 0
  Known = Knows plain

  -- while the turn is in no seat knows of it
  at_rest : (w : ℕ) (h : Home S) (x : X) (holder w' : ℕ) (h' : Home S) (x' : X) (holder' seat : ℕ) → w ≡ 0 → (st : Stage X) → Known w h x holder seat st → Known w' h' x' holder' seat st
  at_rest w h x holder w' h' x' holder' seat z Idle k = tt
  at_rest w h x holder w' h' x' holder' seat z (Holding y) k = let p : 0 < w = k.0 in absurd (omega arith)
  at_rest w h x holder w' h' x' holder' seat z (Closing y) k = let p : 0 < w = k.0 in absurd (omega arith)

  -- nor does a seat that is not the holder
  other_seat : (w : ℕ) (h : Home S) (x : X) (holder w' : ℕ) (h' : Home S) (x' : X) (holder' seat : ℕ) → seat ≢ holder → (st : Stage X) → Known w h x holder seat st → Known w' h' x' holder' seat st
  other_seat w h x holder w' h' x' holder' seat n Idle k = tt
  other_seat w h x holder w' h' x' holder' seat n (Holding y) k = absurd (n k.1)
  other_seat w h x holder w' h' x' holder' seat n (Closing y) k = absurd (n k.1)

  -- a waiter may mark the word
  still_out : (w : ℕ) (h : Home S) (x : X) (holder w' seat : ℕ) → 0 < w' → (st : Stage X) → Known w h x holder seat st → Known w' h x holder seat st
  still_out w h x holder w' seat p Idle k = tt
  still_out w h x holder w' seat p (Holding y) k = (p, k.1, k.2)
  still_out w h x holder w' seat p (Closing y) k = (p, k.1, k.2, k.3)

-- a compare-exchange of 0 for 1 leaves the word marked as out
pub marks : (n : ℕ) → 0 < either (eqb n 0) 1 n
marks n = exchanged n 0 1 (λ k. 0 < k) (λ _. omega arith) (λ h. omega arith)

module _ {S X V : Type 0} (plain : S → X) (holds : X → List V → Type 0) where
  abbrev D : Type 0
  D = Doing X V

  abbrev St : Type 0
  St = State (Slot S) D

  abbrev Rule : St → Type 0
  Rule = KeepsRule plain holds

  abbrev word : St → ℕ
  word s = get_or s.words 0 0

  abbrev home : St → Home S
  home s = get_elem? s.homes 0

  seats_stay : (K : ℕ → Stage X → Type 0) (vs : List D) (me : ℕ) (w : D) → K me w.stage → ((j : ℕ) (d : D) → j ≢ me → get_elem? vs j ≡ some d → K j d.stage)
      → (j : ℕ) (d : D) → get_elem? (set vs me w) j ≡ some d → K j d.stage
  seats_stay K vs me w mine others j d e = ⊎_elim (λ (t : (j ≡ me) × (w ≡ d)). subst (λ (x : ℕ × D). K x.0 x.1.stage) (λ i. (sym t.0 i, t.1 i)) mine)
      (λ (t : (j ≢ me) × (get_elem? vs j ≡ some d)). others j d t.0 t.1) (at_set vs me j w d e)

  same_views : (x : X) (vs : List D) (me : ℕ) (d w : D) → get_elem? vs me ≡ some d → w.view ≡ d.view → holds x (map view_of vs) → holds x (map view_of (set vs me w))
  same_views x vs me d w at e = subst (holds x) (sym (map-set view_of vs me w ∙ (ap (set (map view_of vs) me) e ∙ set_again (map view_of vs) me d.view (at_map view_of vs me d at))))

  -- the turn is found out, and nothing changes but the word
  misses : (s : St) (r : Rule s) (id n : ℕ) (cs : List (ℕ × Slot S)) (d : D) → get_elem? s.views id ≡ some d → 0 < n → Rule (stepped s 0 n id cs d keeps)
  misses s r id n cs d at up = let long = r.has_word in let now : get_or (set s.words 0 n) 0 0 ≡ n = get_or-set_same s.words 0 n 0 long in record {
    value = r.value;
    holder = r.holder;
    has_word = subst (λ (k : ℕ). 0 < k) (sym (length-set s.words 0 n)) long;
    at_home = λ z. absurd (omega arith);
    each_seat = subst (λ (z : ℕ). (j : ℕ) (e : D) → get_elem? (set s.views id d) j ≡ some e → Knows plain z (home s) r.value r.holder j e.stage) (sym now)
        (λ j e is. still_out plain (word s) (home s) r.value r.holder n j up e.stage (seats_stay (Knows plain (word s) (home s) r.value r.holder) s.views id d (r.each_seat id d at) (λ i x _. r.each_seat i x) j e is));
    kept = same_views r.value s.views id d d at refl r.kept;
  }

  pub takes_turn : (slots id : ℕ) (me : SeatState S X V) (f : ℕ → ℕ) → ((n : ℕ) → 0 < f n) → Allows Rule slots id me 0 f (reached (Took plain holds) me)
  takes_turn slots id me f marked s r _ at _ = let long = r.has_word in dite (ℕ_discrete (word s) 0)
      (λ z. let at_home = r.at_home z in let a : S = at_home.0 in let x : X = plain a in let met : holds x (map view_of s.views) = subst (λ (y : X). holds y (map view_of s.views)) (sym at_home.2) r.kept in let w : D = doing (Holding x) me.0.view in let n : ℕ = f (word s) in let up : 0 < n = marked (word s) in
      let now : get_or (set s.words 0 n) 0 0 ≡ n = get_or-set_same s.words 0 n 0 long in (
        w,
        takes 0 (Some a),
        at_home.1,
        record {
          value = x;
          holder = id;
          has_word = subst (λ (k : ℕ). 0 < k) (sym (length-set s.words 0 n)) long;
          at_home = λ gone. absurd (omega arith);
          each_seat = let h' : Home S = get_elem? (set s.homes 0 none) 0 in subst (λ (k : ℕ). (j : ℕ) (e : D) → get_elem? (set s.views id w) j ≡ some e → Knows plain k h' x id j e.stage) (sym now)
              (seats_stay (Knows plain n h' x id) s.views id w (up, refl, refl) (λ j e _ is. at_rest plain (word s) (home s) r.value r.holder n h' x id j z e.stage (r.each_seat j e is)));
          kept = same_views x s.views id me.0 w at refl met;
        },
        ((λ _. (a, refl, (map view_of s.views, id, at_map view_of s.views id me.0 at, met))), λ no. absurd (no z)),
      ))
      (λ out. (me.0, keeps, tt, misses s r id (f (word s)) me.1 me.0 at (marked (word s)), ((λ z. absurd (out z)), λ _. refl)))

  pub closes_turn : (slots id : ℕ) (me : SeatState S X V) (f : ℕ → ℕ) → ((n : ℕ) → 0 < f n) → Allows Rule slots id me 0 f (reached (Closed holds) me)
  closes_turn slots id me f marked s r _ at _ = let long = r.has_word in dite (ℕ_discrete (word s) 0)
      (λ z. let x : X = r.value in let w : D = doing (Closing x) me.0.view in let n : ℕ = f (word s) in let up : 0 < n = marked (word s) in
      let now : get_or (set s.words 0 n) 0 0 ≡ n = get_or-set_same s.words 0 n 0 long in (
        w,
        keeps,
        tt,
        record {
          value = x;
          holder = id;
          has_word = subst (λ (k : ℕ). 0 < k) (sym (length-set s.words 0 n)) long;
          at_home = λ gone. absurd (omega arith);
          each_seat = subst (λ (k : ℕ). (j : ℕ) (e : D) → get_elem? (set s.views id w) j ≡ some e → Knows plain k (home s) x id j e.stage) (sym now)
              (seats_stay (Knows plain n (home s) x id) s.views id w (up, refl, refl, r.at_home z) (λ j e _ is. at_rest plain (word s) (home s) x r.holder n (home s) x id j z e.stage (r.each_seat j e is)));
          kept = same_views x s.views id me.0 w at refl r.kept;
        },
        ((λ _. (x, refl, (map view_of s.views, id, at_map view_of s.views id me.0 at, r.kept))), λ no. absurd (no z)),
      ))
      (λ out. (me.0, keeps, tt, misses s r id (f (word s)) me.1 me.0 at (marked (word s)), ((λ z. absurd (out z)), λ _. refl)))

  module _ (after : X → X → V → V) where
    gives_here : (slots id : ℕ) (v : V) (x : X) (y : S) → 0 < slots → Steps holds x (plain y) v (after x (plain y) v)
        → Allows Rule slots id (doing (Holding x) v, (0, Some y) ∷ []) 0 (λ _. 0) (gave plain after (doing (Holding x) v, (0, Some y) ∷ []))
    gives_here slots id v x y room rule s r wide at _ = let long = r.has_word in let d : D = doing (Holding x) v in let w : D = idle (after x (plain y) v) in let known = r.each_seat id d at in
        let now : get_or (set s.words 0 0) 0 0 ≡ 0 = get_or-set_same s.words 0 0 0 long in let h' : Home S = get_elem? (set s.homes 0 (some (Some y))) 0 in (
          w,
          gives,
          tt,
          record {
            value = plain y;
            holder = id;
            has_word = subst (λ (k : ℕ). 0 < k) (sym (length-set s.words 0 0)) long;
            at_home = λ _. (y, set_here s.homes 0 (some (Some y)) (omega arith), refl);
            each_seat = subst (λ (k : ℕ). (j : ℕ) (e : D) → get_elem? (set s.views id w) j ≡ some e → Knows plain k h' (plain y) id j e.stage) (sym now)
                (seats_stay (Knows plain 0 h' (plain y) id) s.views id w tt (λ j e no is. other_seat plain (word s) (home s) r.value r.holder 0 h' (plain y) id j (λ same. no (same ∙ sym known.1)) e.stage (r.each_seat j e is)));
            kept = subst (holds (plain y)) (sym (map-set view_of s.views id w)) (rule (map view_of s.views) id (subst (λ (z : X). holds z (map view_of s.views)) (sym known.2) r.kept) (at_map view_of s.views id d at));
          },
          λ x' y' ex ey. let p : (0, Some y) ≡ (0, Some y') = cc in let q : Some y ≡ Some y' = ap (λ (t : ℕ × Slot S). t.1) p in cc,
        )

    pub gives_turn : (slots id : ℕ) (me : SeatState S X V) (v : V) (x : X) (y : S) → me ≡ (doing (Holding x) v, (0, Some y) ∷ []) → 0 < slots → Steps holds x (plain y) v (after x (plain y) v)
        → Allows Rule slots id me 0 (λ _. 0) (gave plain after me)
    gives_turn slots id me v x y is room rule = subst (λ (m : SeatState S X V). Allows Rule slots id m 0 (λ _. 0) (gave plain after m)) (sym is) (gives_here slots id v x y room rule)

  -- an idle seat that has taken the turn has the slot alone
  pub took_one : (m m' : SeatState S X V) (v : V) (x : S) → m ≡ (idle v, []) → m' ≡ (doing (Holding (plain x)) m.0.view, (0, Some x) ∷ m.1) → m' ≡ (doing (Holding (plain x)) m.0.view, (0, Some x) ∷ [])
  took_one m m' v x free is = is ∙ ap (λ (l : List (ℕ × Slot S)). (doing (Holding (plain x)) m.0.view, (0, Some x) ∷ l)) (ap (λ (n : SeatState S X V). n.1) free)

  -- what `exchange` asks
  pub has_slot : (m : SeatState S X V) (st : Stage X) (v : V) (x : Slot S) → m ≡ (doing st v, (0, x) ∷ []) → m.1 ≡ (0, x) ∷ rest m.1
  has_slot m st v x is = let e = ap (λ (n : SeatState S X V). n.1) is in e ∙ ap (λ (l : List (ℕ × Slot S)). (0, x) ∷ l) (sym (ap rest e))

  pub splits : (id : ℕ) (d : D) (left right : V) → ((x : X) (views : List V) (i : ℕ) → holds x views → get_elem? views i ≡ some d.view → holds x (set views i left ++ right ∷ []))
      → Splits Rule id d (doing d.stage left) (idle right)
  splits id d left right law s r at = let w : D = doing d.stage left in let K = Knows plain (word s) (home s) r.value r.holder in record {
    value = r.value;
    holder = r.holder;
    has_word = r.has_word;
    at_home = r.at_home;
    each_seat = λ j e p. ⊎_elim (seats_stay K s.views id w (r.each_seat id d at) (λ i x _. r.each_seat i x) j e) (λ (t : idle right ≡ e). subst (λ (z : D). K j z.stage) t tt)
        (at_snoc (set s.views id w) (idle right) e j p);
    kept = subst (holds r.value) (sym (map-append view_of (set s.views id w) (idle right ∷ []) ∙ ap (λ l. l ++ right ∷ []) (map-set view_of s.views id w)))
        (law r.value (map view_of s.views) id r.kept (at_map view_of s.views id d at));
  }

  pub joins : (id : ℕ) (d : D) (other : ℕ) (e : D) (both spent : V)
      → ((x : X) (views : List V) (i j : ℕ) → holds x views → get_elem? views i ≡ some d.view → get_elem? views j ≡ some e.view → ¬ (j ≡ i) → holds x (set (set views i both) j spent))
      → Joins Rule id d other e (doing d.stage both) (idle spent)
  joins id d other e both spent law s r at apart there = let w : D = doing d.stage both in let K = Knows plain (word s) (home s) r.value r.holder in let vs : List D = set s.views id w in
      let before : get_elem? s.views other ≡ some e = sym (set_else s.views id other w apart) ∙ there in record {
        value = r.value;
        holder = r.holder;
        has_word = r.has_word;
        at_home = r.at_home;
        each_seat = seats_stay K vs other (idle spent) tt (λ j x _. seats_stay K s.views id w (r.each_seat id d at) (λ i y _. r.each_seat i y) j x);
        kept = subst (holds r.value) (sym (map-set view_of vs other (idle spent) ∙ ap (λ l. set l other spent) (map-set view_of s.views id w)))
            (law r.value (map view_of s.views) id other r.kept (at_map view_of s.views id d at) (at_map view_of s.views other e before) apart);
      }
