-- Pieces that are put one after another.
use Rattle.std.proofs.Common.{◌≡◌, ℕ, ◌≤◌, List, [], ◌++◌, Option, Some, None, is_some, Result, Ok, Err, OnOk, OnErr, refl, sym, ap, subst, ◌∙◌, arith, append_assoc, append-nil}
use Rattle.dia_edge.specs.Counts.{HasRisen}
use Rattle.dia_edge.specs.Sinks.{TookAll, TookPrefix, TookBut, Puts}
use Rattle.dia_edge.proofs.CountLemmas.{rose_since}

pub but_none : (taken : Option (List ℕ)) (rest : List ℕ) → TookBut taken rest rest taken
but_none None rest = tt
but_none (Some t) rest = ([], ap Some (sym (append-nil t)), refl)

pub but_all : (before after : Option (List ℕ)) (piece : List ℕ) → TookAll before piece after → TookBut before piece [] after
but_all None after piece all = tt
but_all (Some t) after piece all = (piece, all, sym (append-nil piece))

pub all_but : (before after : Option (List ℕ)) (piece : List ℕ) → TookBut before piece [] after → TookAll before piece after
all_but None after piece but = tt
all_but (Some t) after piece but = but.1 ∙ ap (λ (p : List ℕ). Some (t ++ p)) (sym (but.2 ∙ append-nil but.0))

-- of what waited and then came, all but the rest was taken
pub but_then : (a b c : Option (List ℕ)) (x r y s : List ℕ) → TookBut a x r b → TookBut b (r ++ y) s c → TookBut a (x ++ y) s c
but_then None b c x r y s p q = tt
but_then (Some t) b c x r y s p q =
    let On : Option (List ℕ) → Type 0 = λ o. TookBut o (r ++ y) s c in
    let n = subst On p.1 q in (
      p.0 ++ n.0,
      n.1 ∙ ap Some (append_assoc t p.0 n.0),
      ap (λ (xs : List ℕ). xs ++ y) p.2 ∙ append_assoc p.0 r y ∙ ap (λ (xs : List ℕ). p.0 ++ xs) n.2 ∙ sym (append_assoc p.0 n.0 s),
    )

-- a failure behind some of it
pub prefix_then : (a b c : Option (List ℕ)) (x r y : List ℕ) → TookBut a x r b → TookPrefix b (r ++ y) c → TookPrefix a (x ++ y) c
prefix_then None b c x r y p q = tt
prefix_then (Some t) b c x r y p q =
    let On : Option (List ℕ) → Type 0 = λ o. TookPrefix o (r ++ y) c in
    let n = subst On p.1 q in (
      p.0 ++ n.0,
      n.1,
      ap (λ (xs : List ℕ). xs ++ y) p.2 ∙ append_assoc p.0 r y ∙ ap (λ (xs : List ℕ). p.0 ++ xs) n.2 ∙ sym (append_assoc p.0 n.0 n.1),
      n.3 ∙ ap Some (append_assoc t p.0 n.0),
    )

-- a prefix of a piece is one of a longer piece
pub prefix_longer : (before after : Option (List ℕ)) (x y : List ℕ) → TookPrefix before x after → TookPrefix before (x ++ y) after
prefix_longer None after x y p = tt
prefix_longer (Some t) after x y p = (p.0, p.1 ++ y, ap (λ (xs : List ℕ). xs ++ y) p.2 ∙ append_assoc p.0 p.1 y, p.3)

-- what was taken but for a rest is a prefix
pub but_prefix : (before after : Option (List ℕ)) (piece rest : List ℕ) → TookBut before piece rest after → TookPrefix before piece after
but_prefix None after piece rest p = tt
but_prefix (Some t) after piece rest p = (p.0, rest, p.2, p.1)

-- one put of a whole piece, from its parts
pub puts_whole : {S T E : Type 0} (taken : S → Option (List ℕ)) (faults : S → ℕ) (old new : S) (piece : List ℕ) (result : Result T E)
    → OnOk result (TookAll (taken old) piece (taken new)) → OnErr result (TookPrefix (taken old) piece (taken new))
    → OnErr result (HasRisen (faults old) (faults new)) → faults old ≤ faults new → is_some (taken new) ≡ is_some (taken old)
    → Puts taken faults old new piece [] result
puts_whole taken faults old new piece (Ok t) all prefix rose counts tells =
    record { ok = but_all (taken old) (taken new) piece all; failed = tt; rose = tt; counts = counts; tells = tells }
puts_whole taken faults old new piece (Err e) all prefix rose counts tells =
    record { ok = tt; failed = prefix; rose = rose; counts = counts; tells = tells }

-- nothing was put, and all of it waits
pub puts_none : {S T E : Type 0} (taken : S → Option (List ℕ)) (faults : S → ℕ) (sink : S) (rest : List ℕ) (answer : T) → Puts {E = E} taken faults sink sink rest rest (Ok answer)
puts_none taken faults sink rest answer =
    record { ok = but_none (taken sink) rest; failed = tt; rose = tt; counts = omega arith; tells = refl }

-- what waited and then came, put behind what was put
pub puts_then : {S T U D E : Type 0} (taken : S → Option (List ℕ)) (faults : S → ℕ) (a b c : S) (x r y s : List ℕ) (answer : T) (result : Result U E)
    → Puts {E = D} taken faults a b x r (Ok answer) → Puts taken faults b c (r ++ y) s result → Puts taken faults a c (x ++ y) s result
puts_then taken faults a b c x r y s answer (Ok done) p q =
    record { ok = but_then (taken a) (taken b) (taken c) x r y s p.ok q.ok; failed = tt; rose = tt; counts = (let low = p.counts in let high = q.counts in omega arith); tells = q.tells ∙ p.tells }
puts_then taken faults a b c x r y s answer (Err e) p q =
    record {
      ok = tt;
      failed = prefix_then (taken a) (taken b) (taken c) x r y p.ok q.failed;
      rose = rose_since (faults a) (faults b) (faults c) p.counts q.rose;
      counts = (let low = p.counts in let high = q.counts in omega arith);
      tells = q.tells ∙ p.tells;
    }

-- where more was to come, a failure is one of the whole
pub puts_failed : {S T U D E : Type 0} (taken : S → Option (List ℕ)) (faults : S → ℕ) (old new : S) (x r y s : List ℕ) (cause : D) (e : E)
    → Puts {T = T} taken faults old new x r (Err cause) → Puts {T = U} taken faults old new (x ++ y) s (Err e)
puts_failed taken faults old new x r y s cause e p =
    record { ok = tt; failed = prefix_longer (taken old) (taken new) x y p.failed; rose = p.rose; counts = p.counts; tells = p.tells }

-- what came waits behind what waited
pub puts_wait : {S T U D E : Type 0} (taken : S → Option (List ℕ)) (faults : S → ℕ) (old new : S) (x r y : List ℕ) (answer : T) (done : U)
    → Puts {E = D} taken faults old new x r (Ok answer) → Puts {E = E} taken faults old new (x ++ y) (r ++ y) (Ok done)
puts_wait taken faults old new x r y answer done p =
    record { ok = but_then (taken old) (taken new) (taken new) x r y (r ++ y) p.ok (but_none (taken new) (r ++ y)); failed = tt; rose = tt; counts = p.counts; tells = p.tells }

-- where nothing waits, all was taken
pub puts_all : {S T E : Type 0} (taken : S → Option (List ℕ)) (faults : S → ℕ) (old new : S) (piece : List ℕ) (answer : T)
    → Puts {E = E} taken faults old new piece [] (Ok answer) → TookAll (taken old) piece (taken new)
puts_all taken faults old new piece answer p = all_but (taken old) (taken new) piece p.ok
