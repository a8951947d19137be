-- What goes through a buffer, one piece after the other.
use Rattle.std.proofs.Common.{ℕ, List, ◌++◌, Option, Result, Ok, Err, subst, append_assoc}
use Rattle.dia_edge.specs.Sinks.{Puts}
use Rattle.dia_edge.proofs.SinkLemmas.{puts_then, puts_failed}

-- behind what waited a piece came, and then another one
pub puts_more : {S T U D E : Type 0} (taken : S → Option (List ℕ)) (faults : S → ℕ) (a b c : S) (w v u x y : List ℕ) (answer : T) (result : Result U E)
    → Puts {E = D} taken faults a b (w ++ x) v (Ok answer) → Puts taken faults b c (v ++ y) u result → Puts taken faults a c (w ++ (x ++ y)) u result
puts_more taken faults a b c w v u x y answer result p q =
    let Put : List ℕ → Type 0 = λ xs. Puts taken faults a c xs u result in
    subst Put (append_assoc w x y) (puts_then taken faults a b c (w ++ x) v y u answer result p q)

-- or that one failed, and the other one didn't come
pub puts_less : {S T U D E : Type 0} (taken : S → Option (List ℕ)) (faults : S → ℕ) (old new : S) (w v u x y : List ℕ) (cause : D) (e : E)
    → Puts {T = T} taken faults old new (w ++ x) v (Err cause) → Puts {T = U} taken faults old new (w ++ (x ++ y)) u (Err e)
puts_less {T = T} {U = U} taken faults old new w v u x y cause e p =
    let Put : List ℕ → Type 0 = λ xs. Puts {T = U} taken faults old new xs u (Err e) in
    subst Put (append_assoc w x y) (puts_failed {T = T} taken faults old new (w ++ x) v y u cause e p)
