-- What an answer says, once it is known which one it is.
use Rattle.std.proofs.Common.{◌≡◌, Option, Some, Result, Ok, IfOk, subst}
use Rattle.std.specs.Prelude.{IfSome, IfNone}

pub when_some : {A E : Type 0} (r : Result (Option A) E) (o : Option A) (a : A) (P : A → Type 0) (Q : Type 0) → r ≡ Ok o → o ≡ Some a
    → IfOk r (λ o. IfSome o P × IfNone o Q) → P a
when_some {A} {E} r o a P Q is some h =
    let All : Result (Option A) E → Type 0 = λ r. IfOk r (λ o. IfSome o P × IfNone o Q) in
    let Each : Option A → Type 0 = λ o. IfSome o P × IfNone o Q in
    (subst Each some (subst All is h)).0
