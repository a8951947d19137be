-- Facts on results.
use Rattle.std.proofs.Common.{◌≡◌, Result, Ok, Err, IfOk, OnOk, OnErr, IfErr, IsErrAnd, subst, sym}

pub IfErr-map : {T E : Type 0} (r : Result T E) (P Q : E → Type 0) → ((e : E) → P e → Q e) → IfErr r P → IfErr r Q
IfErr-map (Ok t) P Q f p = p
IfErr-map (Err e) P Q f p = f e p

pub IfOk-map : {T E : Type 0} (r : Result T E) (P Q : T → Type 0) → ((t : T) → P t → Q t) → IfOk r P → IfOk r Q
IfOk-map (Ok t) P Q f p = f t p
IfOk-map (Err e) P Q f p = p

pub OnOk-map : {T E : Type 0} (r : Result T E) (P Q : Type 0) → (P → Q) → OnOk r P → OnOk r Q
OnOk-map (Ok t) P Q f p = f p
OnOk-map (Err e) P Q f p = p

-- what follows from either answer
pub on_each : {T E : Type 0} (r : Result T E) (A B P : Type 0) → (A → P) → (B → P) → OnOk r A → OnErr r B → P
on_each (Ok t) A B P f g a b = f a
on_each (Err e) A B P f g a b = g b

pub IfOk-with : {T E : Type 0} (r : Result T E) (P Q : T → Type 0) (A : Type 0) → ((t : T) → P t → A → Q t) → IfOk r P → OnOk r A → IfOk r Q
IfOk-with (Ok t) P Q A f p a = f t p a
IfOk-with (Err e) P Q A f p a = p

-- the error is this one
pub err_is : {T E : Type 0} (Q : E → Type 0) (r : Result T E) (f : E) → IsErrAnd r (λ e. e ≡ f) → Q f → IfErr r Q
err_is Q (Ok x) f is q = tt
err_is Q (Err e) f is q = subst Q (sym is) q
