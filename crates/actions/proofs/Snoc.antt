-- Lists that grow side by side, at their ends.
use Rattle.std.proofs.Common.{◌≡◌, ℕ, zero, suc, List, [], ◌∷◌, ◌++◌, length, Some, refl}
use Rattle.std.specs.Prelude.{All, slice_get}
use Rattle.std.specs.List.{AllZip}
use Rattle.std.proofs.lemmas.List.Elements.{All-nil, All-cons, All-head, All-tail}

pub zip_less : {A B : Type 0} (R : A → B → Type 0) (xs : List A) (ys : List B) (x : A) (y : B) → AllZip R (xs ++ x ∷ []) (ys ++ y ∷ []) → AllZip R xs ys × R x y
zip_less R [] [] x y all = (tt, all.0)
zip_less R [] (b ∷ []) x y all = absurd all.1
zip_less R [] (b ∷ c ∷ ys) x y all = absurd all.1
zip_less R (a ∷ []) [] x y all = absurd all.1
zip_less R (a ∷ c ∷ xs) [] x y all = absurd all.1
zip_less R (a ∷ xs) (b ∷ ys) x y all = let rest = zip_less R xs ys x y all.1 in ((all.0, rest.0), rest.1)

pub all_less : {A : Type 0} (P : A → Type 0) (xs : List A) (x : A) → All P (xs ++ x ∷ []) → All P xs × P x
all_less P [] x all = (All-nil P, All-head P x [] all)
all_less P (a ∷ xs) x all =
    let rest = all_less P xs x (All-tail P a (xs ++ x ∷ []) all) in
    (All-cons P a xs (All-head P a (xs ++ x ∷ []) all) rest.0, rest.1)

pub get_more : {A : Type 0} (xs ys : List A) (k : ℕ) (x : A) → slice_get xs k ≡ Some x → slice_get (xs ++ ys) k ≡ Some x
get_more [] ys k x at = cc
get_more (a ∷ xs) ys zero x at = at
get_more (a ∷ xs) ys (suc k) x at = get_more xs ys k x at

pub get_end : {A : Type 0} (xs : List A) (x : A) → slice_get (xs ++ x ∷ []) (length xs) ≡ Some x
get_end [] x = refl
get_end (a ∷ xs) x = get_end xs x
