-- Lists side by side.
use Rattle.std.proofs.Common.{◌≡◌, List, [], ◌∷◌, length, suc, arith}
use Rattle.std.specs.Prelude.{All}
use Rattle.std.specs.List.{AllZip}

pub zip_weaken : {A B : Type 0} (P Q : A → B → Type 0) → ((x : A) (y : B) → P x y → Q x y) → (xs : List A) (ys : List B) → AllZip P xs ys → AllZip Q xs ys
zip_weaken P Q f [] [] h = tt
zip_weaken P Q f [] (y ∷ ys) h = absurd h
zip_weaken P Q f (x ∷ xs) [] h = absurd h
zip_weaken P Q f (x ∷ xs) (y ∷ ys) h = (f x y h.0, zip_weaken P Q f xs ys h.1)

-- what holds of each element of the second list
pub zip_each : {A B : Type 0} (P : B → Type 0) (xs : List A) (ys : List B) → length xs ≡ length ys → All P ys → AllZip (λ x y. P y) xs ys
zip_each P [] [] long each = tt
zip_each P [] (y ∷ ys) long each = absurd (omega (arith, long))
zip_each P (x ∷ xs) [] long each = absurd (omega (arith, long))
zip_each P (x ∷ xs) (y ∷ ys) long each =
    (each 0 y (omega arith), zip_each P xs ys (omega (arith, long)) (λ k d below. each (suc k) d (omega (arith, below))))
