-- Lists that grow side by side.
use Rattle.std.proofs.Common.{◌≡◌, suc, List, [], ◌∷◌, ◌++◌, length, map, refl, ap, sym, ◌∙◌}
use Rattle.std.proofs.lemmas.List.{map-append}
use Rattle.std.specs.List.{AllZip}
use Rattle.lent_step.specs.Lending.{AllRan}
use Rattle.scatter.specs.Phases.{AllThree}

pub three_more : {A B C : Type 0} (R : A → B → C → Type 0) (xs : List A) (ys : List B) (zs : List C) (x : A) (y : B) (z : C) → AllThree R xs ys zs → R x y z
    → AllThree R (xs ++ x ∷ []) (ys ++ y ∷ []) (zs ++ z ∷ [])
three_more R [] [] [] x y z h r = (r, tt)
three_more R (a ∷ xs) (b ∷ ys) (c ∷ zs) x y z h r = (h.0, three_more R xs ys zs x y z h.1 r)
three_more R _ _ _ x y z h r = absurd h

pub map_push : {A B : Type 0} (f : A → B) (xs : List A) (x : A) (ys : List B) → ys ≡ map f xs → ys ++ f x ∷ [] ≡ map f (xs ++ x ∷ [])
map_push f xs x ys is = ap (λ l. l ++ f x ∷ []) is ∙ sym (map-append f xs (x ∷ []))

pub three_long : {A B C : Type 0} (R : A → B → C → Type 0) (xs : List A) (ys : List B) (zs : List C) → AllThree R xs ys zs → (length ys ≡ length xs) × (length zs ≡ length xs)
three_long R [] [] [] h = (refl, refl)
three_long R (x ∷ xs) (y ∷ ys) (z ∷ zs) h = let rest = three_long R xs ys zs h.1 in (ap suc rest.0, ap suc rest.1)
three_long R _ _ _ h = absurd h

pub ran_long : {W H : Type 0} (R : W → H → W → H → Type 0) (ws : List W) (hs : List H) (vs : List W) (bs : List H) → AllRan R ws hs vs bs
    → (length vs ≡ length ws) × (length bs ≡ length ws) × (length hs ≡ length ws)
ran_long R [] [] [] [] h = (refl, refl, refl)
ran_long R (w ∷ ws) (a ∷ hs) (v ∷ vs) (b ∷ bs) h = let rest = ran_long R ws hs vs bs h.1 in (ap suc rest.0, ap suc rest.1, ap suc rest.2)
ran_long R _ _ _ _ h = absurd h

pub zip_long : {A B : Type 0} (R : A → B → Type 0) (xs : List A) (ys : List B) → AllZip R xs ys → length xs ≡ length ys
zip_long R [] [] h = refl
zip_long R [] (y ∷ ys) h = absurd h
zip_long R (x ∷ xs) [] h = absurd h
zip_long R (x ∷ xs) (y ∷ ys) h = ap suc (zip_long R xs ys h.1)
