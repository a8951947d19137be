-- Lists that grow side by side.
use Rattle.std.proofs.Common.{◌≡◌, ℕ, ◌+◌, ◌<◌, suc, zero, List, [], ◌∷◌, ◌++◌, length, get_or, take, drop, ap, sym, ◌∙◌, arith, length-append, append_assoc}
use Rattle.std.specs.List.{AllZip}
use Rattle.std.proofs.lemmas.List.{take_more}
use Rattle.lent_step.specs.Lending.{AreHeld}
use Rattle.lent_step.specs.declared.held.Held.{Held}

pub zip_more : {A B : Type 0} (R : A → B → Type 0) (xs : List A) (ys : List B) (x : A) (y : B) → AllZip R xs ys → R x y → AllZip R (xs ++ x ∷ []) (ys ++ y ∷ [])
zip_more R [] [] x y h r = (r, tt)
zip_more R [] (b ∷ ys) x y h r = absurd h
zip_more R (a ∷ xs) [] x y h r = absurd h
zip_more R (a ∷ xs) (b ∷ ys) x y h r = (h.0, zip_more R xs ys x y h.1 r)

-- one more of both lists, the second of which is there as a whole
pub zip_next : {A B : Type 0} (R : A → B → Type 0) (xs : List A) (ys : List B) (i : ℕ) (x : A) (y : B) → i < length ys → y ≡ get_or ys i y → AllZip R xs (take i ys) → R x y
    → AllZip R (xs ++ x ∷ []) (take (i + 1) ys)
zip_next R xs ys i x y below is h r =
    let one : take (i + 1) ys ≡ take i ys ++ y ∷ [] = take_more ys i y below ∙ ap (λ z. take i ys ++ z ∷ []) (sym is) in
    rw one (zip_more R xs (take i ys) x y h r)

pub held_more : {H W : Type 0} (ts : List (Held H W)) (ds : List H) (ws : List W) (t : Held H W) (d : H) (w : W) → AreHeld ts ds ws → t.desk ≡ d → t.work ≡ w → t.began.value ≡ d
    → AreHeld (ts ++ t ∷ []) (ds ++ d ∷ []) (ws ++ w ∷ [])
held_more [] [] [] t d w h p q r = (p, q, r, tt)
held_more [] [] (y ∷ ws) t d w h p q r = absurd h
held_more [] (x ∷ ds) ws t d w h p q r = absurd h
held_more (s ∷ ts) [] ws t d w h p q r = absurd h
held_more (s ∷ ts) (x ∷ ds) [] t d w h p q r = absurd h
held_more (s ∷ ts) (x ∷ ds) (y ∷ ws) t d w h p q r = (h.0, h.1, h.2, held_more ts ds ws t d w h.3 p q r)

-- the next element of those that are left
pub take_next : {A : Type 0} (n : ℕ) (xs : List A) (x : A) (rest : List A) → drop n xs ≡ x ∷ rest → take (suc n) xs ≡ take n xs ++ x ∷ []
take_next zero [] x rest is = cc
take_next zero (y ∷ xs) x rest is = let e : y ≡ x = cc in ap (λ z. z ∷ []) e
take_next (suc n) [] x rest is = cc
take_next (suc n) (y ∷ xs) x rest is = ap (λ zs. y ∷ zs) (take_next n xs x rest is)

pub drop_next : {A : Type 0} (n : ℕ) (xs : List A) (x : A) (rest : List A) → drop n xs ≡ x ∷ rest → rest ≡ drop (suc n) xs
drop_next zero [] x rest is = cc
drop_next zero (y ∷ xs) x rest is = cc
drop_next (suc n) [] x rest is = cc
drop_next (suc n) (y ∷ xs) x rest is = drop_next n xs x rest is

pub one_longer : {A : Type 0} (xs : List A) (x : A) → length (xs ++ x ∷ []) ≡ suc (length xs)
one_longer xs x = omega (arith, length-append xs (x ∷ []))

-- one more item of those that an iterator gives
pub yield_more : {A : Type 0} (seen before after all : List A) (x : A) → before ≡ x ∷ after → seen ++ before ≡ all → (seen ++ x ∷ []) ++ after ≡ all
yield_more seen before after all x is parts = append_assoc seen (x ∷ []) after ∙ ap (λ r. seen ++ r) (sym is) ∙ parts
