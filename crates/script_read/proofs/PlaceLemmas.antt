-- Words from a place on, and at most so many of them.
use Rattle.std.proofs.Common.{◌≡◌, ℕ, ◌-◌, ◌≤◌, List, [], length, take, drop, map, sym, ap, ◌∙◌, subst, arith, ◌++◌, append-nil}
use Rattle.std.proofs.Math.Seq.{take-length}
use Rattle.std.proofs.Math.ListN.{drop_of_length-le}
use Rattle.std.proofs.lemmas.List.{length-drop, length-map, drop-map, take-map, take-append-drop}

pub rest_from : {A B : Type 0} (f : A → B) (n : ℕ) (xs : List A) → map f (take (length xs - n) (drop n xs)) ≡ drop n (map f xs)
rest_from f n xs =
    let Whole : ℕ → Type 0 = λ k. take k (drop n xs) ≡ drop n xs in
    ap (map f) (subst Whole (length-drop n xs) (take-length (drop n xs))) ∙ sym (drop-map f n xs)

pub none_from : {A B : Type 0} (f : A → B) (n : ℕ) (xs : List A) → length xs ≤ n → [] ≡ drop n (map f xs)
none_from f n xs long = let same = length-map xs f in sym (drop_of_length-le (map f xs) (omega arith))

pub all_first : {A B : Type 0} (f : A → B) (n : ℕ) (xs : List A) → length xs ≤ n → map f xs ≡ take n (map f xs)
all_first f n xs long =
    let same = length-map xs f in
    let none = drop_of_length-le (map f xs) {i = n} (omega arith) in
    sym (take-append-drop n (map f xs)) ∙ ap (λ zs. take n (map f xs) ++ zs) none ∙ append-nil (take n (map f xs))

pub first_of : {A B : Type 0} (f : A → B) (n : ℕ) (xs : List A) → map f (take n xs) ≡ take n (map f xs)
first_of f n xs = sym (take-map f n xs)
