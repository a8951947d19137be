-- As many results as items, where each item has one.
use Rattle.std.proofs.Common.{◌≡◌, suc, false, List, [], ◌∷◌, length, Option, None, Some, is_none, refl, ap, ◌∙◌}
use Rattle.std.specs.List.{list_any, filter_map, cons_option}
use Rattle.std.proofs.lemmas.Bool.{or_parts, true≢false}

length-cons_option : {B : Type 0} (o : Option B) (ys : List B) → is_none o ≡ false → length (cons_option o ys) ≡ suc (length ys)
length-cons_option None ys has = absurd (true≢false has)
length-cons_option (Some y) ys has = refl

pub length-filter_map : {A B : Type 0} (f : A → Option B) (xs : List A) → list_any (λ x. is_none (f x)) xs ≡ false
    → length (filter_map f xs) ≡ length xs
length-filter_map f [] all = refl
length-filter_map f (x ∷ xs) all =
    let parts = or_parts (is_none (f x)) (list_any (λ y. is_none (f y)) xs) all in
    length-cons_option (f x) (filter_map f xs) parts.0 ∙ ap suc (length-filter_map f xs parts.1)
