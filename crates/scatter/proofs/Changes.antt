-- Lines that change in a map.
use Rattle.std.proofs.Common.{◌≡◌, ℕ, zero, suc, ◌<◌, true, false, cond, List, [], ◌∷◌, map, length, Option, None, Some, IsSome, ◌⊎◌, inl, inr, refl, sym, ap, ◌∙◌, subst, arith}
use Rattle.std.specs.Prelude.{slice_get}
use Rattle.std.specs.Option.{option_map}
use Rattle.std.specs.Ordering.{nat_cmp, is_eq, is_gt, is_lt}
use Rattle.std.specs.declared.cmp.Ordering.{Ordering}
use Rattle.std.specs.declared.cmp.Ordering.TheVariants.{Less, Equal, Greater}
use Rattle.std.specs.Map.{lookup}
use Rattle.std.specs.BTreeMap.{BTreeMap, get, is_at, Updates}
use Rattle.std.proofs.lemmas.Map.Keys.{le_from_not_gt, ge_from_not_lt}
use Rattle.std.proofs.lemmas.Bool.{true≢false}
use Rattle.scatter.specs.declared.line.Line.{Line}
use Rattle.scatter.specs.Lines.{LineValue, line_value, Lines, lines_among, lines_in, Sets}

order_splits : (o : Ordering) → is_eq o ≡ true → (is_gt o ≡ false) × (is_lt o ≡ false)
order_splits Less is = absurd (true≢false (sym is))
order_splits Equal is = (refl, refl)
order_splits Greater is = absurd (true≢false (sym is))

same_number : (n m : ℕ) → is_eq (nat_cmp n m) ≡ true → m ≡ n
same_number n m is =
    let parts = order_splits (nat_cmp n m) is in
    let low = le_from_not_gt n m parts.0 in
    let high = ge_from_not_lt n m parts.1 in
    omega arith

-- a line is seen as it stands in the map
pub seen : (n : ℕ) (es : List (ℕ × Line)) → lines_among (map (λ (e : ℕ × Line). (e.0, line_value e.1)) es) n ≡ option_map line_value (lookup (is_at (nat_cmp n)) es)
seen n [] = refl
seen n (e ∷ es) =
    let rest : Option LineValue = lines_among (map (λ (e : ℕ × Line). (e.0, line_value e.1)) es) n in
    let here : Option Line = lookup (is_at (nat_cmp n)) es in
    let same : rest ≡ option_map line_value here = seen n es in
    elim (is_at (nat_cmp n) e.0) as (λ b. cond b (Some (line_value e.1)) rest ≡ option_map line_value (cond b (Some e.1) here)) [ true ↦ refl | false ↦ same ]

pub seen_in : (lines : BTreeMap ℕ Line) (n : ℕ) → lines_in lines n ≡ option_map line_value (get nat_cmp lines n)
seen_in lines n = seen n lines.entries

-- what changes in the map changes of the lines
pub sets : (old new : BTreeMap ℕ Line) (n : ℕ) (w : Option Line) → Updates nat_cmp old new n w → Sets (lines_in old) n (option_map line_value w) (lines_in new)
sets old new n w u = record {
  here = seen_in new n ∙ ap (option_map line_value) u.1;
  others = λ m.
      elim (is_eq (nat_cmp n m)) as (λ t. is_eq (nat_cmp n m) ≡ t → get nat_cmp new m ≡ cond t w (get nat_cmp old m) → (m ≡ n) ⊎ (lines_in new m ≡ lines_in old m)) [
        | true ↦ λ same is. inl (same_number n m same)
        | false ↦ λ other is. inr (seen_in new m ∙ ap (option_map line_value) is ∙ sym (seen_in old m))
      ] refl (u.0 m);
}

-- a line that is there is in the map ..
pub is_there : (lines : BTreeMap ℕ Line) (n : ℕ) → IsSome (lines_in lines n) → get nat_cmp lines n ≡ None → ⊥
is_there lines n some gone =
    let P : Option LineValue → Type 0 = λ o. IsSome o in
    let none : P None = subst P (seen_in lines n ∙ ap (option_map line_value) gone) some in
    cc

-- .. as it is seen
pub is_seen : (lines : BTreeMap ℕ Line) (n : ℕ) (line : Line) (value : LineValue) → get nat_cmp lines n ≡ Some line → lines_in lines n ≡ Some value → line_value line ≡ value
is_seen lines n line value here there =
    let both : Some (line_value line) ≡ Some value = sym (seen_in lines n ∙ ap (option_map line_value) here) ∙ there in
    cc

-- a line that is written to
pub written : (old new : BTreeMap ℕ Line) (n : ℕ) (line now : Line) → get nat_cmp old n ≡ Some line → (IsSome (get nat_cmp old n) → Updates nat_cmp old new n (Some now)) → Sets (lines_in old) n (Some (line_value now)) (lines_in new)
written old new n line now here updates =
    let P : Option Line → Type 0 = λ o. IsSome o in
    let one : IsSome (Some line) = refl in
    sets old new n (Some now) (updates (subst P (sym here) one))

pub within : {A : Type 0} (xs : List A) (k : ℕ) (x : A) → slice_get xs k ≡ Some x → k < length xs
within [] k x at = cc
within (y ∷ xs) zero x at = omega arith
within (y ∷ xs) (suc k) x at = let rest = within xs k x at in omega (arith, rest)

-- lines that are as they were keep what holds of them
pub same_lines : (P : Lines → Type 0) (old new : BTreeMap ℕ Line) → new.entries ≡ old.entries → P (lines_in old) → P (lines_in new)
same_lines P old new same p =
    let Q : List (ℕ × Line) → Type 0 = λ es. P (lines_among (map (λ (e : ℕ × Line). (e.0, line_value e.1)) es)) in
    subst Q (sym same) p
