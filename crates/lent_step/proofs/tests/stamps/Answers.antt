use Rattle.std.proofs.Common.{rules, ◌≡◌, List, [], ◌∷◌, length, arith}
use Rattle.std.specs.List.{AllZip}
use Rattle.std.specs.Prelude.{⊤}
use Rattle.lent_step.proofs.tests.stamps.Goals as goal

-- what always holds
any_zip : {A B : Type 0} (xs : List A) (ys : List B) → length xs ≡ length ys → AllZip (λ x y. ⊤) xs ys
any_zip [] [] long = tt
any_zip [] (y ∷ ys) long = absurd (omega (arith, long))
any_zip (x ∷ xs) [] long = absurd (omega (arith, long))
any_zip (x ∷ xs) (y ∷ ys) long = (tt, any_zip xs ys (omega (arith, long)))

pub run_lent-requires-clause-ready : goal.run_lent-requires-clause-ready
run_lent-requires-clause-ready g c =
    λ κs lives. any_zip c.in_ok-works.works.items c.in_ok-desks.desks.items (search rules)
