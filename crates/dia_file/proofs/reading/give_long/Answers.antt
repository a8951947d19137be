use Rattle.std.proofs.Common.{◌≡◌, ◌+◌, ◌-◌, List, ℕ, subst, ◌∙◌, arith}
use Rattle.dia_item.specs.KindList.{kind_list}
use Rattle.dia_item.specs.Lent.{row_in_ref}
use Rattle.dia_file.specs.Encoding.{ReadsLong}
use Rattle.dia_file.proofs.RowBytes.{found_long, none_held}
use Rattle.dia_item.proofs.RowLemmas.{kinds_are}
use Rattle.dia_file.proofs.reading.give_long.Goals as goal

pub returns-clause-are : goal.returns-clause-are
returns-clause-are c = kinds_are _ _ _ c.in-Some.ensures.found

pub returns-clause-reads : goal.returns-clause-reads
returns-clause-reads c =
    let P : List ℕ → Type 0 = λ xs. ReadsLong (kind_list c.args.kinds.now) xs (row_in_ref c.in-Some.row) (c.in-Some.n - c.args.kept.now + c.args.kept.now) in
    let Q : ℕ → Type 0 = λ n. ReadsLong (kind_list c.args.kinds.now) c.as_slice.result.now (row_in_ref c.in-Some.row) n in
    let same : c.in-Some.n ≡ c.in-Some.n - c.args.kept.now + c.args.kept.now = omega arith in
    subst P c.as_slice.ensures.value (subst Q same (found_long _ _ _ _ c.in-Some.ensures.len c.in-Some.ensures.found))

pub returns-in_default-clause-none : goal.returns-in_default-clause-none
returns-in_default-clause-none c = λ r rest is e over.
    none_held _ _ c.in_default.ensures.none r rest is (c.as_slice.ensures.value ∙ e)

pub returns-then-n-before-clause-none : goal.returns-then-n-before-clause-none
returns-then-n-before-clause-none c = λ r rest is e over.
    let long = found_long (kind_list c.args.kinds.now) c.as_slice.result.now (row_in_ref c.in-Some.row) c.in-Some.n c.in-Some.ensures.len c.in-Some.ensures.found in
    let same = long.reads r rest is (c.as_slice.ensures.value ∙ e) in
    omega (arith, same.1, over, c.if-n-before.true)
