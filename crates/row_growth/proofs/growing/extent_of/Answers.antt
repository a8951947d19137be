use Rattle.std.proofs.Common.{arith, length, List, replicate, subst, ◌≡◌, ◌∙◌, ◌*◌, ◌-◌, ◌^◌, min, true, sym, ap, ℕ}
use Rattle.row_defs.specs.Limits.{most_columns}
use Rattle.row_defs.specs.LocalOps.{LocalOp}
use Rattle.lop_chain.specs.Ops.{ops_in}
use Rattle.row_growth.specs.Growth.{most_words, growth, words_within, are_even}
use Rattle.row_growth.specs.declared.growing.Extent.TheVariants.{Exactly, AtMost}
use Rattle.row_growth.proofs.GrowthLemmas.{still, few_made, many_made}
use Rattle.row_growth.proofs.growing.extent_of.Goals as goal

-- what the lines make of one row of such texts
grown : (longest words made : ℕ) (ops : List LocalOp) → words ≡ most_words longest → made ≡ min (growth (replicate most_columns words) ops) (2 ^ 64 - 1)
    → made ≡ min (growth (words_within longest) ops) (2 ^ 64 - 1)
grown longest words made ops is same = let Made : ℕ → Type 0 = λ n. made ≡ min (growth (replicate most_columns n) ops) (2 ^ 64 - 1) in subst Made is same

pub returns-then-are_even-clause-value : goal.returns-then-are_even-clause-value
returns-then-are_even-clause-value c =
    let even : are_even (ops_in c.args.ops.now) ≡ true = sym c.are_even.ensures ∙ c.if-are_even.true in
    let same = c.saturating_mul-made.ensures ∙ still c.args.rows (growth (words_within c.args.longest) (ops_in c.args.ops.now)) c.args.rows c.growth.result (omega arith) (grown c.args.longest c.most_words.result c.growth.result (ops_in c.args.ops.now) c.most_words.ensures c.growth.ensures) in
    rw even (ap Exactly same)

pub returns-else-are_even-clause-value : goal.returns-else-are_even-clause-value
returns-else-are_even-clause-value c =
    let odd = sym c.are_even.ensures ∙ c.if-are_even.false in
    let same = c.saturating_mul-made.ensures ∙ still c.args.rows (growth (words_within c.args.longest) (ops_in c.args.ops.now)) c.args.rows c.growth.result (omega arith) (grown c.args.longest c.most_words.result c.growth.result (ops_in c.args.ops.now) c.most_words.ensures c.growth.ensures) in
    rw odd (ap AtMost same)

pub returns-then-are_even-clause-tells : goal.returns-then-are_even-clause-tells
returns-then-are_even-clause-tells c = λ all count short.
    let ops = ops_in c.args.ops.now in
    let even : are_even ops ≡ true = sym c.are_even.ensures ∙ c.if-are_even.true in
    c.saturating_mul-made.ensures
    ∙ still (length all) (growth (words_within c.args.longest) ops) c.args.rows c.growth.result (sym count) (grown c.args.longest c.most_words.result c.growth.result (ops_in c.args.ops.now) c.most_words.ensures c.growth.ensures)
    ∙ ap (λ (n : ℕ). min n (2 ^ 64 - 1)) (sym (many_made ops (words_within c.args.longest) all even))

pub returns-else-are_even-clause-tells : goal.returns-else-are_even-clause-tells
returns-else-are_even-clause-tells c = λ all count short small.
    let g = growth (words_within c.args.longest) (ops_in c.args.ops.now) in
    let value : c.saturating_mul-made.result ≡ min (length all * g) (2 ^ 64 - 1) =
    c.saturating_mul-made.ensures ∙ still (length all) g c.args.rows c.growth.result (sym count) (grown c.args.longest c.most_words.result c.growth.result (ops_in c.args.ops.now) c.most_words.ensures c.growth.ensures) in
    omega (arith, small, value, few_made (ops_in c.args.ops.now) c.args.longest all short (omega (arith, small, value)))
