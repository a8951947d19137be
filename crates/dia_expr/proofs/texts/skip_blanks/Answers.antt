use Rattle.std.proofs.Common.{rules, ◌≡◌, ◌∙◌, sym, ap, true, List, ℕ, arith}
use Rattle.row_defs.specs.Texts.{is_blank, words_in_text}
use Rattle.dia_expr.proofs.WordLemmas.{words_blank}
use Rattle.dia_expr.proofs.texts.skip_blanks.Goals as goal

pub loop-b-preserved : goal.loop-b-preserved
loop-b-preserved c =
    let blank : is_blank c.in-Some.b.now ≡ true = search rules in
    record {
      words = sym (words_blank c.in-Some.b.now c.in-Some.more.now blank) ∙ ap (λ (xs : List ℕ). words_in_text xs) (sym c.in-Some.ensures.cases.0) ∙ c.loop-b.invariant.words;
      len = omega (arith, c.in-Some.ensures.cases.1, c.loop-b.invariant.len);
    }
