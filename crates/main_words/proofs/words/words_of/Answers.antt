use Rattle.std.proofs.Common.{ℕ, List, Vec, sym, ◌∙◌, subst, arith}
use Rattle.std.proofs.lemmas.List.{take_all, length-map}
use Rattle.std.proofs.lemmas.List.Elements.{All-push}
use Rattle.std.specs.declared.alloc.Global.{Global}
use Rattle.std.specs.Prelude.{All, IsUtf8}
use Rattle.main_words.specs.Arguments.{arguments}
use Rattle.main_words.proofs.WordLemmas.{words_more}
use Rattle.main_words.proofs.words.words_of.Goals as goal

pub loop-arg-preserved : goal.loop-arg-preserved
loop-arg-preserved c =
    let items = c.in_ok-push.ensures.items in
    let word = c.in_ok-word_of.field-0 in
    let same = c.in_ok-word_of.ensures.word ∙ c.deref.ensures.value in
    let Text : List ℕ → Type 0 = IsUtf8 in
    let AllText : List (List ℕ) → Type 0 = All IsUtf8 in
    let text = subst Text (sym c.in_ok-word_of.ensures.word) c.in_ok-word_of.ensures.text in (
      items ∙ words_more c.args.args.now c.loop-arg.arg-index c.arg-item.result c.loop-arg.words.items word c.loop-arg-test.true c.arg-item.is c.loop-arg.invariant.0 same,
      subst AllText (sym items) (All-push IsUtf8 c.loop-arg.words.items word c.loop-arg.invariant.1 text),
    )

pub returns-clause-texts : goal.returns-clause-texts
returns-clause-texts c =
    let AllText : List (List ℕ) → Type 0 = All IsUtf8 in
    let as_many = length-map c.args.args.now (λ (arg : Vec ℕ Global). arg.items) in
    let all = take_all c.loop-arg.arg-index (arguments c.args.args.now) (omega arith) in
    subst AllText (c.loop-arg.invariant.0 ∙ all) c.loop-arg.invariant.1
