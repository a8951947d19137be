use Rattle.std.proofs.Common.{◌∙◌, sym, ap, drop, suc, List, ℕ, get_or, drop-cons}
use Rattle.std.proofs.lemmas.List.{drop_all}
use Rattle.dia_expr.specs.Digits.{with_digits}
use Rattle.dia_expr.proofs.DigitLemmas.{digits-none, digits-end}
use Rattle.dia_expr.proofs.texts.number_spelled.Goals as goal

pub returns-in_err-n : goal.returns-in_err-n
returns-in_err-n c =
    c.from_residual.ensures
    ∙ sym (digits-none c.loop-b.n (get_or c.args.text.now c.loop-b.b-index 0) (drop (suc c.loop-b.b-index) c.args.text.now) (sym c.with_digit.ensures ∙ c.in_err-n.was))
    ∙ ap (λ (bytes : List ℕ). with_digits c.loop-b.n bytes) (sym (drop-cons c.args.text.now c.loop-b.b-index 0 c.loop-b-test.true))
    ∙ c.loop-b.invariant.is

pub returns : goal.returns
returns c =
    sym (digits-end c.loop-b.n c.loop-b.invariant.fits)
    ∙ ap (λ bytes. with_digits c.loop-b.n bytes) (sym (drop_all c.loop-b.b-index c.args.text.now c.loop-b-test.false))
    ∙ c.loop-b.invariant.is
