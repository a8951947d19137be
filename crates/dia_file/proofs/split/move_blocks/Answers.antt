use Rattle.std.proofs.Common.{◌≡◌, ◌+◌, ◌<◌, ◌≤◌, ◌^◌, ◌++◌, ◌∷◌, [], List, sym, ap, subst, ◌∙◌, append_assoc, rules, arith, nat_lt, true, false}
use Rattle.dia_file.specs.declared.sealed.Sealed.{Sealed}
use Rattle.dia_file.specs.Cuts.{ends_of, lens_of, IsWhole}
use Rattle.dia_file.proofs.CutLemmas.{ends-append, lens-append, whole-snoc, some_of, none_of}
use Rattle.dia_file.proofs.Splitting.{moved_due}
use Rattle.dia_file.proofs.split.move_blocks.Goals as goal

pub overflow_add-rows : goal.overflow_add-rows
overflow_add-rows c =
    let i = c.loop-bytes.invariant in
    let into : List Sealed = c.loop-bytes.into.items in
    let sum = ap ends_of (sym i.all) ∙ ends-append into c.loop-bytes.from.items ∙ ap (λ (xs : List Sealed). ends_of into + ends_of xs) c.in-Some.ensures.items in
    let less : c.loop-bytes.rows + c.in-Some.front.ends < 2 ^ 64 = omega (arith, sum, i.rows_are, c.requires.fits.0) in search rules

pub overflow_add-bytes : goal.overflow_add-bytes
overflow_add-bytes c =
    let i = c.loop-bytes.invariant in
    let into : List Sealed = c.loop-bytes.into.items in
    let sum = ap lens_of (sym i.all) ∙ lens-append into c.loop-bytes.from.items ∙ ap (λ (xs : List Sealed). lens_of into + lens_of xs) c.in-Some.ensures.items in
    let less : c.loop-bytes.bytes + c.in-Some.front.len < 2 ^ 64 = omega (arith, sum, i.bytes_are, c.requires.fits.1) in search rules

pub loop-bytes-preserved : goal.loop-bytes-preserved
loop-bytes-preserved c =
    let i = c.loop-bytes.invariant in
    let into : List Sealed = c.loop-bytes.into.items in
    let front : Sealed = c.in-Some.front in
    let items = c.push_back_reserved.ensures.items in
    let ends = ap ends_of items ∙ ends-append into (front ∷ []) in
    let lens = ap lens_of items ∙ lens-append into (front ∷ []) in
    let few : c.loop-bytes.whole ≡ true → c.loop-bytes.bytes ≤ c.args.want = elim c.if-bytes-want.branch [
      | goal.then-bytes-want w ↦ λ whole. let less = w.if-bytes-want in omega (arith, less)
      | goal.else-bytes-want+then-not-whole w ↦ λ whole. let not_whole = w.if-not-whole in absurd (cc)
    ] in
    let due = moved_due c.args.want c.loop-bytes.bytes c.loop-bytes.whole into c.push_back_reserved.new.self.items front i.bytes_are i.is_whole few i.still_open items in
    record {
      all = ap (λ (xs : List Sealed). xs ++ c.pop_front.new.self.items) items ∙ append_assoc into (front ∷ []) c.pop_front.new.self.items
          ∙ ap (λ (xs : List Sealed). into ++ xs) (sym c.in-Some.ensures.items) ∙ i.all;
      rows_are = omega (arith, ends, i.rows_are);
      bytes_are = omega (arith, lens, i.bytes_are);
      room = omega (arith, i.room, c.push_back_reserved.ensures.len, c.push_back_reserved.ensures.capacity, c.in-Some.ensures.len);
      is_whole = λ whole. let is : nat_lt 0 front.ends ≡ true = whole in let some = some_of front.ends is in subst IsWhole (sym items) (whole-snoc into front some);
      due = due.0;
      still_open = λ whole. let is : nat_lt 0 front.ends ≡ false = whole in due.1 (none_of front.ends is);
    }
