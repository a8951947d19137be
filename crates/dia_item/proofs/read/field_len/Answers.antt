use Rattle.std.proofs.Common.{arith}
use Rattle.dia_item.proofs.Fields.{int_field, text_field, no_int, no_len, no_long, no_text}
use Rattle.dia_item.proofs.read.field_len.Goals as goal
use Rattle.dia_item.proofs.read.field_len.Goals.{then-n-gt-LONGEST_TEXT-via-then-n-gt-LONGEST_TEXT, then-n-gt-LONGEST_TEXT-via-else-n-gt-LONGEST_TEXT+then-bytes-n}

pub returns-then-bytes-lt8-clause-none : goal.returns-then-bytes-lt8-clause-none
returns-then-bytes-lt8-clause-none c = rw c.in-Int.is (no_int _ c.if-bytes-lt8.true)

pub returns-then-bytes-lt4-clause-none : goal.returns-then-bytes-lt4-clause-none
returns-then-bytes-lt4-clause-none c = rw c.in-Text.is (no_len _ c.if-bytes-lt4.true)

pub returns-then-n-gt-LONGEST_TEXT-clause-none : goal.returns-then-n-gt-LONGEST_TEXT-clause-none
returns-then-n-gt-LONGEST_TEXT-clause-none c = rw c.in-Text.is (
    elim c.then-n-gt-LONGEST_TEXT.branch [
      | then-n-gt-LONGEST_TEXT-via-then-n-gt-LONGEST_TEXT w ↦ no_long _ _ c.u32_at_prefix-n.ensures w.if-n-gt-LONGEST_TEXT.true
      | then-n-gt-LONGEST_TEXT-via-else-n-gt-LONGEST_TEXT+then-bytes-n w ↦ no_text _ _ c.u32_at_prefix-n.ensures (omega arith)
    ])

pub returns-else-bytes-lt8-clause-found : goal.returns-else-bytes-lt8-clause-found
returns-else-bytes-lt8-clause-found c = rw c.in-Int.is (int_field _ (λ i. omega (arith, c.type_inv.bytes i)) (omega arith))

pub returns-else-bytes-n-clause-found : goal.returns-else-bytes-n-clause-found
returns-else-bytes-n-clause-found c = rw c.in-Text.is (text_field _ _ (λ i. omega (arith, c.type_inv.bytes i)) c.u32_at_prefix-n.ensures (omega arith) (omega arith))
