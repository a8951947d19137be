use Rattle.std.proofs.Common.{arith}
use Rattle.dia_item.proofs.TestLemmas.{row_of_test, has_of_test}
use Rattle.dia_item.proofs.RowLemmas.{kinds_are, length-row_of}
use Rattle.dia_item.proofs.LawLemmas.{row_short}
use Rattle.dia_item.proofs.row_ref.known.Goals as goal

pub returns-clause-row : goal.returns-clause-row
returns-clause-row c = row_of_test _ _ (λ i. omega (arith, c.type_inv.bytes i)) c.requires.is

pub returns-clause-kinds : goal.returns-clause-kinds
returns-clause-kinds c = kinds_are _ _ _ (row_of_test _ _ (λ i. omega (arith, c.type_inv.bytes i)) c.requires.is)

pub returns-clause-columns : goal.returns-clause-columns
returns-clause-columns c = length-row_of _ _

pub returns-clause-has : goal.returns-clause-has
returns-clause-has c = has_of_test _ _ c.requires.is

pub returns-clause-longest : goal.returns-clause-longest
returns-clause-longest c =
    omega (arith, c.requires.most, row_short _ _ _ (row_of_test c.args.kinds.now c.args.bytes.now (λ i. omega (arith, c.type_inv.bytes i)) c.requires.is))
