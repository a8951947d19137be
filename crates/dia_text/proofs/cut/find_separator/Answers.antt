use Rattle.dia_text.proofs.PieceLemmas.{unbroken-by_search, ends-by_search}
use Rattle.dia_text.proofs.cut.find_separator.Goals as goal

pub returns-clause-unbroken : goal.returns-clause-unbroken
returns-clause-unbroken c = unbroken-by_search _ _ _ c.memchr.ensures

pub returns-clause-ends : goal.returns-clause-ends
returns-clause-ends c = ends-by_search _ _ _ c.memchr.ensures
