-- The local lines of a chain.
use Rattle.std.specs.Prelude.{List}
use Rattle.row_defs.specs.LocalOps.{LocalOp}
use Rattle.lop_chain.specs.Steps.{steps_in}
use Rattle.lop_chain.specs.declared.chain.Chain.{Chain}

abbrev pub chain_ops : Chain → List LocalOp
chain_ops chain = steps_in chain.steps.items
