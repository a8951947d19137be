use Rattle.std.proofs.Common.{◌≡◌, ◌∷◌, [], false}
use Rattle.row_defs.specs.declared.kind.Kind.TheVariants.{Int}
use Rattle.row_defs.specs.LocalOps.{AreSoundOps}
use Rattle.lop_chain.specs.Chains.{chain_ops}
use Rattle.row_tests.proofs.chain.push_numbers.Given as goal

abbrev pub invariant-loop-n : goal.invariant-loop-n
invariant-loop-n g l = record {
  fits : AreSoundOps (Int ∷ []) (chain_ops l.chain) (Int ∷ []);
  is_open : l.into.shut ≡ false;
}
