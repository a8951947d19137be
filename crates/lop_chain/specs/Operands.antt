-- The operands of the definitions that code stands for.
use Rattle.row_defs.specs.Operands.{Root, stored_root, count_root, Operand}
use Rattle.dia_item.specs.KindList.{kind_list}
use Rattle.lop_chain.specs.declared.operand.Root as roots
use Rattle.lop_chain.specs.declared.operand.Root.TheVariants.{Stored, Count}
use Rattle.lop_chain.specs.declared.operand.Operand as operands
use Rattle.lop_chain.specs.Ops.{ops_in}

abbrev pub root_in : roots.Root → Root
root_in (Stored n) = stored_root n
root_in (Count n rows) = count_root n rows

abbrev pub operand_in : operands.Operand → Operand
operand_in o = record { root = root_in o.root; last = o.last; kinds = kind_list o.kinds; chain = ops_in o.chain.items }
