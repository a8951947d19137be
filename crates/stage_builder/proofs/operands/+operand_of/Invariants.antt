use Rattle.stage_builder.proofs.operands.+operand_of.Given as goal

abbrev pub decreases-operand_of : goal.decreases-operand_of
decreases-operand_of l = l.number
