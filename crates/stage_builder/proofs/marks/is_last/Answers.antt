use Rattle.std.proofs.Common.{◌==◌, ℕ, ap, sym, ◌∙◌}
use Rattle.lop_chain.specs.declared.operand.Root as roots
use Rattle.lop_chain.specs.Operands.{root_in}
use Rattle.stage_builder.specs.Marks.{last_among}
use Rattle.stage_builder.specs.Tables.{counts_in}
use Rattle.stage_builder.proofs.PlanLemmas.{last_by_count}
use Rattle.stage_builder.proofs.marks.is_last.Goals as goal

pub returns-in-Stored : goal.returns-in-Stored
returns-in-Stored c = λ rs are.
    ap (λ (n : ℕ). n == 0) c.of.ensures ∙ last_by_count c.in-Stored.line (counts_in c.args.later.now) rs are
    ∙ ap (λ (r : roots.Root). last_among (root_in r) rs) (sym c.in-Stored.is)
