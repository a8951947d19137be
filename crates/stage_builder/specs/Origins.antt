-- How lines come to their rows.
use Rattle.std.specs.Prelude.{ℕ, List, [], ◌∷◌, Option, Some, None}
use Rattle.script_defs.specs.Scripts.{Form, Origin, stored, counted, made, origin_of, form_operands}
use Rattle.lop_chain.specs.Ops.{op_in}
use Rattle.stage_builder.specs.declared.operands.Origin as origins
use Rattle.stage_builder.specs.declared.operands.Origin.TheVariants.{Kept, Cached, Counted, Made}

abbrev pub origin_in : origins.Origin → Origin
origin_in Kept = stored
origin_in (Cached of) = stored
origin_in (Counted n) = counted n
origin_in (Made of op) = made of (op_in op)

-- the rows of what is no line are asked for by nobody
abbrev pub origin_where : Option Form → Origin
origin_where (Some form) = origin_of form
origin_where None = stored

-- the lines that are read for them
abbrev pub named_in : origins.Origin → List ℕ
named_in Kept = []
named_in (Cached of) = of ∷ []
named_in (Counted n) = []
named_in (Made of op) = of ∷ []

abbrev pub named_where : Option Form → List ℕ
named_where (Some form) = form_operands form
named_where None = []
