use Rattle.std.proofs.Common.{◌∙◌}
use Rattle.job_words.proofs.fault.put_fault.Goals as goal

pub returns-in-Missing : goal.returns-in-Missing
returns-in-Missing g c =
    rw (c.in-Missing.is, ← (c.as_bytes.ensures.value ∙ c.text.ensures)) (record { puts = c.put_pieces-in-Missing.ensures.puts })

pub returns-in-ReadFault : goal.returns-in-ReadFault
returns-in-ReadFault g c = rw c.in-ReadFault.is (record { puts = c.put_pieces-in-ReadFault.ensures.puts })
