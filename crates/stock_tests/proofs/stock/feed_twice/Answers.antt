use Rattle.std.proofs.Common.{sym, subst, ◌∙◌}
use Rattle.block_pool.specs.Handles.{PoolName}
use Rattle.dia_file.specs.Files.{IsFileOf}
use Rattle.stock_tests.proofs.stock.feed_twice.Goals as goal

pub feed_kept-requires-clause-stocked : goal.feed_kept-requires-clause-stocked
feed_kept-requires-clause-stocked g c =
    let P : PoolName → Type 0 = λ pool. IsFileOf pool c.in_ok-b.b in
    record {
      a = c.in_ok-a.a;
      b = c.in_ok-b.b;
      there = c.in-Ok-put_two.ensures.line;
      is_a = record { kinds = c.in_ok-a.ensures.kinds; own = c.in_ok-a.ensures.own };
      is_b = record { kinds = c.in_ok-b.ensures.kinds; own = subst P (c.file_of-2.ensures.pool ∙ c.requires.pool ∙ sym c.file_of.ensures.pool) c.in_ok-b.ensures.own };
    }
