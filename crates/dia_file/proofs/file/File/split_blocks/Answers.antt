use Rattle.std.proofs.Common.{List, sym, subst}
use Rattle.block_pool.specs.Handles.{BlockValue, AreOfPool}
use Rattle.dia_file.proofs.Splitting.{parts_own}
use Rattle.dia_file.proofs.file.File.split_blocks.Goals as goal

pub returns-clause-own : goal.returns-clause-own
returns-clause-own c = λ pool own.
    let Of : List BlockValue → Type 0 = λ blocks. AreOfPool pool blocks in
    parts_own pool c.cut_all.result.items (subst Of (sym c.cut_all.ensures.blocks) own)
