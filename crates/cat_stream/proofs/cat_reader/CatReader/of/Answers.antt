use Rattle.std.proofs.Common.{sym, subst}
use Rattle.block_pool.specs.Handles.{AreOfPool}
use Rattle.mix_stream.specs.Reading.{Reading, blocks_of}
use Rattle.cat_stream.proofs.cat_reader.CatReader.of.Goals as goal

pub returns-clause-pools : goal.returns-clause-pools
returns-clause-pools c = λ pool own. subst (λ (r : Reading). AreOfPool pool (blocks_of r)) (sym c.of.ensures.reader) (c.in_ok-packets.ensures.pools pool own)
