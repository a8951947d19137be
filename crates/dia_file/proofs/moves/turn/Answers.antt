use Rattle.dia_file.proofs.Gathering.{moved_then, tells_then}
use Rattle.block_pool.specs.Follows.{follows_trans}
use Rattle.dia_file.proofs.moves.turn.Goals as goal

pub gather_all-requires-clause-told : goal.gather_all-requires-clause-told
gather_all-requires-clause-told g c = tells_then _ _ _ _ _ c.put_back.ensures.follows c.put_back.ensures.moved c.requires.told

pub returns-in_err-gather_all-clause-moved : goal.returns-in_err-gather_all-clause-moved
returns-in_err-gather_all-clause-moved g c = moved_then _ _ _ _ _ _ c.put_back.ensures.follows c.put_back.ensures.moved c.gather_all.ensures.moved

pub returns-then-place-eq0-clause-moved : goal.returns-then-place-eq0-clause-moved
returns-then-place-eq0-clause-moved g c = moved_then _ _ _ _ _ _ c.put_back.ensures.follows c.put_back.ensures.moved c.gather_all.ensures.moved

pub returns-clause-moved : goal.returns-clause-moved
returns-clause-moved g c =
    let first = moved_then _ _ _ _ _ _ c.put_back.ensures.follows c.put_back.ensures.moved c.gather_all.ensures.moved in
    moved_then _ _ _ _ _ _ (follows_trans _ _ _ c.put_back.ensures.follows c.gather_all.ensures.follows) first c.show.ensures.moved

pub returns-in_err-show-clause-moved : goal.returns-in_err-show-clause-moved
returns-in_err-show-clause-moved g c =
    let first = moved_then _ _ _ _ _ _ c.put_back.ensures.follows c.put_back.ensures.moved c.gather_all.ensures.moved in
    moved_then _ _ _ _ _ _ (follows_trans _ _ _ c.put_back.ensures.follows c.gather_all.ensures.follows) first c.show.ensures.moved
