use Rattle.dia_item.proofs.KeyLemmas.{key_prefix, key_other, cmp_same}
use Rattle.dia_item.proofs.order.compare.Goals as goal

pub compare_fields-requires-clause-a : goal.compare_fields-requires-clause-a
compare_fields-requires-clause-a c = (key_prefix _ _ _ _ c.split_at.ensures.front c.known.ensures.has).0

pub compare_fields-requires-clause-b : goal.compare_fields-requires-clause-b
compare_fields-requires-clause-b c =
    (key_other c.args.k _ _ _ _ _ c.split_at.ensures.front c.known.ensures.kinds c.known-2.ensures.kinds c.known-2.ensures.has (rw (c.list-kinds.ensures.list, c.list.ensures.list) c.requires.kinds)).0

pub returns : goal.returns
returns c =
    rw (← c.list-kinds.ensures.list, ← c.list.ensures.list) (
    cmp_same _ _ _ _ _ c.compare_fields.ensures
    (key_prefix _ _ _ _ c.split_at.ensures.front c.known.ensures.has).1
    (key_other c.args.k _ _ _ _ _ c.split_at.ensures.front c.known.ensures.kinds c.known-2.ensures.kinds c.known-2.ensures.has (rw (c.list-kinds.ensures.list, c.list.ensures.list) c.requires.kinds)).1)
