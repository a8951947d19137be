use Rattle.std.proofs.Common.{◌<◌, length, rules, sym, subst}
use Rattle.std.specs.Prelude.{All}
use Rattle.block_pool.specs.Handles.{PoolName}
use Rattle.dia_file.specs.Files.{IsFileOf, FileValue}
use Rattle.script_run.proofs.HandLemmas.{set_follows, set_permits, first_in, all_first}
use Rattle.script_run.proofs.WeighLemmas.{weighed_ok}
use Rattle.script_run.proofs.weighing.weigh.Goals as goal

pub weigh-requires : goal.weigh-requires
weigh-requires g c =
    let hands = c.args.hands.now.items in
    let files = c.args.files.items in
    let some : 0 < length hands = search rules in
    let Own : PoolName → Type 0 = λ p. All (λ (f : FileValue). IsFileOf p f) files in
    record { own = subst Own (sym (first_in hands c.index_mut.result.now c.requires.one some c.index_mut.ensures.value)) (all_first hands files c.requires.one.pool c.requires.one.all c.requires.own) }

pub returns-clause-weighed : goal.returns-clause-weighed
returns-clause-weighed g c =
    let some : 0 < length c.args.hands.now.items = search rules in
    weighed_ok c.weigh.result c.args.hands.now.items c.index_mut.result.now c.weigh.new.hand c.args.files.items some c.index_mut.ensures.value c.weigh.ensures.follows c.weigh.ensures.weighs

pub returns-clause-permits : goal.returns-clause-permits
returns-clause-permits g c =
    let some : 0 < length c.args.hands.now.items = search rules in
    set_permits c.args.hands.now.items c.index_mut.result.now c.weigh.new.hand some c.index_mut.ensures.value c.weigh.ensures.permits

pub returns-clause-follows : goal.returns-clause-follows
returns-clause-follows g c =
    let some : 0 < length c.args.hands.now.items = search rules in
    set_follows c.args.hands.now.items c.index_mut.result.now c.weigh.new.hand some c.index_mut.ensures.value c.weigh.ensures.follows
