use Rattle.std.proofs.Common.{◌≡◌, ◌<◌, List, length, Result, Err, IfErr, rules, arith, subst}
use Rattle.std.proofs.lemmas.Grind.{common_steps}
use Rattle.std.proofs.Math.ListN.{set}
use Rattle.block_pool.specs.Handles.{PoolName}
use Rattle.dia_file.specs.Files.{FileValue, IsFileOf}
use Rattle.input_file.specs.declared.refusals.ReadFileErr.{ReadFileErr}
use Rattle.script_run.specs.Reading.{HitsSome}
use Rattle.script_run.proofs.HandLemmas.{set_follows, set_permits, set_some, first_in, own_parts, disk_hits}
use Rattle.script_run.proofs.reading.read_parts.Goals as goal
use Rattle.scatter.proofs.Hands.{follow_trans, permits_trans}

pub returns-in_err-file-clause-disk : goal.returns-in_err-file-clause-disk
returns-in_err-file-clause-disk g c =
    let hands = c.args.hands.now.items in
    let e = c.in_err-file.field-0.0 in
    let same : c.from_residual.result ≡ Err e = search rules in
    let Hits : Result (List FileValue) ReadFileErr → Type 0 = λ r. IfErr r (λ x. HitsSome x hands (set hands 0 c.read_file.new.hand)) in
    rw same (disk_hits e hands c.index_mut.result.now c.read_file.new.hand (let some : 0 < length c.args.hands.now.items = search rules in some) c.index_mut.ensures.value c.in_err-file.ensures.disk)

pub returns-in_err-file-clause-permits : goal.returns-in_err-file-clause-permits
returns-in_err-file-clause-permits g c = set_permits c.args.hands.now.items c.index_mut.result.now c.read_file.new.hand (let some : 0 < length c.args.hands.now.items = search rules in some) c.index_mut.ensures.value c.in_err-file.ensures.permits

pub returns-in_err-file-clause-follows : goal.returns-in_err-file-clause-follows
returns-in_err-file-clause-follows g c = set_follows c.args.hands.now.items c.index_mut.result.now c.read_file.new.hand (let some : 0 < length c.args.hands.now.items = search rules in some) c.index_mut.ensures.value c.in_err-file.ensures.follows

pub returns-in-Ok-clause-own : goal.returns-in-Ok-clause-own
returns-in-Ok-clause-own g c =
    let hands = c.args.hands.now.items in
    let pool = c.requires.one.pool in
    let Own : PoolName → Type 0 = λ p. IsFileOf p c.in_ok-file.file in
    let own = subst Own (first_in hands c.index_mut.result.now c.requires.one (let some : 0 < length c.args.hands.now.items = search rules in some) c.index_mut.ensures.value) c.in_ok-file.ensures.own in
    let long : length c.in-Ok.files.items ≡ length hands = grind (arith, common_steps) in
    own_parts pool hands c.in-Ok.files.items c.requires.one.all (c.in-Ok.ensures.own pool own) long

pub returns-in-Ok-clause-permits : goal.returns-in-Ok-clause-permits
returns-in-Ok-clause-permits g c = set_permits c.args.hands.now.items c.index_mut.result.now c.read_file.new.hand (let some : 0 < length c.args.hands.now.items = search rules in some) c.index_mut.ensures.value c.in_ok-file.ensures.permits

pub returns-in-Ok-clause-follows : goal.returns-in-Ok-clause-follows
returns-in-Ok-clause-follows g c = set_follows c.args.hands.now.items c.index_mut.result.now c.read_file.new.hand (let some : 0 < length c.args.hands.now.items = search rules in some) c.index_mut.ensures.value c.in_ok-file.ensures.follows

pub returns-in-Err-clause-permits : goal.returns-in-Err-clause-permits
returns-in-Err-clause-permits g c =
    let hands = c.args.hands.now.items in
    let mid = set hands 0 c.read_file.new.hand in
    permits_trans hands mid (set mid 0 c.clear.new.hand)
    (set_permits hands c.index_mut.result.now c.read_file.new.hand (let some : 0 < length c.args.hands.now.items = search rules in some) c.index_mut.ensures.value c.in_ok-file.ensures.permits)
    (set_permits mid c.index_mut-in-Err.result.now c.clear.new.hand (set_some hands c.read_file.new.hand (let some : 0 < length c.args.hands.now.items = search rules in some)) c.index_mut-in-Err.ensures.value c.clear.ensures.permits)

pub returns-in-Err-clause-follows : goal.returns-in-Err-clause-follows
returns-in-Err-clause-follows g c =
    let hands = c.args.hands.now.items in
    let mid = set hands 0 c.read_file.new.hand in
    follow_trans hands mid (set mid 0 c.clear.new.hand)
    (set_follows hands c.index_mut.result.now c.read_file.new.hand (let some : 0 < length c.args.hands.now.items = search rules in some) c.index_mut.ensures.value c.in_ok-file.ensures.follows)
    (set_follows mid c.index_mut-in-Err.result.now c.clear.new.hand (set_some hands c.read_file.new.hand (let some : 0 < length c.args.hands.now.items = search rules in some)) c.index_mut-in-Err.ensures.value c.clear.ensures.follows)
