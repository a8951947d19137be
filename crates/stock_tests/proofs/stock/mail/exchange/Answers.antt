use Rattle.std.proofs.Common.{sym, ◌∙◌, subst}
use Rattle.std.proofs.lemmas.Option.{IfSome_then}
use Rattle.block_pool.specs.Handles.{PoolName}
use Rattle.multiplexer.specs.declared.inbox.Inbox.{Inbox}
use Rattle.scatter.specs.Carrying.{AreBlocksOf}
use Rattle.stock_tests.specs.Posted.{AreTwoHands}
use Rattle.stock_tests.proofs.Posting.{two_hands}
use Rattle.stock_tests.proofs.stock.mail.exchange.Goals as goal

pub pop_two-one-requires : goal.pop_two-one-requires
pop_two-one-requires g c =
    let pool = c.args.one.pool in
    let same = c.post_three-posted.ensures.same in
    let start : AreTwoHands pool c.push_reserved-2.new.self.items =
    two_hands pool c.args.room.items c.push_reserved.new.self.items c.push_reserved-2.new.self.items c.post_three-posted.new.one c.post_three-posted.new.two c.requires.room.0 c.push_reserved.ensures.items c.push_reserved-2.ensures.items
    same.0 (same.1 ∙ c.requires.pool) in
    (pool, c.settle_posted-boxes.ensures.hands pool start)

pub come_of-come-requires : goal.come_of-come-requires
come_of-come-requires g c =
    let pool = c.args.one.pool in
    let same = c.post_three-posted.ensures.same in
    let start : AreTwoHands pool c.push_reserved-2.new.self.items =
    two_hands pool c.args.room.items c.push_reserved.new.self.items c.push_reserved-2.new.self.items c.post_three-posted.new.one c.post_three-posted.new.two c.requires.room.0 c.push_reserved.ensures.items c.push_reserved-2.ensures.items
    same.0 (same.1 ∙ c.requires.pool) in
    let pools = c.pop_two-one.ensures pool (c.settle_posted-boxes.ensures.hands pool start) in
    record {
      own = IfSome_then c.settle_posted-boxes.result c.settle_posted-boxes.ensures.own (λ (b : Inbox × Inbox) own. let Q : PoolName → Type 0 = λ name. AreBlocksOf name b.1 in subst Q (sym pools.1) (own pool start));
    }

pub returns : goal.returns
returns g c =
    let pool = c.args.one.pool in
    let same = c.post_three-posted.ensures.same in
    let start : AreTwoHands pool c.push_reserved-2.new.self.items =
    two_hands pool c.args.room.items c.push_reserved.new.self.items c.push_reserved-2.new.self.items c.post_three-posted.new.one c.post_three-posted.new.two c.requires.room.0 c.push_reserved.ensures.items c.push_reserved-2.ensures.items
    same.0 (same.1 ∙ c.requires.pool) in
    let pools = c.pop_two-one.ensures pool (c.settle_posted-boxes.ensures.hands pool start) in
    record { pools = (pools.0, c.come_of-come.ensures.pool ∙ pools.1) }
