use Rattle.std.proofs.Common.{◌≡◌, List, vec_len, length, map, Option, Result, Ok, Err, OnOk, OnErr, inl, sym, ap, subst, ◌∙◌, arith}
use Rattle.std.specs.Prelude.{All}
use Rattle.std.specs.List.{AllZip}
use Rattle.std.proofs.lemmas.List.{length-map}
use Rattle.block_pool.specs.Handles.{HandValue}
use Rattle.dia_file.specs.Files.{FileValue}
use Rattle.lop_chain.specs.Operands.{root_in}
use Rattle.lop_chain.specs.Ops.{ops_in}
use Rattle.scatter.specs.Feeds.{FeedValue}
use Rattle.scatter.specs.Lines.{root_kinds, root_feeds}
use Rattle.scatter.specs.Stocks.{lines_of, FeedsAreInPools, IsToRestore}
use Rattle.scatter.specs.Phases.{IsUsed, pools_of}
use Rattle.scatter.specs.declared.feed_err.FeedErr.{FeedErr}
use Rattle.dia_edge.specs.declared.refusals.Failed.{Failed}
use Rattle.scatter.specs.Told.{AreTold}
use Rattle.scatter.specs.Begun.{IsNew}
use Rattle.scatter.proofs.Rooted.{root_new, root_ops, used, whole_again, GoesThrough}
use Rattle.scatter.proofs.Hands.{follow_refl}
use Rattle.actions.specs.Printing.{rows_of_feeds, AreToldFeeds, CanPrint, HasPrinted}
use Rattle.actions.proofs.Grown.{first_none, printed_as}
use Rattle.actions.proofs.Roots.{can_print, told_feeds, rows_arrive}
use Rattle.actions.proofs.print.print_root.Goals as goal

pub returns-in_default-clause-prints : goal.returns-in_default-clause-prints
returns-in_default-clause-prints g c = first_none g.S.Sink _ _ c.args.out.now c.args.buffer.now

pub returns-in_default-clause-follows : goal.returns-in_default-clause-follows
returns-in_default-clause-follows g c = follow_refl c.args.hands.now.items

pub returns-in_default-feeds-clause-prints : goal.returns-in_default-feeds-clause-prints
returns-in_default-feeds-clause-prints g c = first_none g.S.Sink _ _ c.args.out.now c.args.buffer.now

pub returns-in_default-feeds-clause-follows : goal.returns-in_default-feeds-clause-follows
returns-in_default-feeds-clause-follows g c = follow_refl c.args.hands.now.items

pub print_feeds-ended-requires-clause-can : goal.print_feeds-ended-requires-clause-can
print_feeds-ended-requires-clause-can g c =
    let root = root_in c.args.operand.now.root in
    let ops = ops_in c.args.operand.now.chain.items in
    let lines = lines_of c.args.stock.now in
    let hands = c.args.hands.now.items in
    let fs = c.in-Ok-feeds.feeds.items in
    let feeds : fs ≡ root_feeds lines c.args.stock.now.workers root c.args.operand.now.last ops = c.in-Ok-feeds.ensures.feeds in
    let new : All IsNew fs = subst (λ l. All IsNew l) (sym feeds) (root_new lines c.args.stock.now.workers root c.args.operand.now.last ops) in
    let through : All (GoesThrough ops) fs = subst (λ l. All (GoesThrough ops) l) (sym feeds) (root_ops lines c.args.stock.now.workers root c.args.operand.now.last ops) in
    let long : length (pools_of hands) ≡ c.args.stock.now.workers = length-map hands (λ (a : HandValue). a.pool) ∙ (let n = c.requires.long in omega arith) in
    let own : FeedsAreInPools (pools_of hands) fs = c.in-Ok-feeds.ensures.own (pools_of hands) long c.requires.own in
    let sound = c.requires.sound in
    subst (λ v. AllZip CanPrint fs v.items) (sym c.replace-moved.ensures.value)
    (can_print (root_kinds lines root) sound.0 ops sound.1 fs hands c.in-Ok-feeds.ensures.kinds through new own c.requires.permits)

pub returns-clause-prints : goal.returns-clause-prints
returns-clause-prints g c =
    let root = root_in c.args.operand.now.root in
    let ops = ops_in c.args.operand.now.chain.items in
    let lines = lines_of c.args.stock.now in
    let workers = c.args.stock.now.workers in
    let hands = c.args.hands.now.items in
    let fs = c.in-Ok-feeds.feeds.items in
    let feeds : fs ≡ root_feeds lines workers root c.args.operand.now.last ops = c.in-Ok-feeds.ensures.feeds in
    let count : vec_len c.in-Ok-feeds.feeds ≡ workers = c.in-Ok-feeds.ensures.count in
    let len = c.requires.long in
    let long : length (root_feeds lines workers root c.args.operand.now.last ops) ≡ length hands = ap length (sym feeds) ∙ omega (arith, count, len) in
    let rows = rows_arrive lines workers root c.args.operand.now.last ops fs feeds c.in-Ok-feeds.ensures.rows in
    let all = subst (λ v. HasPrinted g.S.Sink (AreToldFeeds fs v.items) (rows_of_feeds fs) v.items c.args.out.now c.args.buffer.now c.print_feeds-ended.result.answer
    c.print_feeds-ended.result.hands.items c.print_feeds-ended.new.out c.print_feeds-ended.new.buffer) c.replace-moved.ensures.value c.print_feeds-ended.ensures.prints in
    printed_as g.S.Sink (AreToldFeeds fs hands) (AreTold root hands) (rows_of_feeds fs)
    (λ told. subst (λ l. AreToldFeeds l hands) (sym feeds) (told_feeds lines workers root c.args.operand.now.last ops hands long told))
    c.args.out.now c.print_feeds-ended.new.out c.args.buffer.now c.print_feeds-ended.new.buffer _ rows hands c.print_feeds-ended.result.hands.items c.print_feeds-ended.result.answer all

on_ok : (r : Result (Unit {0}) (FeedErr Failed)) (P : Type 0) → P → OnOk r P
on_ok (Ok done) P p = p
on_ok (Err e) P p = tt

on_err : (r : Result (Unit {0}) (FeedErr Failed)) (P : Type 0) → P → OnErr r P
on_err (Ok done) P p = tt
on_err (Err e) P p = p

pub returns-clause-lines : goal.returns-clause-lines
returns-clause-lines g c =
    let root = root_in c.args.operand.now.root in
    let ops = ops_in c.args.operand.now.chain.items in
    let last = c.args.operand.now.last in
    let lines = lines_of c.args.stock.now in
    let mid = lines_of c.feeds.new.self in
    let workers = c.args.stock.now.workers in
    let parts = c.print_feeds-ended.result.parts.items in
    let keeps = c.print_feeds-ended.ensures.parts in
    let same = keeps ∙ ap (map (λ (f : FeedValue). f.keeps)) c.in-Ok-feeds.ensures.feeds in
    let P : List (Option FileValue) → Type 0 = λ parts. IsToRestore root last mid c.feeds.new.self.workers parts in
    let done : IsUsed lines root last (lines_of c.give_back.new.stock) =
    used lines mid (lines_of c.give_back.new.stock) root last c.feeds.new.self.workers parts c.requires.root c.in-Ok-feeds.ensures.lines
    (subst P (sym keeps) c.in-Ok-feeds.ensures.lent) (whole_again lines workers root last ops parts c.requires.root same) c.give_back.ensures.lines in
    on_ok c.print_feeds-ended.result.answer _ done

pub returns-clause-left : goal.returns-clause-left
returns-clause-left g c =
    let root = root_in c.args.operand.now.root in
    let ops = ops_in c.args.operand.now.chain.items in
    let last = c.args.operand.now.last in
    let lines = lines_of c.args.stock.now in
    let mid = lines_of c.feeds.new.self in
    let workers = c.args.stock.now.workers in
    let parts = c.print_feeds-ended.result.parts.items in
    let keeps = c.print_feeds-ended.ensures.parts in
    let same = keeps ∙ ap (map (λ (f : FeedValue). f.keeps)) c.in-Ok-feeds.ensures.feeds in
    let P : List (Option FileValue) → Type 0 = λ parts. IsToRestore root last mid c.feeds.new.self.workers parts in
    let done : IsUsed lines root last (lines_of c.give_back.new.stock) =
    used lines mid (lines_of c.give_back.new.stock) root last c.feeds.new.self.workers parts c.requires.root c.in-Ok-feeds.ensures.lines
    (subst P (sym keeps) c.in-Ok-feeds.ensures.lent) (whole_again lines workers root last ops parts c.requires.root same) c.give_back.ensures.lines in
    on_err c.print_feeds-ended.result.answer _ (inl done)
