use Rattle.std.proofs.Common.{rules, ◌≡◌, ◌+◌, ◌<◌, ◌≤◌, ◌++◌, ◌∷◌, [], ℕ, List, suc, length, take, sum, arith, refl, ap, subst, ◌∙◌}
use Rattle.std.specs.Prelude.{slice_index_or}
use Rattle.std.proofs.Math.Seq.{take-suc}
use Rattle.std.proofs.lemmas.List.{take_all}
use Rattle.dia_edge.proofs.Results.{IfOk-map, IfErr-map}
use Rattle.row_defs.specs.Limits.{most_rows}
use Rattle.std.proofs.lemmas.List.Sums.{sum_by-append}
use Rattle.dia_item.specs.KindList.{kind_list}
use Rattle.lop_chain.specs.Ops.{ops_in}
use Rattle.lop_chain.specs.Operands.{root_in}
use Rattle.scatter.specs.Stocks.{lines_of}
use Rattle.scatter.proofs.Hands.{follow_refl}
use Rattle.dealing.proofs.Made.{AreMade, made_more, made_routes, made_at}
use Rattle.dealing.proofs.Linked.{linked_dealt, link_refused}
use Rattle.dealing.proofs.operand.deal.Goals as goal

pub returns-in_default-clause-follows : goal.returns-in_default-clause-follows
returns-in_default-clause-follows g c = follow_refl c.args.hands.now.items

pub loop-count-preserved : goal.loop-count-preserved
loop-count-preserved g c =
    let i = c.loop-count.count-index in
    let counts = c.args.counts.now in
    let x = slice_index_or counts i 0 in
    let lt : i < length counts = search rules in
    let next : i + 1 ≡ suc i = omega arith in
    let here : take (i + 1) counts ≡ take i counts ++ x ∷ [] = ap (λ (n : ℕ). take n counts) next ∙ take-suc counts i 0 lt in
    let inv = c.loop-count.invariant in
    let sums : sum (take (i + 1) counts) ≡ sum (take i counts) + sum (x ∷ []) = ap sum here ∙ sum_by-append (λ (n : ℕ). n) (take i counts) (x ∷ []) in
    let one : sum (x ∷ []) ≡ x = let same : 0 + x ≡ x = omega arith in same in
    let from_is = inv.from_is in
    let f : ℕ × ℕ × ℕ = (c.args.at.total, c.args.at.workers, c.loop-count.from) in
    record {
      count = search rules;
      room = search rules;
      from_is = omega (arith, from_is, sums, one);
      made = rw here (rw c.push_reserved.ensures.items
          (made_more c.args.at.total c.args.at.workers c.args.at.before (take i counts) c.loop-count.routes.items x f inv.made refl refl inv.from_is));
    }

pub run-requires-clause-routes : goal.run-requires-clause-routes
run-requires-clause-routes g c κs within = λ k d below r n of few.
    let counts = c.args.counts.now in
    let i = c.loop-count.count-index in
    let inv = c.loop-count.invariant in
    let past : length counts ≤ i = search rules in
    let all : take i counts ≡ counts = take_all i counts past in
    let made = subst (λ (ns : List ℕ). AreMade c.args.at.total c.args.at.workers c.args.at.before ns c.loop-count.routes.items) all inv.made in
    let at = made_at c.args.at.total c.args.at.workers c.args.at.before counts c.loop-count.routes.items k d made below in
    let fits = c.requires.within in
    let w = c.requires.workers in
    let long = c.requires.long in
    let count = inv.count in
    let ok = c.loop-count.routes.ok in
    let end : i ≤ length counts = search rules in (
      (omega (arith, at, w, long, below, count, ok, end), omega (arith, at, fits), few),
      λ v p. let lt = p.1.0 in omega (arith, lt, at, w),
    )

pub returns-clause-dealt : goal.returns-clause-dealt
returns-clause-dealt g c =
    let counts = c.args.counts.now in
    let i = c.loop-count.count-index in
    let inv = c.loop-count.invariant in
    let past : length counts ≤ i = search rules in
    let all : take i counts ≡ counts = take_all i counts past in
    let made = subst (λ (ns : List ℕ). AreMade c.args.at.total c.args.at.workers c.args.at.before ns c.loop-count.routes.items) all inv.made in
    let ours = subst (λ (n : ℕ). AreMade c.args.at.total n c.args.at.before counts c.loop-count.routes.items) c.requires.workers made in
    let workers = c.args.stock.now.workers in
    IfOk-map c.run.result _ _ (λ boxes l. linked_dealt (lines_of c.args.stock.now) workers (root_in c.args.operand.now.root) (ops_in c.args.operand.now.chain.items) c.args.hands.now.items
    _ (kind_list c.args.operand.now.kinds) c.loop-count.routes.items (g.X.Net.tells c.args.stock.now.net) boxes.items c.args.at.total c.args.at.before counts
    (made_routes _ (λ f r n w p. p.1.1) c.args.at.total workers c.args.at.before counts c.loop-count.routes.items ours)
    c.requires.long.1 c.requires.within.0 c.run.ensures.joined l) c.run.ensures.linked

pub returns-clause-refused : goal.returns-clause-refused
returns-clause-refused g c =
    let within = c.requires.within in
    let few : sum c.args.counts.now ≤ most_rows = omega (arith, within) in
    IfErr-map c.run.result _ _ (λ e h is. link_refused (lines_of c.args.stock.now) c.args.stock.now.workers (root_in c.args.operand.now.root) (ops_in c.args.operand.now.chain.items) c.args.hands.now.items
    (g.X.Net.tells c.args.stock.now.net) (g.X.Net.faults c.args.stock.now.net) (g.X.Net.faults c.run.new.stock.net) c.run.new.hands.items c.args.counts.now e few is h) c.run.ensures.refused
