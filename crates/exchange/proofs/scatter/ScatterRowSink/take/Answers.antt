use Rattle.std.proofs.Common.{◌<◌, length, refl, sym, ap, ◌∙◌, arith}
use Rattle.std.proofs.lemmas.List.{length-map}
use Rattle.row_defs.specs.Rows.{kind_of, kinds_of}
use Rattle.dia_item.specs.Lent.{row_in_ref}
use Rattle.dia_file.proofs.RowBytes.{spelled_is}
use Rattle.exchange.specs.contracts.scatter.ScatterRowSink.F-Fn.{words}
use Rattle.dia_file.proofs.WriterLemmas.{row_some}
use Rattle.exchange.proofs.Taking.{goes_to_one, took_one, accepts_still, serves_one_more}
use Rattle.exchange.proofs.scatter.ScatterRowSink.take.Goals as goal

pub deal-requires-clause-to : goal.deal-requires-clause-to
deal-requires-clause-to g c =
    let fn = words g.row.D g.row.F g.row.P g.F.Fn in
    goes_to_one fn.pre fn.post g.P.Post _ _ _ c.args.row c.call-to.result (sym c.self.view_is) c.requires.kinds refl c.requires.serves.most (λ same. absurd (c.if-self-eq-MOST_ROWS.false same)) c.call-to.ensures

pub deal-requires-clause-within : goal.deal-requires-clause-within
deal-requires-clause-within g c =
    let worker = deal-requires-clause-to g c in
    let ok = c.self.inside.frames.ok in
    let len = ap (λ v. length v.frames) (sym c.self.view_is) in
    let workers = ap (λ v. g.P.Post.workers v.post) (sym c.self.view_is) in
    omega (arith, worker, c.requires.serves.len, ok, len, workers)

pub deal-requires-clause-some : goal.deal-requires-clause-some
deal-requires-clause-some g c =
    let some : 0 < length (kinds_of (row_in_ref c.args.row)) = omega (arith, length-map (row_in_ref c.args.row) kind_of, c.columns-columns.ensures.len, c.columns-columns.ensures.some) in
    row_some _ _ _ some c.bytes-bytes.ensures.row

pub returns-in-Ok-clause-took : goal.returns-in-Ok-clause-took
returns-in-Ok-clause-took g c =
    let fn = words g.row.D g.row.F g.row.P g.F.Fn in
    took_one fn.post g.P.Post _ _ _ c.args.row c.call-to.result _ _ _ (sym c.self.view_is) c.call-to.ensures (spelled_is _ _ _ c.bytes-bytes.ensures.row)
    c.in-Ok.ensures.ok c.in-Ok.ensures.others

pub returns-in-Ok-clause-accepts : goal.returns-in-Ok-clause-accepts
returns-in-Ok-clause-accepts g c = λ kinds h.
    let fn = words g.row.D g.row.F g.row.P g.F.Fn in
    accepts_still fn.pre fn.post _ _ _ _ _ _ kinds (ap (λ v. v.kinds) c.self.view_is) (ap (λ v. v.route) c.self.view_is)
    (c.in-Ok.ensures.same.workers ∙ ap (λ v. g.P.Post.workers v.post) c.self.view_is) h

pub returns-in-Ok-clause-accepted : goal.returns-in-Ok-clause-accepted
returns-in-Ok-clause-accepted g c = λ kinds h.
    let fn = words g.row.D g.row.F g.row.P g.F.Fn in
    accepts_still fn.pre fn.post _ _ _ _ _ _ kinds (ap (λ v. v.kinds) (sym c.self.view_is)) (ap (λ v. v.route) (sym c.self.view_is))
    (ap (λ v. g.P.Post.workers v.post) (sym c.self.view_is) ∙ sym c.in-Ok.ensures.same.workers) h

pub returns-in-Ok-clause-serves : goal.returns-in-Ok-clause-serves
returns-in-Ok-clause-serves g c =
    let old_ok = c.self.inside.frames.ok in
    let new_ok = c.deal.new.frames.ok in
    let e = c.in-Ok.ensures in
    serves_one_more g.P.Post _ _ _ _ c.call-to.result _ _ _ (sym c.self.view_is) c.requires.serves (λ same. absurd (c.if-self-eq-MOST_ROWS.false same)) e.ok
    (omega (arith, e.len, old_ok, new_ok)) e.same.workers e.own e.permits e.follows
