use Rattle.dia_item.specs.Lent.{row_in_ref}
use Rattle.std.proofs.Common.{rules, refl}
use Rattle.row_defs.specs.Rows.{kinds_of}
use Rattle.lop_chain.proofs.Thens.{then_same, then_ok, then_err}
use Rattle.lop_chain.proofs.then.ThenLocalOp.push.Goals as goal

pub returns-clause-ok : goal.returns-clause-ok
returns-clause-ok g c =
    then_ok _ g.B.LocalOp g.S.RowSink (λ t. t.op.now) (λ t. t.sink.now)
    (record { took = λ t rows u h. h; refused = λ t d row e u b h. h; serves = λ t d h. h; shut = λ t. refl; held = λ t d. refl })
    (g.A.LocalOp.makes c.args.self.now.first) (row_in_ref c.args.row) _ c.push.new.sink _ _ c.push.result _
    c.push.ensures.ok (search rules)

pub returns-clause-err : goal.returns-clause-err
returns-clause-err g c =
    let h = c.requires.fits.1 in
    then_err _ g.B.LocalOp g.S.RowSink (λ t. t.op.now) (λ t. t.sink.now)
    (record { took = λ t rows u h. h; refused = λ t d row e u b h. h; serves = λ t d h. h; shut = λ t. refl; held = λ t d. refl })
    g.met.S.RowSink.took_more h.0 (g.A.LocalOp.makes c.args.self.now.first) (row_in_ref c.args.row) _ c.push.new.sink _ _ c.push.result _
    (λ row. g.met.B.LocalOp.total c.args.self.now.second h.0 c.requires.fits.0 row h.2)
    (λ rows. g.met.A.LocalOp.sound c.args.self.now.first (kinds_of (row_in_ref c.args.row)) h.0 (row_in_ref c.args.row) rows h.1 refl)
    c.push.ensures.err (search rules)

pub returns-clause-same : goal.returns-clause-same
returns-clause-same g c =
    let a = c.push.ensures.same in
    let b = c.push.ensures.stays.2 in
    record {
      fits_still = λ from to h. (h.0, a.fits_still from h.0 h.1, b.fits_still h.0 to h.2);
      fitted = λ from to h. (h.0, a.fitted from h.0 h.1, b.fitted h.0 to h.2);
      makes_still = λ row rows. then_same g.A.LocalOp g.B.LocalOp _ _ _ _ row rows a.makes_still b.makes_still;
      made = λ row rows. then_same g.A.LocalOp g.B.LocalOp _ _ _ _ row rows a.made b.made;
    }
