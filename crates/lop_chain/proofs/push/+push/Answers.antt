use Rattle.std.proofs.Common.{rules, arith, ◌≡◌, ◌∙◌, [], List, ℕ, sym, ap, map}
use Rattle.row_defs.specs.declared.kind.Kind.TheVariants.{Int, Text}
use Rattle.row_defs.specs.Rows.{Row, kinds_of, text}
use Rattle.row_defs.specs.Texts.{words_in_text}
use Rattle.row_defs.specs.LocalOps.{raised, with_word}
use Rattle.dia_item.specs.Lent.{row_in_ref}
use Rattle.lop_chain.specs.Ops.{rows_from}
use Rattle.lop_chain.specs.Steps.{steps_in}
use Rattle.lop_chain.specs.OpLemmas.{kinds_of_set}
use Rattle.lop_chain.proofs.RowLemmas.{through_none, next_word, next_number, all_numbers, raised_by}
use Rattle.lop_chain.proofs.SetLemmas.{has_column}
use Rattle.lop_chain.proofs.TakeLemmas.{took_but, took_but_some, took_nothing, refused_one}
use Rattle.lop_chain.proofs.push.+push.Goals as goal

pub push_through-returns-in-None-clause-err : goal.push_through-returns-in-None-clause-err
push_through-returns-in-None-clause-err g t c =
    rw (through_none c.args.steps.now (row_in_ref c.args.row.now) c.in-None.ensures.cases)
    (refused_one g.S.RowSink _ _ _ _ _ _ (g.met.S.RowSink.took_none _) c.take.ensures.refused c.take.ensures.shut)

pub push_words-put_with-made-requires-clause-column : goal.push_words-put_with-made-requires-clause-column
push_words-put_with-made-requires-clause-column g t c = has_column (row_in_ref c.args.row.now) c.args.column Text c.requires.column

pub push_words-loop-word-init : goal.push_words-loop-word-init
push_words-loop-word-init g t c = record {
  but = record {
    done = [];
    parts = ap (λ (bytes : List ℕ). rows_from (steps_in c.args.steps.now) (map (with_word (row_in_ref c.args.row.now) c.args.column) (words_in_text bytes))) (sym c.text_at-rest.ensures.bytes);
    all = took_nothing g.S.RowSink _ _ (g.met.S.RowSink.took_none _) c.requires.serves c.requires.is_open;
  };
  follows = g.met.S.RowSink.follows_refl _;
  stays = g.met.S.RowSink.stays_refl _;
  short = c.text_at-rest.ensures.short;
}

pub push_words-push_through-requires : goal.push_words-push_through-requires
push_words-push_through-requires g t c κs within =
    let kinds : kinds_of (row_in_ref c.put_with-made.result) ≡ kinds_of (row_in_ref c.args.row.now) =
    ap (λ (row : Row). kinds_of row) c.put_with-made.ensures ∙ kinds_of_set (row_in_ref c.args.row.now) c.args.column (text c.in-Some.word.now) c.requires.column in
    let i = c.loop-word.invariant.but.all in
    (search rules, (search rules, (search rules, (search rules, (search rules, (search rules, ((c.requires.fits.0, rw kinds c.requires.fits.1, i.accepts c.requires.fits.0 c.requires.fits.2), (i.serves, i.is_open))))))))

pub push_words-returns-in-Err-clause-err : goal.push_words-returns-in-Err-clause-err
push_words-returns-in-Err-clause-err g t c =
    let i = c.loop-word.invariant in
    let row : row_in_ref c.put_with-made.result ≡ with_word (row_in_ref c.args.row.now) c.args.column c.in-Some.word.now = c.put_with-made.ensures in
    took_but_some g.S.RowSink g.met.S.RowSink.took_more g.met.S.RowSink.refused_from _ _ _ _ _ _ _ _ _ _ i.follows
    (rw (next_word (steps_in c.args.steps.now) (row_in_ref c.args.row.now) c.args.column c.loop-word.rest.now c.in-Some.word.now c.in-Some.after.now c.in-Some.ensures.word) at i.but)
    (rw row at c.in-Err.ensures.err)

pub push_words-loop-word-preserved : goal.push_words-loop-word-preserved
push_words-loop-word-preserved g t c =
    let i = c.loop-word.invariant in
    let row : row_in_ref c.put_with-made.result ≡ with_word (row_in_ref c.args.row.now) c.args.column c.in-Some.word.now = c.put_with-made.ensures in
    record {
      but = took_but g.S.RowSink g.met.S.RowSink.took_more _ _ _ _ _ _ _ _ _
          (rw (next_word (steps_in c.args.steps.now) (row_in_ref c.args.row.now) c.args.column c.loop-word.rest.now c.in-Some.word.now c.in-Some.after.now c.in-Some.ensures.word) at i.but)
          (rw row at c.in-Ok.ensures.ok);
      follows = g.met.S.RowSink.follows_trans _ _ _ i.follows c.push_through.ensures.follows;
      stays = g.met.S.RowSink.stays_trans _ _ _ i.stays c.push_through.ensures.stays;
      short = omega (arith, c.in-Some.ensures.shorter, i.short);
    }

pub push_spread-loop-i-init : goal.push_spread-loop-i-init
push_spread-loop-i-init g t c = record {
  but = record {
    done = [];
    parts = all_numbers (steps_in c.args.steps.now) (row_in_ref c.args.row.now) c.args.column c.args.count;
    all = took_nothing g.S.RowSink _ _ (g.met.S.RowSink.took_none _) c.requires.serves c.requires.is_open;
  };
  follows = g.met.S.RowSink.follows_refl _;
  stays = g.met.S.RowSink.stays_refl _;
}

pub push_spread-put_with-made-requires-clause-column : goal.push_spread-put_with-made-requires-clause-column
push_spread-put_with-made-requires-clause-column g t c = has_column (row_in_ref c.args.row.now) c.args.column Int c.requires.column

pub push_spread-push_through-requires : goal.push_spread-push_through-requires
push_spread-push_through-requires g t c κs within =
    let kinds : kinds_of (row_in_ref c.put_with-made.result) ≡ kinds_of (row_in_ref c.args.row.now) =
    ap (λ (row : Row). kinds_of row) c.put_with-made.ensures ∙ kinds_of_set (row_in_ref c.args.row.now) c.args.column _ c.requires.column in
    let i = c.loop-i.invariant.but.all in
    (search rules, (search rules, (search rules, (search rules, (search rules, (search rules, ((c.requires.fits.0, rw kinds c.requires.fits.1, i.accepts c.requires.fits.0 c.requires.fits.2), (i.serves, i.is_open))))))))

pub push_spread-loop-i-preserved : goal.push_spread-loop-i-preserved
push_spread-loop-i-preserved g t c =
    let i = c.loop-i.invariant in
    let row : row_in_ref c.put_with-made.result ≡ raised (row_in_ref c.args.row.now) c.args.column c.loop-i.i = c.put_with-made.ensures ∙ raised_by (row_in_ref c.args.row.now) c.args.column c.number_at-first.result c.from.result c.loop-i.i c.number_at-first.ensures c.from.ensures in
    record {
      but = took_but g.S.RowSink g.met.S.RowSink.took_more _ _ _ _ _ _ _ _ _
          (rw (next_number (steps_in c.args.steps.now) (row_in_ref c.args.row.now) c.args.column c.loop-i.i c.args.count c.loop-i-test.true) at i.but)
          (rw row at c.in-Ok.ensures.ok);
      follows = g.met.S.RowSink.follows_trans _ _ _ i.follows c.push_through.ensures.follows;
      stays = g.met.S.RowSink.stays_trans _ _ _ i.stays c.push_through.ensures.stays;
    }

pub push_spread-returns-in-Err-clause-err : goal.push_spread-returns-in-Err-clause-err
push_spread-returns-in-Err-clause-err g t c =
    let i = c.loop-i.invariant in
    let row : row_in_ref c.put_with-made.result ≡ raised (row_in_ref c.args.row.now) c.args.column c.loop-i.i = c.put_with-made.ensures ∙ raised_by (row_in_ref c.args.row.now) c.args.column c.number_at-first.result c.from.result c.loop-i.i c.number_at-first.ensures c.from.ensures in
    took_but_some g.S.RowSink g.met.S.RowSink.took_more g.met.S.RowSink.refused_from _ _ _ _ _ _ _ _ _ _ i.follows
    (rw (next_number (steps_in c.args.steps.now) (row_in_ref c.args.row.now) c.args.column c.loop-i.i c.args.count c.loop-i-test.true) at i.but)
    (rw row at c.in-Err.ensures.err)
