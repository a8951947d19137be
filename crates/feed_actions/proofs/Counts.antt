-- What counters come to.
use Rattle.std.proofs.Common.{◌≡◌, ℕ, ◌+◌, ◌<◌, false, List, [], ◌∷◌, map, length, inl, inr, sym, ap, subst, ◌∙◌, arith}
use Rattle.std.specs.Prelude.{All, ◌⊎◌}
use Rattle.std.specs.List.{AllZip, flat_map, sum_by}
use Rattle.std.proofs.lemmas.List.Elements.{All-head, All-tail}
use Rattle.row_defs.specs.Limits.{most_rows}
use Rattle.row_defs.specs.Rows.{Row}
use Rattle.row_defs.specs.LocalOps.{LocalOp}
use Rattle.row_defs.specs.Operands.{Root}
use Rattle.block_pool.specs.Handles.{HandValue}
use Rattle.lop_chain.specs.Rows.{Kinds}
use Rattle.lop_chain.specs.declared.sink.RowSink.{Ghosts}
use Rattle.scatter.specs.declared.feed_err.FeedErr.{FeedErr}
use Rattle.scatter.specs.declared.feed_err.FeedErr.TheVariants.{Sink, Disk, Damaged, NoMemory}
use Rattle.scatter.specs.Feeds.{FeedValue}
use Rattle.scatter.specs.Lines.{Lines, root_rows, root_feeds}
use Rattle.scatter.specs.Phases.{Turn, CanTake, HasSent, HasStopped}
use Rattle.feed_actions.specs.declared.counter.TooManyRows.{TooManyRows}
use Rattle.scatter.specs.Told.{Tells, AreTold, HasPermit, arriving}
use Rattle.scatter.proofs.Arriving.{hand_in, sink_before, IsToldTurn, all_back, told_turns, arrived_is, at_rank, some_hit}
use Rattle.feed_actions.specs.Counting.{CountRefused}
use Rattle.feed_actions.proofs.TurnCounts.{count_all, too_many}

-- sinks that each hand with a permit serves
module _ {S R : Type 0} (g : Ghosts S HandValue R) (Is : S → Type 0) (to : Kinds) (accepts : (s : S) → Is s → g.accepts s to) (is_open : (s : S) → Is s → g.is_shut s ≡ false) (serves : (s : S) (a : HandValue) → g.serves s a) where
  pub can_take : (sinks : List S) (hands : List HandValue) → length sinks ≡ length hands → All Is sinks → All HasPermit hands → AllZip (CanTake g to) sinks hands
  can_take [] [] long all permits = tt
  can_take [] (a ∷ hands) long all permits = absurd (omega (arith, long))
  can_take (s ∷ sinks) [] long all permits = absurd (omega (arith, long))
  can_take (s ∷ sinks) (a ∷ hands) long all permits =
      let is = All-head Is s sinks all in (
        record {
          accepts = accepts s is;
          is_open = is_open s is;
          serves = λ b same more. serves s b;
          permit = All-head HasPermit a hands permits;
        },
        can_take sinks hands (omega (arith, long)) (All-tail Is s sinks all) (All-tail HasPermit a hands permits),
      )

-- sinks that count
module _ {S : Type 0} (g : Ghosts S HandValue TooManyRows) (counted : S → ℕ) (counts : (s t : S) (rows : List Row) → g.took s rows t → counted t ≡ counted s + length rows)
    (full : (s : S) (a : HandValue) (row : Row) (e : TooManyRows) (u : S) (b : HandValue) → g.refused s a row e u b → counted s ≡ most_rows)
    (lines : Lines) (workers : ℕ) (root : Root) (last : _) (ops : List LocalOp) (sinks : List S) (hands : List HandValue) (took : List S) (now : List HandValue)
    (joined : flat_map (λ (f : FeedValue). f.left) (root_feeds lines workers root last ops) ≡ root_rows lines root) (none : All (λ s. counted s ≡ 0) sinks) where
  none_turns : (turns : List (Turn S)) → map sink_before turns ≡ sinks → All (λ (t : Turn S). counted t.sink ≡ 0) turns
  none_turns turns are = all_back sink_before (λ s. counted s ≡ 0) turns (subst (λ ss. All (λ s. counted s ≡ 0) ss) (sym are) none)

  pub counted_all : HasSent g (root_feeds lines workers root last ops) sinks hands took now → AreTold root hands → sum_by counted took ≡ length (arriving lines root ops)
  counted_all sent told =
      let are = sent.are in
      let all = count_all g counted counts sent.turns now sent.all (told_turns lines workers root last ops hands sent.turns are.feeds_are are.hands_are told) (none_turns sent.turns are.sinks_are) in
      ap (sum_by counted) (sym are.took_is) ∙ all ∙ ap length (arrived_is lines workers root last ops sent.turns are.feeds_are joined)

  stopped_by : (e : FeedErr TooManyRows) → HasStopped g (root_feeds lines workers root last ops) sinks hands took now e → CountRefused lines root ops hands now e
  stopped_by (Sink e) stop = λ told.
      let are = stop.are in
      let all_told = told_turns lines workers root last ops hands stop.turns are.feeds_are are.hands_are told in
      let fresh = none_turns stop.turns are.sinks_are in
      let many = too_many g counted counts stop.turns stop.rank stop.turn e stop.at stop.unsent full
      (at_rank IsToldTurn stop.turns stop.rank stop.turn stop.at all_told) (at_rank (λ (t : Turn S). counted t.sink ≡ 0) stop.turns stop.rank stop.turn stop.at fresh) in
      subst (λ rows. most_rows < length rows) (arrived_is lines workers root last ops stop.turns are.feeds_are joined) many
  stopped_by (Disk count) stop = some_hit stop.turns hands now stop.rank stop.turn count stop.at stop.are.hands_are stop.later stop.unsent.1
  stopped_by Damaged stop = λ tells.
      stop.unsent.1 (at_rank (λ (t : Turn S). Tells t.hand) stop.turns stop.rank stop.turn stop.at
      (all_back hand_in Tells stop.turns (subst (λ hs. All Tells hs) (sym stop.are.hands_are) tells)))
  stopped_by NoMemory stop = tt

  pub refused_by : (e : FeedErr TooManyRows) → (e ≡ NoMemory) ⊎ HasStopped g (root_feeds lines workers root last ops) sinks hands took now e → CountRefused lines root ops hands now e
  refused_by e (inl is) = subst (λ f. CountRefused lines root ops hands now f) (sym is) tt
  refused_by e (inr stop) = stopped_by e stop
