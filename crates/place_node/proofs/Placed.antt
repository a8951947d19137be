-- What a phase whose sinks write files comes to.
use Rattle.std.proofs.Common.{◌≡◌, ℕ, ◌+◌, ◌<◌, false, List, [], ◌∷◌, ◌++◌, map, length, Some, inl, inr, refl, sym, ap, subst, ◌∙◌, arith, length-append}
use Rattle.std.specs.Prelude.{All, ◌⊎◌, slice_get}
use Rattle.std.specs.List.{AllZip, flat_map}
use Rattle.std.proofs.lemmas.List.Elements.{All-nil, All-cons, All-head, All-tail}
use Rattle.std.proofs.lemmas.List.Concat.{flat_map-append}
use Rattle.row_defs.specs.declared.kind.Kind.{Kind}
use Rattle.row_defs.specs.Limits.{most_rows}
use Rattle.row_defs.specs.Rows.{Row}
use Rattle.row_defs.specs.LocalOps.{LocalOp, rows_through}
use Rattle.row_defs.specs.Operands.{Root}
use Rattle.block_pool.specs.Handles.{HandValue, Follows}
use Rattle.dia_file.specs.Frames.{frames}
use Rattle.dia_file.specs.Writers.{frames_of}
use Rattle.dia_file.specs.declared.refusals.PushErr.{PushErr}
use Rattle.dia_file.specs.declared.refusals.PushErr.TheVariants as push
use Rattle.lop_chain.specs.Ops.{rows_from}
use Rattle.lop_chain.specs.declared.sink.RowSink.{Ghosts}
use Rattle.file_sink.specs.Sinks as sinks
use Rattle.file_sink.specs.Sinks.{SinkValue, Wrote, RefusesTake, KeepsFile}
use Rattle.scatter.specs.declared.feed_err.FeedErr.{FeedErr}
use Rattle.scatter.specs.declared.feed_err.FeedErr.TheVariants.{Sink, Disk, Damaged, NoMemory}
use Rattle.scatter.specs.Feeds.{FeedValue}
use Rattle.scatter.specs.Lines.{Lines, root_rows, root_feeds}
use Rattle.scatter.specs.Sends.{IsCutOff}
use Rattle.scatter.specs.Phases.{Turn, AllThree, TookWhole, IsServed, HasSent, HasStopped}
use Rattle.scatter.specs.Told.{Tells, AreTold, arriving}
use Rattle.scatter.proofs.Arriving.{hand_in, sink_before, sink_after, IsToldTurn, all_back, told_turns, arrived, arrived_is, arrived_at, whole_rows, at_rank, some_hit}
use Rattle.place_node.specs.declared.node_err.NodeErr.{NodeErr}
use Rattle.place_node.specs.declared.node_err.NodeErr.TheVariants as errs
use Rattle.sink_files.specs.declared.keep_err.KeepErr.{KeepErr}
use Rattle.sink_files.specs.declared.keep_err.KeepErr.TheVariants as keeps
use Rattle.sink_files.specs.Ending.{IsFreshSink, CanFinish, IsBack}
use Rattle.sink_files.specs.Keeping.{KeepRefused}
use Rattle.sink_files.proofs.Files.{rows_in, taken_is}
use Rattle.sink_files.proofs.Hits.{hit_later}
use Rattle.place_node.specs.Placing.{node_refusal, keep_refusal, PlaceRefused}

-- a turn whose sink took no row before
abbrev IsFreshTurn : List Kind → Turn SinkValue → Type 0
IsFreshTurn kinds t = IsFreshSink kinds t.sink t.hand

fresh_turns : (kinds : List Kind) (turns : List (Turn SinkValue)) → AllZip (IsFreshSink kinds) (map sink_before turns) (map hand_in turns) → All (IsFreshTurn kinds) turns
fresh_turns kinds [] h = All-nil (IsFreshTurn kinds)
fresh_turns kinds (t ∷ turns) h = All-cons (IsFreshTurn kinds) t turns h.0 (fresh_turns kinds turns h.1)

pub fresh_in : (kinds : List Kind) (turns : List (Turn SinkValue)) (ss : List SinkValue) (hs : List HandValue) → map sink_before turns ≡ ss → map hand_in turns ≡ hs
    → AllZip (IsFreshSink kinds) ss hs → All (IsFreshTurn kinds) turns
fresh_in kinds turns ss hs are_sinks are_hands h =
    fresh_turns kinds turns (subst (λ hs. AllZip (IsFreshSink kinds) (map sink_before turns) hs) (sym are_hands) (subst (λ ss. AllZip (IsFreshSink kinds) ss hs) (sym are_sinks) h))

module _ (g : Ghosts SinkValue HandValue PushErr) (wrote : (s t : SinkValue) (rows : List Row) → g.took s rows t → Wrote s.writer rows t.writer) (kinds : List Kind) where
  took_one : (t : Turn SinkValue) → TookWhole g t → IsToldTurn t → IsFreshTurn kinds t → t.took.writer.rows ≡ rows_from t.feed.ops t.feed.left
  took_one t w told fresh =
      let rows = rows_from t.feed.ops w.sent.rows in
      (wrote t.sink t.took rows w.sent.took).rows_are ∙ ap (λ (before : List Row). before ++ rows) fresh.none ∙ ap (rows_from t.feed.ops) (sym (whole_rows g t w told))

  -- joined by rank the sinks took what arrives
  pub took_all : (turns : List (Turn SinkValue)) (now : List HandValue) → AllZip (IsServed g) turns now → All IsToldTurn turns → All (IsFreshTurn kinds) turns
      → flat_map rows_in (map sink_after turns) ≡ arrived turns
  took_all [] [] all told fresh = refl
  took_all [] (b ∷ now) all told fresh = absurd all
  took_all (t ∷ turns) [] all told fresh = absurd all
  took_all (t ∷ turns) (b ∷ now) all told fresh =
      let F = IsFreshTurn kinds in
      ap (λ rows. rows ++ flat_map rows_in (map sink_after turns)) (took_one t all.0.whole (All-head IsToldTurn t turns told) (All-head F t turns fresh))
      ∙ ap (λ rows. rows_from t.feed.ops t.feed.left ++ rows) (took_all turns now all.1 (All-tail IsToldTurn t turns told) (All-tail F t turns fresh))

  abbrev AreKinds : SinkValue → Type 0
  AreKinds s = s.writer.kinds ≡ kinds

  pub took_kinds : (turns : List (Turn SinkValue)) (now : List HandValue) → AllZip (IsServed g) turns now → All (IsFreshTurn kinds) turns → All AreKinds (map sink_after turns)
  took_kinds [] [] all fresh = All-nil AreKinds
  took_kinds [] (b ∷ now) all fresh = absurd all
  took_kinds (t ∷ turns) [] all fresh = absurd all
  took_kinds (t ∷ turns) (b ∷ now) all fresh =
      let F = IsFreshTurn kinds in
      let w = all.0.whole in
      let here = (wrote t.sink t.took (rows_from t.feed.ops w.sent.rows) w.sent.took).kinds ∙ (All-head F t turns fresh).kinds_are in
      All-cons AreKinds t.took (map sink_after turns) here (took_kinds turns now all.1 (All-tail F t turns fresh))

  -- a sink that refused a row after as many as may arrive
  too_many : (turns : List (Turn SinkValue)) (rank : ℕ) (t : Turn SinkValue) (limit : ℕ) → slice_get turns rank ≡ Some t
      → IsCutOff g t.feed t.sink t.hand (push.TooManyRows limit) t.left t.took t.met
      → ((s : SinkValue) (a : HandValue) (row : Row) (e : PushErr) (u : SinkValue) (b : HandValue) → g.refused s a row e u b → RefusesTake e s.writer a u.writer b)
      → IsToldTurn t → IsFreshTurn kinds t → most_rows < length (arrived turns)
  too_many turns rank t limit at cut refused told fresh =
      let all = arrived_at turns rank t at in
      let w = wrote t.sink cut.at cut.prefix cut.took in
      let full = (refused cut.at t.hand cut.next (push.TooManyRows limit) t.took t.met cut.refused).why.1 in
      let may : cut.at.writer.limit ≡ most_rows = w.limit ∙ fresh.limit in
      let rows : length cut.at.writer.rows ≡ length cut.prefix = ap length (w.rows_are ∙ ap (λ (before : List Row). before ++ cut.prefix) fresh.none) in
      let parts : length (rows_from t.feed.ops cut.rows) ≡ length (cut.prefix ++ cut.next ∷ cut.back) = ap length cut.parts in
      let two = length-append cut.prefix (cut.next ∷ cut.back) in
      let given : rows_from t.feed.ops t.feed.left ≡ rows_from t.feed.ops cut.rows ++ rows_from t.feed.ops t.left.left =
      ap (rows_from t.feed.ops) (cut.gives.told told) ∙ flat_map-append (rows_through t.feed.ops) cut.rows t.left.left in
      let long : length (rows_from t.feed.ops t.feed.left) ≡ length (rows_from t.feed.ops cut.rows ++ rows_from t.feed.ops t.left.left) = ap length given in
      let sum = length-append (rows_from t.feed.ops cut.rows) (rows_from t.feed.ops t.left.left) in
      omega arith

module _ (g : Ghosts SinkValue HandValue PushErr) where
  -- each sink may be finished with its hand
  pub can_finish : ((s : SinkValue) (d : HandValue) → g.serves s d → sinks.IsServed s d) → ((s : SinkValue) → g.is_shut s ≡ false → s.is_shut ≡ false)
      → (turns : List (Turn SinkValue)) (now : List HandValue) → AllZip (IsServed g) turns now → AllZip (CanFinish) (map sink_after turns) now
  can_finish served is_open [] [] all = tt
  can_finish served is_open [] (b ∷ now) all = absurd all
  can_finish served is_open (t ∷ turns) [] all = absurd all
  can_finish served is_open (t ∷ turns) (b ∷ now) all =
      (((served t.took b all.0.serves).own, is_open t.took all.0.whole.sent.is_open), can_finish served is_open turns now all.1)

  abbrev AreSame : HandValue → HandValue → Type 0
  AreSame a b = b.permits ≡ a.permits

  -- each hand has its permits again once its sink is ended
  pub permits_back : (kinds : List Kind) → ((s t : SinkValue) (a b : HandValue) → g.held t b ≡ g.held s a → b.permits + frames_of t.writer ≡ a.permits + frames_of s.writer)
      → (turns : List (Turn SinkValue)) (now end : List HandValue) → AllZip (IsServed g) turns now → All (IsFreshTurn kinds) turns → AllThree IsBack (map sink_after turns) now end → AllZip AreSame (map hand_in turns) end
  permits_back kinds held [] [] [] all fresh back = tt
  permits_back kinds held (t ∷ turns) (b ∷ now) (c ∷ end) all fresh back =
      let F = IsFreshTurn kinds in
      let f = All-head F t turns fresh in
      let none : frames_of t.sink.writer ≡ 0 = ap (λ frame. frames frame) f.frame in
      let same = held t.sink t.took t.hand b all.0.held in
      let back_is = back.0.1 in
      (omega arith, permits_back kinds held turns now end all.1 (All-tail F t turns fresh) back.1)
  permits_back kinds held [] [] (c ∷ end) all fresh back = absurd back
  permits_back kinds held [] (b ∷ now) end all fresh back = absurd all
  permits_back kinds held (t ∷ turns) [] end all fresh back = absurd all
  permits_back kinds held (t ∷ turns) (b ∷ now) [] all fresh back = absurd back

-- refusals ------------------------------------------------------------------------------------------------------------------

-- a refusal stays one when the hands go on
pub refused_later : (lines : Lines) (root : Root) (ops : List LocalOp) (hands now end : List HandValue) (e : NodeErr) → AllZip Follows now end
    → PlaceRefused lines root ops hands now e → PlaceRefused lines root ops hands end e
refused_later lines root ops hands now end (errs.Disk count) later h = hit_later hands now end count later h
refused_later lines root ops hands now end errs.Damaged later h = h
refused_later lines root ops hands now end errs.NoMemory later h = h
refused_later lines root ops hands now end errs.TooManyRows later h = h

module _ (g : Ghosts SinkValue HandValue PushErr) (wrote : (s t : SinkValue) (rows : List Row) → g.took s rows t → Wrote s.writer rows t.writer)
    (refused : (s : SinkValue) (a : HandValue) (row : Row) (e : PushErr) (u : SinkValue) (b : HandValue) → g.refused s a row e u b → RefusesTake e s.writer a u.writer b)
    (lines : Lines) (workers : ℕ) (root : Root) (last : _) (ops : List LocalOp) (kinds : List Kind) (ss : List SinkValue) (hands : List HandValue) (took : List SinkValue) (now : List HandValue)
    (joined : flat_map (λ (f : FeedValue). f.left) (root_feeds lines workers root last ops) ≡ root_rows lines root) (fresh : AllZip (IsFreshSink kinds) ss hands) where
  -- the rows that arrive, where they are told
  pub placed_rows : HasSent g (root_feeds lines workers root last ops) ss hands took now → AreTold root hands → flat_map rows_in took ≡ arriving lines root ops
  placed_rows sent told =
      let are = sent.are in
      ap (flat_map rows_in) (sym are.took_is)
      ∙ took_all g wrote kinds sent.turns now sent.all (told_turns lines workers root last ops hands sent.turns are.feeds_are are.hands_are told)
      (fresh_in kinds sent.turns ss hands are.sinks_are are.hands_are fresh)
      ∙ arrived_is lines workers root last ops sent.turns are.feeds_are joined

  pub placed_kinds : HasSent g (root_feeds lines workers root last ops) ss hands took now → All (λ (s : SinkValue). s.writer.kinds ≡ kinds) took
  placed_kinds sent =
      let are = sent.are in
      subst (λ (ss : List SinkValue). All (λ (s : SinkValue). s.writer.kinds ≡ kinds) ss) are.took_is
      (took_kinds g wrote kinds sent.turns now sent.all (fresh_in kinds sent.turns ss hands are.sinks_are are.hands_are fresh))

  pub placed_ends : ((s : SinkValue) (d : HandValue) → g.serves s d → sinks.IsServed s d) → ((s : SinkValue) → g.is_shut s ≡ false → s.is_shut ≡ false)
      → HasSent g (root_feeds lines workers root last ops) ss hands took now → AllZip (CanFinish) took now
  placed_ends served is_open sent = subst (λ (ts : List SinkValue). AllZip (CanFinish) ts now) sent.are.took_is (can_finish g served is_open sent.turns now sent.all)

  pub placed_permits : ((s t : SinkValue) (a b : HandValue) → g.held t b ≡ g.held s a → b.permits + frames_of t.writer ≡ a.permits + frames_of s.writer) → (end : List HandValue)
      → HasSent g (root_feeds lines workers root last ops) ss hands took now → AllThree IsBack took now end → AllZip (λ (a b : HandValue). b.permits ≡ a.permits) hands end
  placed_permits held end sent back =
      let are = sent.are in
      subst (λ (hs : List HandValue). AllZip (λ (a b : HandValue). b.permits ≡ a.permits) hs end) are.hands_are
      (permits_back g kinds held sent.turns now end sent.all (fresh_in kinds sent.turns ss hands are.sinks_are are.hands_are fresh)
      (subst (λ (ts : List SinkValue). AllThree IsBack ts now end) (sym are.took_is) back))

  stopped_by : (e : FeedErr PushErr) → HasStopped g (root_feeds lines workers root last ops) ss hands took now e → PlaceRefused lines root ops hands now (node_refusal e)
  stopped_by (Sink (push.Disk count)) stop =
      let cut = stop.unsent in
      some_hit stop.turns hands now stop.rank stop.turn count stop.at stop.are.hands_are stop.later
      (refused cut.at stop.turn.hand cut.next (push.Disk count) stop.turn.took stop.turn.met cut.refused).why
  stopped_by (Sink push.NoMemory) stop = tt
  stopped_by (Sink (push.TooManyRows limit)) stop = λ told.
      let are = stop.are in
      let all_told = told_turns lines workers root last ops hands stop.turns are.feeds_are are.hands_are told in
      let all_fresh = fresh_in kinds stop.turns ss hands are.sinks_are are.hands_are fresh in
      let many = too_many g wrote kinds stop.turns stop.rank stop.turn limit stop.at stop.unsent refused
      (at_rank IsToldTurn stop.turns stop.rank stop.turn stop.at all_told) (at_rank (IsFreshTurn kinds) stop.turns stop.rank stop.turn stop.at all_fresh) in
      subst (λ rows. most_rows < length rows) (arrived_is lines workers root last ops stop.turns are.feeds_are joined) many
  stopped_by (Disk count) stop = some_hit stop.turns hands now stop.rank stop.turn count stop.at stop.are.hands_are stop.later stop.unsent.1
  stopped_by Damaged stop = λ tells.
      stop.unsent.1 (at_rank (λ (t : Turn SinkValue). Tells t.hand) stop.turns stop.rank stop.turn stop.at
      (all_back hand_in Tells stop.turns (subst (λ hs. All Tells hs) (sym stop.are.hands_are) tells)))
  stopped_by NoMemory stop = tt

  pub refused_by : (e : FeedErr PushErr) → (e ≡ NoMemory) ⊎ HasStopped g (root_feeds lines workers root last ops) ss hands took now e → PlaceRefused lines root ops hands now (node_refusal e)
  refused_by e (inl is) = subst (λ f. PlaceRefused lines root ops hands now (node_refusal f)) (sym is) tt
  refused_by e (inr stop) = stopped_by e stop

  -- all was sent, and then there was no memory, or there were too many rows together
  pub refused_end : (e : KeepErr) (end : List HandValue) → HasSent g (root_feeds lines workers root last ops) ss hands took now → KeepRefused took e
      → PlaceRefused lines root ops hands end (keep_refusal e)
  refused_end keeps.NoMemory end sent why = tt
  refused_end keeps.TooManyRows end sent many = λ told. subst (λ n. most_rows < n) (taken_is took ∙ ap length (placed_rows sent told)) many
