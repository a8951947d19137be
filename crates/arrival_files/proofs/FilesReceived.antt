-- What a phase that receives comes to, where its sinks write files.
use Rattle.std.proofs.Common.{◌≡◌, ℕ, ◌+◌, ◌<◌, false, List, [], ◌∷◌, ◌++◌, map, length, inl, inr, refl, sym, ap, subst, ◌∙◌, arith, length-append}
use Rattle.std.specs.Prelude.{All, ◌⊎◌}
use Rattle.std.specs.List.{AllZip, flat_map}
use Rattle.std.proofs.lemmas.List.Elements.{All-nil, All-cons, All-head, All-tail}
use Rattle.row_defs.specs.declared.kind.Kind.{Kind}
use Rattle.row_defs.specs.Limits.{most_rows}
use Rattle.row_defs.specs.Rows.{Row}
use Rattle.block_pool.specs.Handles.{HandValue, Follows}
use Rattle.dia_file.specs.Files.{FileValue}
use Rattle.dia_file.specs.Frames.{frames}
use Rattle.dia_file.specs.Writers.{frames_of}
use Rattle.dia_file.specs.declared.refusals.PushErr.{PushErr}
use Rattle.dia_file.specs.declared.refusals.PushErr.TheVariants as push
use Rattle.lop_chain.specs.declared.sink.RowSink.{Ghosts}
use Rattle.file_sink.specs.Sinks as sinks
use Rattle.file_sink.specs.Sinks.{SinkValue, Wrote, RefusesTake}
use Rattle.multiplexer.specs.declared.inbox.Inbox.{Inbox}
use Rattle.scatter.specs.declared.feed_err.FeedErr.{FeedErr}
use Rattle.scatter.specs.declared.feed_err.FeedErr.TheVariants.{Sink, Disk, Damaged, NoMemory}
use Rattle.scatter.specs.Phases.{AllThree}
use Rattle.scatter.specs.Told.{Tells}
use Rattle.scatter.proofs.Arriving.{at_rank}
use Rattle.sink_files.specs.declared.keep_err.KeepErr.{KeepErr}
use Rattle.sink_files.specs.declared.keep_err.KeepErr.TheVariants as keeps
use Rattle.sink_files.specs.Ending.{IsFreshSink, CanFinish, IsBack, IsFileFrom}
use Rattle.sink_files.specs.Keeping.{KeepRefused}
use Rattle.sink_files.proofs.Files.{rows_in, taken_is}
use Rattle.sink_files.proofs.Hits.{hit_later}
use Rattle.arrivals.specs.Boxes.{Holds, joined}
use Rattle.arrivals.specs.Receives.{IsCutOff}
use Rattle.arrivals.specs.Phases.{Turn, TookBox, IsServed, HasReceived, HasStopped}
use Rattle.arrival_files.specs.declared.receive_err.ReceiveErr.{ReceiveErr}
use Rattle.arrival_files.specs.declared.receive_err.ReceiveErr.TheVariants as errs
use Rattle.arrival_files.specs.Receiving.{HasRowsOf, HoldAll, rows_received, ReceiveRefused, fault_of_phase, fault_of_keeping}
use Rattle.arrival_files.proofs.Turns.{box_in, hand_in, sink_after, IsFreshTurn, fresh_in, tells_at, held_at, received_at, some_hit}

module _ (g : Ghosts SinkValue HandValue PushErr) (wrote : (s t : SinkValue) (rows : List Row) → g.took s rows t → Wrote s.writer rows t.writer) (kinds : List Kind) where
  took_one : (t : Turn SinkValue) → TookBox g kinds t → IsFreshTurn kinds t → Tells t.hand → (lists : List (List Row)) → Holds kinds t.box.packets.items lists → t.took.writer.rows ≡ joined lists
  took_one t w fresh tells lists holds =
      (wrote t.sink t.took w.rows w.took).rows_are ∙ ap (λ (before : List Row). before ++ w.rows) fresh.none ∙ w.all.told tells lists holds

  -- each file has the rows of its box
  files_all : (turns : List (Turn SinkValue)) (now end : List HandValue) (files : List FileValue) → AllZip (IsServed g kinds) turns now → All (IsFreshTurn kinds) turns
      → AllThree IsFileFrom (map sink_after turns) end files → AllThree (HasRowsOf kinds) (map hand_in turns) (map box_in turns) files
  files_all [] [] [] [] all fresh from = tt
  files_all (t ∷ turns) (b ∷ now) (c ∷ end) (f ∷ files) all fresh from =
      let F = IsFreshTurn kinds in
      (λ tells lists holds. from.0.rows ∙ took_one t all.0.all (All-head F t turns fresh) tells lists holds, files_all turns now end files all.1 (All-tail F t turns fresh) from.1)
  files_all [] (b ∷ now) end files all fresh from = absurd all
  files_all (t ∷ turns) [] end files all fresh from = absurd all
  files_all [] [] [] (f ∷ files) all fresh from = absurd from
  files_all [] [] (c ∷ end) files all fresh from = absurd from
  files_all (t ∷ turns) (b ∷ now) [] files all fresh from = absurd from
  files_all (t ∷ turns) (b ∷ now) (c ∷ end) [] all fresh from = absurd from

  -- joined by rank the sinks took what is received
  took_all : (turns : List (Turn SinkValue)) (now : List HandValue) (all : List (List (List Row))) → AllZip (IsServed g kinds) turns now → All (IsFreshTurn kinds) turns → All Tells (map hand_in turns)
      → HoldAll kinds (map box_in turns) all → flat_map rows_in (map sink_after turns) ≡ rows_received all
  took_all [] now [] served fresh tells hold = refl
  took_all [] now (lists ∷ all) served fresh tells hold = absurd hold
  took_all (t ∷ turns) now [] served fresh tells hold = absurd hold
  took_all (t ∷ turns) [] (lists ∷ all) served fresh tells hold = absurd served
  took_all (t ∷ turns) (b ∷ now) (lists ∷ all) served fresh tells hold =
      let F = IsFreshTurn kinds in
      let here = took_one t served.0.all (All-head F t turns fresh) (All-head Tells t.hand (map hand_in turns) tells) lists hold.0 in
      let rest = took_all turns now all served.1 (All-tail F t turns fresh) (All-tail Tells t.hand (map hand_in turns) tells) hold.1 in
      ap (λ (rows : List Row). rows ++ flat_map rows_in (map sink_after turns)) here ∙ ap (λ (rows : List Row). joined lists ++ rows) rest

  abbrev AreKinds : SinkValue → Type 0
  AreKinds s = s.writer.kinds ≡ kinds

  took_kinds : (turns : List (Turn SinkValue)) (now : List HandValue) → AllZip (IsServed g kinds) turns now → All (IsFreshTurn kinds) turns → All AreKinds (map sink_after turns)
  took_kinds [] [] all fresh = All-nil AreKinds
  took_kinds [] (b ∷ now) all fresh = absurd all
  took_kinds (t ∷ turns) [] all fresh = absurd all
  took_kinds (t ∷ turns) (b ∷ now) all fresh =
      let F = IsFreshTurn kinds in
      let w = all.0.all in
      let here = (wrote t.sink t.took w.rows w.took).kinds ∙ (All-head F t turns fresh).kinds_are in
      All-cons AreKinds t.took (map sink_after turns) here (took_kinds turns now all.1 (All-tail F t turns fresh))

  -- a sink that refused a row after as many as a line may have
  too_many : (t : Turn SinkValue) (limit : ℕ) → IsCutOff g kinds (Holds kinds t.box.packets.items) t.sink t.hand (push.TooManyRows limit) t.left t.took t.met
      → ((s : SinkValue) (a : HandValue) (row : Row) (e : PushErr) (u : SinkValue) (b : HandValue) → g.refused s a row e u b → RefusesTake e s.writer a u.writer b)
      → IsFreshTurn kinds t → Tells t.hand → (lists : List (List Row)) → Holds kinds t.box.packets.items lists → most_rows < length (joined lists)
  too_many t limit cut refused fresh tells lists holds =
      let w = wrote t.sink cut.at cut.rows cut.took in
      let full = (refused cut.at t.hand cut.next (push.TooManyRows limit) t.took t.met cut.refused).why.1 in
      let may : cut.at.writer.limit ≡ most_rows = w.limit ∙ fresh.limit in
      let rows : length cut.at.writer.rows ≡ length cut.rows = ap length (w.rows_are ∙ ap (λ (before : List Row). before ++ cut.rows) fresh.none) in
      let first = cut.gives.told tells lists holds in
      let long : length (joined lists) ≡ length ((cut.rows ++ cut.next ∷ []) ++ joined first.rest) = ap length first.parts in
      let two = length-append (cut.rows ++ cut.next ∷ []) (joined first.rest) in
      let one = length-append cut.rows (cut.next ∷ []) in
      omega arith

module _ (g : Ghosts SinkValue HandValue PushErr) where
  -- each sink may be finished with its hand
  can_finish : (kinds : List Kind) → ((s : SinkValue) (d : HandValue) → g.serves s d → sinks.IsServed s d) → ((s : SinkValue) → g.is_shut s ≡ false → s.is_shut ≡ false)
      → (turns : List (Turn SinkValue)) (now : List HandValue) → AllZip (IsServed g kinds) turns now → AllZip CanFinish (map sink_after turns) now
  can_finish kinds served is_open [] [] all = tt
  can_finish kinds served is_open [] (b ∷ now) all = absurd all
  can_finish kinds served is_open (t ∷ turns) [] all = absurd all
  can_finish kinds served is_open (t ∷ turns) (b ∷ now) all =
      (((served t.took b all.0.serves).own, is_open t.took all.0.all.is_open), can_finish kinds served is_open turns now all.1)

  abbrev AreSame : HandValue → HandValue → Type 0
  AreSame a b = b.permits ≡ a.permits

  -- each hand has its permits again once its sink is ended
  permits_back : (kinds : List Kind) → ((s t : SinkValue) (a b : HandValue) → g.held t b ≡ g.held s a → b.permits + frames_of t.writer ≡ a.permits + frames_of s.writer)
      → (turns : List (Turn SinkValue)) (now end : List HandValue) → AllZip (IsServed g kinds) turns now → All (IsFreshTurn kinds) turns → AllThree IsBack (map sink_after turns) now end → AllZip AreSame (map hand_in turns) end
  permits_back kinds held [] [] [] all fresh back = tt
  permits_back kinds held (t ∷ turns) (b ∷ now) (c ∷ end) all fresh back =
      let F = IsFreshTurn kinds in
      let f = All-head F t turns fresh in
      let none : frames_of t.sink.writer ≡ 0 = ap (λ frame. frames frame) f.frame in
      let same = held t.sink t.took t.hand b all.0.held in
      let back_is = back.0.1 in
      (omega arith, permits_back kinds held turns now end all.1 (All-tail F t turns fresh) back.1)
  permits_back kinds held [] [] (c ∷ end) all fresh back = absurd back
  permits_back kinds held [] (b ∷ now) end all fresh back = absurd all
  permits_back kinds held (t ∷ turns) [] end all fresh back = absurd all
  permits_back kinds held (t ∷ turns) (b ∷ now) [] all fresh back = absurd back

-- a refusal stays one when the hands go on
pub refused_later : (kinds : List Kind) (boxes : List Inbox) (hands now end : List HandValue) (e : ReceiveErr) → AllZip Follows now end → ReceiveRefused kinds boxes hands now e → ReceiveRefused kinds boxes hands end e
refused_later kinds boxes hands now end (errs.Disk count) later h = hit_later hands now end count later h
refused_later kinds boxes hands now end errs.Damaged later h = h
refused_later kinds boxes hands now end errs.NoMemory later h = h
refused_later kinds boxes hands now end errs.TooManyRows later h = h

module _ (g : Ghosts SinkValue HandValue PushErr) (wrote : (s t : SinkValue) (rows : List Row) → g.took s rows t → Wrote s.writer rows t.writer)
    (refused : (s : SinkValue) (a : HandValue) (row : Row) (e : PushErr) (u : SinkValue) (b : HandValue) → g.refused s a row e u b → RefusesTake e s.writer a u.writer b)
    (kinds : List Kind) (boxes : List Inbox) (ss : List SinkValue) (hands : List HandValue) (took : List SinkValue) (now : List HandValue) (fresh : AllZip (IsFreshSink kinds) ss hands) where
  pub received_rows : (end : List HandValue) (files : List FileValue) → HasReceived g kinds boxes ss hands took now → AllThree IsFileFrom took end files → AllThree (HasRowsOf kinds) hands boxes files
  received_rows end files got from =
      let are = got.are in
      let all = files_all g wrote kinds got.turns now end files got.all (fresh_in kinds got.turns ss hands are.sinks_are are.hands_are fresh)
      (subst (λ (ts : List SinkValue). AllThree IsFileFrom ts end files) (sym are.took_is) from) in
      subst (λ (xs : List Inbox). AllThree (HasRowsOf kinds) hands xs files) are.boxes_are
      (subst (λ (hs : List HandValue). AllThree (HasRowsOf kinds) hs (map box_in got.turns) files) are.hands_are all)

  pub received_kinds : HasReceived g kinds boxes ss hands took now → All (λ (s : SinkValue). s.writer.kinds ≡ kinds) took
  received_kinds got =
      let are = got.are in
      subst (λ (ts : List SinkValue). All (λ (s : SinkValue). s.writer.kinds ≡ kinds) ts) are.took_is
      (took_kinds g wrote kinds got.turns now got.all (fresh_in kinds got.turns ss hands are.sinks_are are.hands_are fresh))

  pub received_ends : ((s : SinkValue) (d : HandValue) → g.serves s d → sinks.IsServed s d) → ((s : SinkValue) → g.is_shut s ≡ false → s.is_shut ≡ false)
      → HasReceived g kinds boxes ss hands took now → AllZip CanFinish took now
  received_ends served is_open got = subst (λ (ts : List SinkValue). AllZip CanFinish ts now) got.are.took_is (can_finish g kinds served is_open got.turns now got.all)

  pub received_permits : ((s t : SinkValue) (a b : HandValue) → g.held t b ≡ g.held s a → b.permits + frames_of t.writer ≡ a.permits + frames_of s.writer) → (end : List HandValue)
      → HasReceived g kinds boxes ss hands took now → AllThree IsBack took now end → AllZip (λ (a b : HandValue). b.permits ≡ a.permits) hands end
  received_permits held end got back =
      let are = got.are in
      subst (λ (hs : List HandValue). AllZip (λ (a b : HandValue). b.permits ≡ a.permits) hs end) are.hands_are
      (permits_back g kinds held got.turns now end got.all (fresh_in kinds got.turns ss hands are.sinks_are are.hands_are fresh)
      (subst (λ (ts : List SinkValue). AllThree IsBack ts now end) (sym are.took_is) back))

  -- the rows that are received, where they are told
  received_all : (all : List (List (List Row))) → HasReceived g kinds boxes ss hands took now → All Tells hands → HoldAll kinds boxes all → flat_map rows_in took ≡ rows_received all
  received_all all got tells hold =
      let are = got.are in
      ap (flat_map rows_in) (sym are.took_is)
      ∙ took_all g wrote kinds got.turns now all got.all (fresh_in kinds got.turns ss hands are.sinks_are are.hands_are fresh)
      (subst (λ hs. All Tells hs) (sym are.hands_are) tells) (subst (λ xs. HoldAll kinds xs all) (sym are.boxes_are) hold)

  stopped_by : (e : FeedErr PushErr) → HasStopped g kinds boxes ss hands took now e → ReceiveRefused kinds boxes hands now (fault_of_phase e)
  stopped_by (Sink (push.Disk count)) stop =
      let cut = stop.unreceived in
      some_hit stop.turns hands now stop.rank stop.turn count stop.at stop.are.hands_are stop.ended
      (refused cut.at stop.turn.hand cut.next (push.Disk count) stop.turn.took stop.turn.met cut.refused).why
  stopped_by (Sink push.NoMemory) stop = tt
  stopped_by (Sink (push.TooManyRows limit)) stop = λ tells all hold.
      let are = stop.are in
      let held = held_at kinds stop.turns all stop.rank stop.turn stop.at (subst (λ xs. HoldAll kinds xs all) (sym are.boxes_are) hold) in
      let f = at_rank (IsFreshTurn kinds) stop.turns stop.rank stop.turn stop.at (fresh_in kinds stop.turns ss hands are.sinks_are are.hands_are fresh) in
      let many = too_many g wrote kinds stop.turn limit stop.unreceived refused f (tells_at stop.turns hands stop.rank stop.turn stop.at are.hands_are tells) held.0 held.2 in
      let few = received_at all stop.rank held.0 held.1 in
      omega (arith, many, few)
  stopped_by (Disk count) stop = some_hit stop.turns hands now stop.rank stop.turn count stop.at stop.are.hands_are stop.ended stop.unreceived.1
  stopped_by Damaged stop = λ tells all hold.
      let held = held_at kinds stop.turns all stop.rank stop.turn stop.at (subst (λ xs. HoldAll kinds xs all) (sym stop.are.boxes_are) hold) in
      stop.unreceived.1 (tells_at stop.turns hands stop.rank stop.turn stop.at stop.are.hands_are tells) held.0 held.2
  stopped_by NoMemory stop = tt

  pub refused_by : (e : FeedErr PushErr) → (e ≡ NoMemory) ⊎ HasStopped g kinds boxes ss hands took now e → ReceiveRefused kinds boxes hands now (fault_of_phase e)
  refused_by e (inl is) = subst (λ f. ReceiveRefused kinds boxes hands now (fault_of_phase f)) (sym is) tt
  refused_by e (inr stop) = stopped_by e stop

  -- all was received, and then there was no memory, or there were too many rows together
  pub refused_end : (e : KeepErr) (end : List HandValue) → HasReceived g kinds boxes ss hands took now → KeepRefused took e → ReceiveRefused kinds boxes hands end (fault_of_keeping e)
  refused_end keeps.NoMemory end got why = tt
  refused_end keeps.TooManyRows end got many = λ tells all hold. subst (λ n. most_rows < n) (taken_is took ∙ ap length (received_all all got tells hold)) many
