-- Why an operand isn't linked.
use Rattle.std.proofs.Common.{◌≡◌, ℕ, ◌<◌, Bool, List, ◌∷◌, ◌++◌, length, Some, inl, inr, sym, ap, subst, ◌∙◌, arith, length-append}
use Rattle.std.specs.Prelude.{All, ◌⊎◌, slice_get}
use Rattle.std.specs.List.{AllZip}
use Rattle.std.proofs.lemmas.List.Concat.{flat_map-append}
use Rattle.row_defs.specs.Rows.{Row}
use Rattle.row_defs.specs.LocalOps.{LocalOp, rows_through}
use Rattle.row_defs.specs.Operands.{Root}
use Rattle.block_pool.specs.Handles.{HandValue, Follows}
use Rattle.lop_chain.specs.Ops.{rows_from}
use Rattle.lop_chain.specs.declared.sink.RowSink.{Ghosts}
use Rattle.multiplexer.specs.declared.post.Post as posts
use Rattle.exchange.specs.Limits.{most_dealt}
use Rattle.exchange.specs.Serving.{Answered, ScatterValue, RefusesRow}
use Rattle.exchange.specs.declared.scatter_err.ScatterErr.{ScatterErr}
use Rattle.exchange.specs.declared.scatter_err.ScatterErr.TheVariants as deals
use Rattle.scatter.specs.declared.feed_err.FeedErr.{FeedErr}
use Rattle.scatter.specs.declared.feed_err.FeedErr.TheVariants.{Sink, Disk, Damaged, NoMemory}
use Rattle.scatter.specs.declared.net_err.NetErr.{NetErr}
use Rattle.scatter.specs.declared.net_err.NetErr.TheVariants as nets
use Rattle.scatter.specs.Carrying.{NotCarried}
use Rattle.scatter.specs.Lines.{Lines, root_feeds}
use Rattle.scatter.specs.Sends.{IsCutOff}
use Rattle.scatter.specs.Phases.{Turn, HasStopped}
use Rattle.scatter.specs.Told.{Tells, AreTold}
use Rattle.scatter.proofs.Hands.{all_tell, hit_since}
use Rattle.scatter.proofs.Arriving.{hand_in, sink_before, IsToldTurn, all_back, told_turns, at_rank, map_at, some_hit}
use Rattle.link.specs.Linking.{rows_sent}
use Rattle.link.specs.Dealers.{TookOfKinds}
use Rattle.link.specs.declared.link_err.LinkErr.{LinkErr}
use Rattle.link.specs.Refusals.{LinkRefused, fault_of_phase, fault_of_net}
use Rattle.link.proofs.Sent.{made_in, made_sent}

module _ {F P : Type 0} (p : posts.Ghosts P) (post : Answered F) (g : Ghosts (ScatterValue F P) HandValue ScatterErr) (took : (s t : ScatterValue F P) (rows : List Row) → g.took s rows t → TookOfKinds post p s rows t)
    (refused : (s : ScatterValue F P) (a : HandValue) (row : Row) (e : ScatterErr) (u : ScatterValue F P) (b : HandValue) → g.refused s a row e u b → RefusesRow e s.taken a b) where
  abbrev TookNone : ScatterValue F P → Type 0
  TookNone s = s.taken ≡ 0

  -- a scatter that refused a row after as many as may be
  too_many : (t : Turn (ScatterValue F P)) → IsCutOff g t.feed t.sink t.hand deals.TooManyRows t.left t.took t.met → IsToldTurn t → TookNone t.sink → most_dealt < length (made_in t)
  too_many t cut told none =
      let full : cut.at.taken ≡ most_dealt = refused cut.at t.hand cut.next deals.TooManyRows t.took t.met cut.refused in
      let count = (took t.sink cut.at cut.prefix cut.took).took.0.count in
      let parts : length (rows_from t.feed.ops cut.rows) ≡ length (cut.prefix ++ cut.next ∷ cut.back) = ap length cut.parts in
      let two = length-append cut.prefix (cut.next ∷ cut.back) in
      let given : rows_from t.feed.ops t.feed.left ≡ rows_from t.feed.ops cut.rows ++ rows_from t.feed.ops t.left.left =
      ap (rows_from t.feed.ops) (cut.gives.told told) ∙ flat_map-append (rows_through t.feed.ops) cut.rows t.left.left in
      let long : length (rows_from t.feed.ops t.feed.left) ≡ length (rows_from t.feed.ops cut.rows ++ rows_from t.feed.ops t.left.left) = ap length given in
      let sum = length-append (rows_from t.feed.ops cut.rows) (rows_from t.feed.ops t.left.left) in
      omega (arith, full, count, parts, two, long, sum, none)

  module _ (lines : Lines) (workers : ℕ) (root : Root) (last : Bool) (ops : List LocalOp) (ss : List (ScatterValue F P)) (hands : List HandValue) (ts : List (ScatterValue F P)) (now : List HandValue)
      (fresh : All TookNone ss) (carries : Bool) (faults : ℕ) where
    abbrev Refused : LinkErr → Type 0
    Refused e = LinkRefused (rows_sent lines workers root ops) (AreTold root hands) carries faults faults hands now e

    stopped_by : (e : FeedErr ScatterErr) → HasStopped g (root_feeds lines workers root last ops) ss hands ts now e → Refused (fault_of_phase e)
    stopped_by (Sink (deals.Disk count)) stop =
        let cut = stop.unsent in
        some_hit stop.turns hands now stop.rank stop.turn count stop.at stop.are.hands_are stop.later
        (refused cut.at stop.turn.hand cut.next (deals.Disk count) stop.turn.took stop.turn.met cut.refused)
    stopped_by (Sink deals.NoMemory) stop = tt
    stopped_by (Sink deals.TooManyRows) stop = λ told.
        let are = stop.are in
        let all_told = told_turns lines workers root last ops hands stop.turns are.feeds_are are.hands_are told in
        let none : All (λ (t : Turn (ScatterValue F P)). TookNone t.sink) stop.turns = all_back sink_before TookNone stop.turns (subst (λ ss. All TookNone ss) (sym are.sinks_are) fresh) in
        record {
          rank = stop.rank;
          rows = made_in stop.turn;
          at = subst (λ (l : List (List Row)). slice_get l stop.rank ≡ Some (made_in stop.turn)) (made_sent lines workers root last ops stop.turns are.feeds_are)
              (map_at made_in stop.turns stop.rank stop.turn stop.at);
          many = too_many stop.turn stop.unsent (at_rank IsToldTurn stop.turns stop.rank stop.turn stop.at all_told)
              (at_rank (λ (t : Turn (ScatterValue F P)). TookNone t.sink) stop.turns stop.rank stop.turn stop.at none);
        }
    stopped_by (Disk count) stop = some_hit stop.turns hands now stop.rank stop.turn count stop.at stop.are.hands_are stop.later stop.unsent.1
    stopped_by Damaged stop = λ tells.
        stop.unsent.1 (at_rank (λ (t : Turn (ScatterValue F P)). Tells t.hand) stop.turns stop.rank stop.turn stop.at
        (all_back hand_in Tells stop.turns (subst (λ hs. All Tells hs) (sym stop.are.hands_are) tells)))
    stopped_by NoMemory stop = tt

    pub refused_by : (e : FeedErr ScatterErr) → (e ≡ NoMemory) ⊎ HasStopped g (root_feeds lines workers root last ops) ss hands ts now e → Refused (fault_of_phase e)
    refused_by e (inl is) = subst (λ f. Refused (fault_of_phase f)) (sym is) tt
    refused_by e (inr stop) = stopped_by e stop

-- a net's refusal -------------------------------------------------------------------------------------------------------

pub refused_net : (sent : List (List Row)) (told : Type 0) (carries : Bool) (faults faults_now : ℕ) (hands now end : List HandValue) (e : NetErr) → AllZip Follows hands now
    → NotCarried carries faults faults_now now end e → LinkRefused sent told carries faults faults_now hands end (fault_of_net e)
refused_net sent told carries faults faults_now hands now end (nets.Link count) later h = h
refused_net sent told carries faults faults_now hands now end (nets.LinkBytes at) later h = h
refused_net sent told carries faults faults_now hands now end (nets.Disk count) later h = hit_since hands now end count later h
refused_net sent told carries faults faults_now hands now end nets.Damaged later h = λ tells. h (all_tell hands now later tells)
refused_net sent told carries faults faults_now hands now end nets.NoMemory later h = tt
