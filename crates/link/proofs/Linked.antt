-- What linking comes to, of what its parts come to.
use Rattle.std.proofs.Common.{◌≡◌, ℕ, ◌+◌, Bool, true, List, [], ◌∷◌, sym, subst, ◌∙◌}
use Rattle.std.specs.Prelude.{All}
use Rattle.std.specs.List.{AllZip, AllByRecursion}
use Rattle.std.specs.declared.alloc.Global.{Global}
use Rattle.std.proofs.lemmas.List.Elements.{All-nil, All-cons}
use Rattle.crossbeam_queue.specs.SegTies.{SegId}
use Rattle.row_defs.specs.declared.kind.Kind.{Kind}
use Rattle.row_defs.specs.Rows.{Row}
use Rattle.row_defs.specs.LocalOps.{LocalOp}
use Rattle.row_defs.specs.Operands.{Root}
use Rattle.block_pool.specs.Handles.{HandValue, Follows, PoolName}
use Rattle.lop_chain.specs.declared.sink.RowSink.{Ghosts}
use Rattle.multiplexer.specs.Sending.{SendValue, IsSentFrom}
use Rattle.multiplexer.specs.Receiving.{RecvValue}
use Rattle.multiplexer.specs.Mails.{AreNewSends, AreNewRecvs}
use Rattle.multiplexer.specs.Settling.{AreAllEnds}
use Rattle.multiplexer.specs.declared.inbox.Inbox.{Inbox}
use Rattle.multiplexer.specs.declared.post.Post as posts
use Rattle.exchange.specs.Dealing.{sent_to, open_frames}
use Rattle.exchange.specs.Serving.{Asked, Answered, ScatterValue, Stays}
use Rattle.exchange.specs.Serving as serving
use Rattle.exchange.specs.declared.scatter_err.ScatterErr.{ScatterErr}
use Rattle.scatter.specs.Carrying.{AreMixesOnBytes, SendsOwn}
use Rattle.scatter.specs.Feeds.{FeedValue}
use Rattle.scatter.specs.Lines.{Lines, root_feeds}
use Rattle.scatter.specs.Phases.{AllThree, HasSent}
use Rattle.scatter.specs.Told.{AreTold}
use Rattle.scatter.proofs.Arriving.{told_turns}
use Rattle.link.specs.Dealers.{TookOfKinds}
use Rattle.link.specs.Linking.{IsLinked, rows_sent}
use Rattle.link.specs.Scattering.{IsNewPost, IsFreshScatter, IsSentOff, IsFreed}
use Rattle.link.proofs.Sent.{made_sent}
use Rattle.link.proofs.Senders.{fresh_turns, ended_turns, senders, all_served, permits_back}
use Rattle.scatter.proofs.Hands.{all_tell}
use Rattle.link.proofs.Mailed.{Posts, all_still, same_posts, all_own, all_ends, sends_own, bytes_each}
use Rattle.sent_mail.proofs.Mailed.{bytes_got}

-- scatters that are fresh took no row
pub took_none : {F P : Type 0} (p : posts.Ghosts P) (kinds : List Kind) (workers : ℕ) (routes : List F) (through : List P) (ss : List (ScatterValue F P))
    → AllThree (IsFreshScatter p kinds workers) routes through ss → All (λ (s : ScatterValue F P). s.taken ≡ 0) ss
took_none {F} {P} p kinds workers [] [] [] fresh = All-nil (λ (s : ScatterValue F P). s.taken ≡ 0)
took_none {F} {P} p kinds workers (r ∷ routes) (q ∷ through) (s ∷ ss) fresh =
    All-cons (λ (s : ScatterValue F P). s.taken ≡ 0) s ss fresh.0.none (took_none p kinds workers routes through ss fresh.1)
took_none p kinds workers _ _ _ fresh = absurd fresh

-- the blocks that went through posts are of the pools of later hands too
own_later : {P : Type 0} (p : posts.Ghosts P) (hs bs : List HandValue) (qs : List P) → AllZip (Posts p) hs qs → AllZip Follows hs bs → AllZip (Posts p) bs qs
own_later p [] [] [] own later = tt
own_later p [] [] (q ∷ qs) own later = absurd own
own_later p [] (b ∷ bs) qs own later = absurd later
own_later p (a ∷ hs) [] qs own later = absurd later
own_later p (a ∷ hs) (b ∷ bs) [] own later = absurd own
own_later p (a ∷ hs) (b ∷ bs) (q ∷ qs) own later = (
  λ w. subst (λ (pool : PoolName). AllByRecursion (IsSentFrom pool) (sent_to (p.sent q) w)) (sym later.0.pool) (own.0 w),
  own_later p hs bs qs own.1 later.1,
)

module _
    {F P : Type 0} (p : posts.Ghosts P) (pre : Asked F) (post : Answered F) (kinds : List Kind) (workers : ℕ) (g : Ghosts (ScatterValue F P) HandValue ScatterErr)
    (took : (s t : ScatterValue F P) (rows : List Row) → g.took s rows t → TookOfKinds post p s rows t) (served : (s : ScatterValue F P) (d : HandValue) → g.serves s d → serving.IsServed p s d)
    (held : (s t : ScatterValue F P) (a b : HandValue) → g.held t b ≡ g.held s a → b.permits + open_frames t.frames ≡ a.permits + open_frames s.frames)
    (routes : List F) (through : List P) (feeds : List FeedValue) (ss : List (ScatterValue F P)) (hands : List HandValue) (ts : List (ScatterValue F P)) (now : List HandValue)
    (fresh : AllThree (IsFreshScatter p kinds workers) routes through ss) (new : All (IsNewPost p workers) through) (sent : HasSent g feeds ss hands ts now) where
  -- each scatter may be finished
  pub may_finish : AllZip (serving.IsServed p) ts now
  may_finish = subst (λ (l : List (ScatterValue F P)). AllZip (serving.IsServed p) l now) sent.are.took_is (all_served p pre post kinds workers g took served sent.turns now sent.all)

  -- each hand has its permits again, once all are
  pub permits_again : (end : List HandValue) → AllThree IsFreed ts now end → AllZip (λ (a b : HandValue). b.permits ≡ a.permits) hands end
  permits_again end freed =
      let begun = fresh_turns p pre post kinds workers routes through sent.turns (subst (λ (l : List (ScatterValue F P)). AllThree (IsFreshScatter p kinds workers) routes through l) (sym sent.are.sinks_are) fresh) new in
      subst (λ (l : List HandValue). AllZip (λ (a b : HandValue). b.permits ≡ a.permits) l end) sent.are.hands_are
      (permits_back p pre post kinds workers g took served held routes sent.turns now end begun sent.all
      (subst (λ (l : List (ScatterValue F P)). AllThree IsFreed l now end) (sym sent.are.took_is) freed))

-- posts are ends of a mail ----------------------------------------------------------------------------------------------

module _ {F : Type 0} (p : posts.Ghosts SendValue) (mail_is : (s : SendValue) → p.mail s ≡ s.mail) (sender_is : (s : SendValue) → p.sender s ≡ s.sender) (sent_is : (s : SendValue) → p.sent s ≡ s.sent) where
  module _ (kinds : List Kind) (workers : ℕ) (routes : List F) (through : List SendValue) (ss ts : List (ScatterValue F SendValue)) (hands now : List HandValue) (sends : List SendValue)
      (fresh : AllThree (IsFreshScatter p kinds workers) routes through ss) (new : All (IsNewPost p workers) through) (stays : AllZip (Stays p) ss ts) (off : AllThree (IsSentOff p) ts hands sends) where
    -- after all was sent they are all ends of the mail
    pub ends_left : (mail : List (SegId Global)) (recvs : List RecvValue) → AreNewSends mail through → AreNewRecvs mail recvs → AreAllEnds sends recvs
    ends_left mail recvs new_sends new_recvs =
        all_ends p mail_is sender_is sent_is mail through sends recvs new_sends new_recvs
        (same_posts p kinds workers through ts hands sends (all_still p kinds workers routes through ss ts fresh new stays) off)

    -- and what went through them is of each later hand's pool
    pub all_sent_own : AllZip Follows hands now → AllZip SendsOwn now sends
    all_sent_own later =
        sends_own p mail_is sender_is sent_is now sends
        (own_later p hands now sends (all_own p kinds workers through ts hands sends (all_still p kinds workers routes through ss ts fresh new stays) off) later)

  module _
      (pre : Asked F) (post : Answered F) (kinds : List Kind) (workers : ℕ) (g : Ghosts (ScatterValue F SendValue) HandValue ScatterErr)
      (took : (s t : ScatterValue F SendValue) (rows : List Row) → g.took s rows t → TookOfKinds post p s rows t) (served : (s : ScatterValue F SendValue) (d : HandValue) → g.serves s d → serving.IsServed p s d)
      (routes : List F) (through : List SendValue) (lines : Lines) (count : ℕ) (root : Root) (last : Bool) (ops : List LocalOp) (ss : List (ScatterValue F SendValue)) (hands : List HandValue)
      (ts : List (ScatterValue F SendValue)) (now : List HandValue) (fresh : AllThree (IsFreshScatter p kinds workers) routes through ss) (new : All (IsNewPost p workers) through)
      (sent : HasSent g (root_feeds lines count root last ops) ss hands ts now) where
    -- the operand is linked
    pub linked : (sends : List SendValue) (carries : Bool) (end : List HandValue) (boxes : List Inbox) → AllThree (IsSentOff p) ts now sends → (carries ≡ true → AreMixesOnBytes end sends boxes)
        → AllZip Follows hands end → IsLinked post kinds routes (rows_sent lines count root ops) (AreTold root hands) carries hands boxes
    linked sends carries end boxes off mixes later =
        let begun = fresh_turns p pre post kinds workers routes through sent.turns (subst (λ (l : List (ScatterValue F SendValue)). AllThree (IsFreshScatter p kinds workers) routes through l) (sym sent.are.sinks_are) fresh) new in
        let ended = ended_turns p pre post kinds workers g took served sent.turns now sends sent.all (subst (λ (l : List (ScatterValue F SendValue)). AllThree (IsSentOff p) l now sends) (sym sent.are.took_is) off) in
        let all = senders p pre post kinds workers g took served routes sent.turns now sends begun ended in
        record {
          rows = all.rows;
          to = all.to;
          dealt = all.dealt;
          are_sent = λ told.
              all.made (told_turns lines count root last ops hands sent.turns sent.are.feeds_are sent.are.hands_are told)
              ∙ made_sent lines count root last ops sent.turns sent.are.feeds_are;
          bytes = λ carried tell j k x at.
              bytes_got end sends boxes (mixes carried) (all_tell hands end later tell) j k x at
              ∙ bytes_each p mail_is sender_is sent_is all.rows all.to sends all.bytes j k;
        }
