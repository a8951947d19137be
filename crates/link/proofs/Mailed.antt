-- What senders sent, in the mail.
use Rattle.std.proofs.Common.{◌≡◌, ◌==◌, ℕ, zero, suc, Bool, true, false, List, [], ◌∷◌, ◌++◌, map, length, cond, replicate, get_or, Some, refl, sym, ap, subst, ◌∙◌, arith}
use Rattle.std.specs.Prelude.{All, slice_get, slice_index_or}
use Rattle.std.specs.List.{AllZip, AllByRecursion, flat_map}
use Rattle.std.specs.declared.alloc.Global.{Global}
use Rattle.std.proofs.lemmas.List.Elements.{All-nil, All-cons, All-head, All-tail}
use Rattle.std.proofs.lemmas.Option.{slice_get-get_or}
use Rattle.crossbeam_queue.specs.SegTies.{SegId}
use Rattle.row_defs.specs.declared.kind.Kind.{Kind}
use Rattle.row_defs.specs.Rows.{Row}
use Rattle.block_pool.specs.Handles.{BlockValue, HandValue, Follows}
use Rattle.dia_file.specs.Encoding.{encoded}
use Rattle.multiplexer.specs.declared.packet.Packet.{Packet}
use Rattle.multiplexer.specs.declared.post.Post.{Ghosts}
use Rattle.multiplexer.specs.declared.inbox.Inbox.{Inbox}
use Rattle.multiplexer.specs.Mixes.{of_sender}
use Rattle.multiplexer.specs.Sending.{SendValue, IsSentFrom}
use Rattle.multiplexer.specs.Receiving.{RecvValue}
use Rattle.multiplexer.specs.Mails.{AreNewSends, AreNewRecvs}
use Rattle.multiplexer.specs.Settling.{AreAllEnds}
use Rattle.multiplexer.specs.Settling as settling
use Rattle.mix_stream.specs.Packets.{bytes_from}
use Rattle.exchange.specs.Dealing.{sent_to, joined, SamePost, same_post_too}
use Rattle.exchange.specs.Deals.{rows_to}
use Rattle.exchange.specs.Serving.{ScatterValue, Stays}
use Rattle.scatter.specs.Carrying.{SendsOwn, AreMixesOnBytes, bytes_in}
use Rattle.scatter.specs.Phases.{AllThree}
use Rattle.scatter.specs.Nets.{IsAsGood}
use Rattle.scatter.specs.Told.{Tells}
use Rattle.scatter.proofs.Threes.{zip_long}
use Rattle.scatter.proofs.Mailing.{zip_at}
use Rattle.sent_mail.proofs.Mailed.{none_in, length_none}
use Rattle.link.specs.Scattering.{IsNewPost, IsFreshScatter, IsSentOff}

-- new ends ------------------------------------------------------------------------------------------------------

module _ (p : Ghosts SendValue) (workers : (s : SendValue) → p.workers s ≡ length s.mail) (sent : (s : SendValue) → p.sent s ≡ s.sent) where
  pub new_posts : (mail : List (SegId Global)) (sends : List SendValue) → AreNewSends mail sends → All (IsNewPost p (length mail)) sends
  new_posts mail sends new = λ k d lt.
      let s = get_or sends k d in
      let is = new.each k s (slice_get-get_or sends k d lt) in
      let through : p.sent s ≡ replicate (length mail) [] = sent s ∙ ap (λ (v : SendValue). v.sent) is in
      record {
        workers_are = workers s ∙ ap (λ (v : SendValue). length v.mail) is;
        lanes = ap length through ∙ length_none (length mail);
        none = λ w. ap (λ (l : List (List BlockValue)). sent_to l w) through ∙ none_in (length mail) w;
      }

-- all blocks that went through a post are of the hand's pool
abbrev pub Posts : {P : Type 0} → Ghosts P → HandValue → P → Type 0
Posts p a q = (w : ℕ) → AllByRecursion (IsSentFrom a.pool) (sent_to (p.sent q) w)

-- posts from their making to the end of their scatters ------------------------------------------------------------

module _ {F P : Type 0} (p : Ghosts P) (kinds : List Kind) (workers : ℕ) where
  -- a scatter that was made with this post, through which nothing had been sent
  pub record IsStill (through : P) (t : ScatterValue F P) : Type 0 where
    pub same : SamePost p through t.post
    pub silent : (w : ℕ) → sent_to (p.sent t.began) w ≡ []

  still_one : (route : F) (through : P) (s t : ScatterValue F P) → IsFreshScatter p kinds workers route through s → IsNewPost p workers through → Stays p s t → IsStill through t
  still_one route through s t fresh new stays = record {
    same = subst (λ (q : P). SamePost p q t.post) fresh.post_is stays.2;
    silent = λ w. ap (λ (q : P). sent_to (p.sent q) w) (stays.1 ∙ fresh.began_is) ∙ new.none w;
  }

  pub all_still : (routes : List F) (through : List P) (ss ts : List (ScatterValue F P)) → AllThree (IsFreshScatter p kinds workers) routes through ss → All (IsNewPost p workers) through
      → AllZip (Stays p) ss ts → AllZip IsStill through ts
  all_still [] [] [] [] fresh new stays = tt
  all_still [] [] [] (t ∷ ts) fresh new stays = absurd stays
  all_still [] [] (s ∷ ss) ts fresh new stays = absurd fresh
  all_still [] (q ∷ through) ss ts fresh new stays = absurd fresh
  all_still (r ∷ routes) [] ss ts fresh new stays = absurd fresh
  all_still (r ∷ routes) (q ∷ through) [] ts fresh new stays = absurd fresh
  all_still (r ∷ routes) (q ∷ through) (s ∷ ss) [] fresh new stays = absurd stays
  all_still (r ∷ routes) (q ∷ through) (s ∷ ss) (t ∷ ts) fresh new stays =
      let New = IsNewPost p workers in
      (still_one r q s t fresh.0 (All-head New q through new) stays.0, all_still routes through ss ts fresh.1 (All-tail New q through new) stays.1)

  pub same_posts : (through : List P) (ts : List (ScatterValue F P)) (hs : List HandValue) (now : List P) → AllZip IsStill through ts → AllThree (IsSentOff p) ts hs now → AllZip (SamePost p) through now
  same_posts [] [] [] [] still off = tt
  same_posts [] [] [] (q ∷ now) still off = absurd off
  same_posts [] [] (a ∷ hs) now still off = absurd off
  same_posts [] (t ∷ ts) hs now still off = absurd still
  same_posts (u ∷ through) [] hs now still off = absurd still
  same_posts (u ∷ through) (t ∷ ts) [] now still off = absurd off
  same_posts (u ∷ through) (t ∷ ts) (a ∷ hs) [] still off = absurd off
  same_posts (u ∷ through) (t ∷ ts) (a ∷ hs) (q ∷ now) still off = (same_post_too p u t.post q still.0.same off.0.same, same_posts through ts hs now still.1 off.1)

  posts_own : (through : P) (t : ScatterValue F P) (a : HandValue) (q : P) → IsStill through t → IsSentOff p t a q → Posts p a q
  posts_own through t a q still off = λ w.
      let since = off.since w in
      let is : sent_to (p.sent q) w ≡ since.more = since.are ∙ ap (λ (l : List BlockValue). l ++ since.more) (still.silent w) in
      subst (λ (l : List BlockValue). AllByRecursion (IsSentFrom a.pool) l) (sym is) since.good

  pub all_own : (through : List P) (ts : List (ScatterValue F P)) (hs : List HandValue) (now : List P) → AllZip IsStill through ts → AllThree (IsSentOff p) ts hs now → AllZip (Posts p) hs now
  all_own [] [] [] [] still off = tt
  all_own [] [] [] (q ∷ now) still off = absurd off
  all_own [] [] (a ∷ hs) now still off = absurd off
  all_own [] (t ∷ ts) hs now still off = absurd still
  all_own (u ∷ through) [] hs now still off = absurd still
  all_own (u ∷ through) (t ∷ ts) [] now still off = absurd off
  all_own (u ∷ through) (t ∷ ts) (a ∷ hs) [] still off = absurd off
  all_own (u ∷ through) (t ∷ ts) (a ∷ hs) (q ∷ now) still off = (posts_own u t a q still.0 off.0, all_own through ts hs now still.1 off.1)

-- the ends ------------------------------------------------------------------------------------------------------

all_of : {X : Type 0} (P : X → Type 0) (xs : List X) → AllByRecursion P xs → All P xs
all_of P [] h = All-nil P
all_of P (x ∷ xs) h = All-cons P x xs h.0 (all_of P xs h.1)

module _ (p : Ghosts SendValue) (mail_is : (s : SendValue) → p.mail s ≡ s.mail) (sender_is : (s : SendValue) → p.sender s ≡ s.sender) (sent : (s : SendValue) → p.sent s ≡ s.sent) where
  -- the ends of a mail after all was sent are all its ends
  pub all_ends : (mail : List (SegId Global)) (sends now : List SendValue) (recvs : List RecvValue) → AreNewSends mail sends → AreNewRecvs mail recvs → AllZip (SamePost p) sends now → AreAllEnds now recvs
  all_ends mail sends now recvs new_sends new_recvs same = record {
    mail = mail;
    senders = sym (zip_long (SamePost p) sends now same) ∙ new_sends.count;
    receivers = new_recvs.count;
    of_sender = λ k s at.
        let it = zip_at (SamePost p) sends now k s same at in
        let was = new_sends.each k it.of it.at in (
          sym (mail_is s) ∙ it.is.mail ∙ mail_is it.of ∙ ap (λ (v : SendValue). v.mail) was,
          sym (sender_is s) ∙ it.is.sender ∙ sender_is it.of ∙ ap (λ (v : SendValue). v.sender) was,
        );
    of_receiver = λ k r at. let was = new_recvs.each k r at in (ap (λ (v : RecvValue). v.mail) was, ap (λ (v : RecvValue). v.rank) was);
  }

  pub sends_own : (hs : List HandValue) (now : List SendValue) → AllZip (Posts p) hs now → AllZip SendsOwn hs now
  sends_own [] [] own = tt
  sends_own [] (q ∷ now) own = absurd own
  sends_own (a ∷ hs) [] own = absurd own
  sends_own (a ∷ hs) (q ∷ now) own = (
    λ w. subst (λ (l : List (List BlockValue)). All (IsSentFrom a.pool) (sent_to l w)) (sent q) (all_of (IsSentFrom a.pool) (sent_to (p.sent q) w) (own.0 w)),
    sends_own hs now own.1,
  )

  -- the bytes that each receiver has of each sender ------------------------------------------------------------------

  abbrev pub HasBytesOf : List Row → List ℕ → SendValue → Type 0
  HasBytesOf rows to s = (w : ℕ) → joined (sent_to (p.sent s) w) ≡ encoded (rows_to w rows to)

  pub bytes_each : (rows : List (List Row)) (to : List (List ℕ)) (now : List SendValue) → AllThree HasBytesOf rows to now → (j k : ℕ)
      → joined (slice_index_or (settling.sent_to j now) k []) ≡ encoded (rows_to j (slice_index_or rows k []) (slice_index_or to k []))
  bytes_each [] [] [] all j k = refl
  bytes_each [] [] (s ∷ now) all j k = absurd all
  bytes_each [] (t ∷ to) now all j k = absurd all
  bytes_each (r ∷ rows) [] now all j k = absurd all
  bytes_each (r ∷ rows) (t ∷ to) [] all j k = absurd all
  bytes_each (r ∷ rows) (t ∷ to) (s ∷ now) all j zero = ap (λ (l : List (List BlockValue)). joined (sent_to l j)) (sym (sent s)) ∙ all.0 j
  bytes_each (r ∷ rows) (t ∷ to) (s ∷ now) all j (suc k) = bytes_each rows to now all.1 j k
