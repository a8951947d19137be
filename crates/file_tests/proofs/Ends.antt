-- Workers' ends before and after their work.
use Rattle.std.proofs.Common.{◌≡◌, ℕ, zero, suc, ◌<◌, List, [], ◌∷◌, ◌++◌, length, map, replicate, get_or, refl, sym, ap, ◌∙◌, length-append, arith}
use Rattle.std.specs.Prelude.{slice_get, Some}
use Rattle.std.proofs.lemmas.Option.{slice_get_read, slice_get-map}
use Rattle.std.proofs.lemmas.List.{length-map}
use Rattle.std.specs.Option.{option_map}
use Rattle.std.specs.declared.alloc.Global.{Global}
use Rattle.crossbeam_queue.specs.SegTies.{SegId}
use Rattle.block_pool.specs.Handles.{BlockValue, PoolName}
use Rattle.multiplexer.specs.Sending.{SendValue}
use Rattle.multiplexer.specs.Receiving.{RecvValue}
use Rattle.multiplexer.specs.Mails.{AreNewSends, AreNewRecvs}
use Rattle.multiplexer.specs.Settling.{AreAllEnds}
use Rattle.file_tests.specs.Workers.{WorkerValue, IsFresh, KeepsEnds, AreNewEnds}
use Rattle.multiplexer.proofs.Lists.{at_end, at_last}

nothing : (n j : ℕ) → get_or {A = List BlockValue} (replicate n []) j [] ≡ []
nothing zero j = refl
nothing (suc n) zero = refl
nothing (suc n) (suc j) = nothing n j

map_at : {A B : Type 0} (f : A → B) (xs : List A) (ys : List B) (k : ℕ) (x : A) → map f xs ≡ ys → slice_get xs k ≡ Some x → slice_get ys k ≡ Some (f x)
map_at {A} {B} f xs ys k x e at = ap (λ (l : List B). slice_get l k) (sym e) ∙ slice_get-map f xs k ∙ ap (option_map f) at

map_get : {A B : Type 0} (f : A → B) (xs : List A) (k : ℕ) (y : B) → slice_get (map f xs) k ≡ Some y → (x : A) × (slice_get xs k ≡ Some x) × (y ≡ f x)
map_get {A} {B} f [] k y e = cc
map_get {A} {B} f (x ∷ xs) zero y e = let is : f x ≡ y = cc in (x, refl, sym is)
map_get {A} {B} f (x ∷ xs) (suc k) y e = map_get f xs k y e

pub fresh :
    (mail : List (SegId Global)) (sends : List SendValue) (ws : List WorkerValue) (workers : ℕ) → AreNewSends mail sends → map (λ w. w.send) ws ≡ sends → length mail ≡ workers → 0 < workers
    → (i : ℕ) (w : WorkerValue) → i < length ws → w ≡ get_or ws i w → IsFresh workers w
fresh mail sends ws workers new is many some i w lt e =
    let at : slice_get ws i ≡ Some w = slice_get_read ws (length ws) i w refl lt e in
    let h = new.each i w.send (map_at (λ (w : WorkerValue). w.send) ws sends i w is at) in
    record {
      some = some;
      all = sym many ∙ ap (λ (x : SendValue). length x.mail) (sym h);
      nothing = λ j. ap (λ (x : SendValue). get_or x.sent j []) h ∙ nothing _ j;
    }

-- the workers' ends are again all ends of the mail
pub all_ends :
    (pool : PoolName) (mail : List (SegId Global)) (sends : List SendValue) (recvs : List RecvValue) (js ds : List WorkerValue) (s : List SendValue) (r : List RecvValue)
    → AreNewSends mail sends → AreNewRecvs mail recvs → map (λ w. w.send) js ≡ sends → map (λ w. w.recv) js ≡ recvs → length ds ≡ length js
    → ((i : ℕ) (d : WorkerValue) → slice_get ds i ≡ Some d → (w : WorkerValue) × (slice_get js i ≡ Some w) × KeepsEnds pool w d)
    → s ≡ map (λ d. d.send) ds → r ≡ map (λ d. d.recv) ds → AreAllEnds s r
all_ends pool mail sends recvs js ds s r ns nr js-s js-r many kept is-s is-r = record {
  mail = mail;
  senders = omega (arith, ap length is-s, length-map ds (λ (d : WorkerValue). d.send), many, ap length js-s, length-map js (λ (w : WorkerValue). w.send), ns.count);
  receivers = omega (arith, ap length is-r, length-map ds (λ (d : WorkerValue). d.recv), many, ap length js-s, length-map js (λ (w : WorkerValue). w.send), ns.count);
  of_sender = λ k x e.
      let m = map_get (λ (d : WorkerValue). d.send) ds k x (ap (λ (l : List SendValue). slice_get l k) (sym is-s) ∙ e) in
      let w = kept k m.0 m.1 in
      let h = ns.each k w.0.send (map_at (λ (w : WorkerValue). w.send) js sends k w.0 js-s w.1) in
      (ap (λ (v : SendValue). v.mail) m.2 ∙ w.2.send_mail ∙ ap (λ (v : SendValue). v.mail) h, ap (λ (v : SendValue). v.sender) m.2 ∙ w.2.sender ∙ ap (λ (v : SendValue). v.sender) h);
  of_receiver = λ k x e.
      let m = map_get (λ (d : WorkerValue). d.recv) ds k x (ap (λ (l : List RecvValue). slice_get l k) (sym is-r) ∙ e) in
      let w = kept k m.0 m.1 in
      let h = nr.each k w.0.recv (map_at (λ (w : WorkerValue). w.recv) js recvs k w.0 js-r w.1) in
      (ap (λ (v : RecvValue). v.mail) m.2 ∙ w.2.recv_mail ∙ ap (λ (v : RecvValue). v.mail) h, ap (λ (v : RecvValue). v.rank) m.2 ∙ w.2.rank ∙ ap (λ (v : RecvValue). v.rank) h);
}

-- two ends of each kind are all ends of a mail of two
pub two_ends :
    (mail : List (SegId Global)) (a b : SendValue) (x y : RecvValue) → length mail ≡ 2
    → a.mail ≡ mail → a.sender ≡ 0 → b.mail ≡ mail → b.sender ≡ 1 → x.mail ≡ mail → x.rank ≡ 0 → y.mail ≡ mail → y.rank ≡ 1
    → AreAllEnds (a ∷ b ∷ []) (x ∷ y ∷ [])
two_ends mail a b x y two am az bm bz xm xr ym yr = record {
  mail = mail;
  senders = omega (arith, two);
  receivers = omega (arith, two);
  of_sender = sender_at;
  of_receiver = receiver_at;
}
  where
    sender_at : (k : ℕ) (s : SendValue) → slice_get (a ∷ b ∷ []) k ≡ Some s → (s.mail ≡ mail) × (s.sender ≡ k)
    sender_at zero s e = let is : a ≡ s = cc in (ap (λ (v : SendValue). v.mail) (sym is) ∙ am, ap (λ (v : SendValue). v.sender) (sym is) ∙ az)
    sender_at (suc zero) s e = let is : b ≡ s = cc in (ap (λ (v : SendValue). v.mail) (sym is) ∙ bm, ap (λ (v : SendValue). v.sender) (sym is) ∙ bz)
    sender_at (suc (suc k)) s e = cc

    receiver_at : (k : ℕ) (r : RecvValue) → slice_get (x ∷ y ∷ []) k ≡ Some r → (r.mail ≡ mail) × (r.rank ≡ k)
    receiver_at zero r e = let is : x ≡ r = cc in (ap (λ (v : RecvValue). v.mail) (sym is) ∙ xm, ap (λ (v : RecvValue). v.rank) (sym is) ∙ xr)
    receiver_at (suc zero) r e = let is : y ≡ r = cc in (ap (λ (v : RecvValue). v.mail) (sym is) ∙ ym, ap (λ (v : RecvValue). v.rank) (sym is) ∙ yr)
    receiver_at (suc (suc k)) r e = cc

-- the last two ends of two
pub new_ends :
    (mail : List (SegId Global)) (sends ss : List SendValue) (recvs rs : List RecvValue) (a b : SendValue) (x y : RecvValue) → length mail ≡ 2 → AreNewSends mail sends → AreNewRecvs mail recvs
    → sends ≡ ss ++ a ∷ b ∷ [] → recvs ≡ rs ++ x ∷ y ∷ [] → AreNewEnds mail a b x y
new_ends mail sends ss recvs rs a b x y two ns nr is-s is-r =
    let none_s : length ss ≡ 0 = omega (arith, ap length is-s, length-append ss (a ∷ b ∷ []), ns.count, two) in
    let none_r : length rs ≡ 0 = omega (arith, ap length is-r, length-append rs (x ∷ y ∷ []), nr.count, two) in
    let ea = ns.each 0 a (ap (λ (l : List SendValue). slice_get l 0) is-s ∙ ap (slice_get (ss ++ a ∷ b ∷ [])) (sym none_s) ∙ at_end ss a b) in
    let eb = ns.each 1 b (ap (λ (l : List SendValue). slice_get l 1) is-s ∙ ap (λ (k : ℕ). slice_get (ss ++ a ∷ b ∷ []) (suc k)) (sym none_s) ∙ at_last ss a b) in
    let ex = nr.each 0 x (ap (λ (l : List RecvValue). slice_get l 0) is-r ∙ ap (slice_get (rs ++ x ∷ y ∷ [])) (sym none_r) ∙ at_end rs x y) in
    let ey = nr.each 1 y (ap (λ (l : List RecvValue). slice_get l 1) is-r ∙ ap (λ (k : ℕ). slice_get (rs ++ x ∷ y ∷ []) (suc k)) (sym none_r) ∙ at_last rs x y) in
    record {
      two = two;
      of_mail = (ap (λ (v : SendValue). v.mail) ea, ap (λ (v : SendValue). v.mail) eb, ap (λ (v : RecvValue). v.mail) ex, ap (λ (v : RecvValue). v.mail) ey);
      senders = (ap (λ (v : SendValue). v.sender) ea, ap (λ (v : SendValue). v.sender) eb);
      ranks = (ap (λ (v : RecvValue). v.rank) ex, ap (λ (v : RecvValue). v.rank) ey);
      nothing_zero = λ j. ap (λ (v : SendValue). get_or v.sent j []) ea ∙ nothing _ j;
      nothing_one = λ j. ap (λ (v : SendValue). get_or v.sent j []) eb ∙ nothing _ j;
    }
