-- The mail of all workers, where the first one sent the parts of a file.
use Rattle.std.proofs.Common.{◌≡◌, ℕ, zero, suc, ◌<◌, Bool, true, List, [], ◌∷◌, ◌++◌, map, length, get_or, Some, refl, sym, ap, subst, ◌∙◌}
use Rattle.std.specs.Prelude.{All, slice_get, slice_set, slice_index_or, Result, Ok, Err, IfOk}
use Rattle.std.specs.List.{AllZip, flat_map}
use Rattle.std.specs.declared.alloc.Global.{Global}
use Rattle.std.proofs.lemmas.List.Elements.{All-nil, All-cons, All-head, All-tail}
use Rattle.std.proofs.lemmas.Option.{slice_get-get_or}
use Rattle.crossbeam_queue.specs.SegTies.{SegId}
use Rattle.row_defs.specs.declared.kind.Kind.{Kind}
use Rattle.row_defs.specs.Rows.{Row}
use Rattle.block_pool.specs.Handles.{PoolName, BlockValue, HandValue, AreOfPool}
use Rattle.dia_file.specs.Cuts.{rows_of_files}
use Rattle.dia_file.specs.Encoding.{encoded, AreOf}
use Rattle.dia_file.specs.Files.{FileValue, IsFileOf, joined_blocks, AreFilled}
use Rattle.multiplexer.specs.declared.inbox.Inbox.{Inbox}
use Rattle.multiplexer.specs.Sending.{SendValue, IsSentFrom}
use Rattle.multiplexer.specs.Receiving.{RecvValue}
use Rattle.multiplexer.specs.Mails.{AreNewSends, AreNewRecvs}
use Rattle.multiplexer.specs.Settling.{AreAllEnds, sent_to}
use Rattle.mix_stream.specs.Packets.{bytes_from}
use Rattle.scatter.specs.Carrying.{SendsOwn, AreMixesOnBytes}
use Rattle.scatter.specs.Lines.{HasKinds}
use Rattle.sent_mail.proofs.Mailed.{none_in, length_none, bytes_got}
use Rattle.arrival_files.specs.Receiving.{HoldAll}
use Rattle.spread.specs.Dealing.{IsOfFirst, IsSpelled, AreSent, IsDealtOut}

abbrev blocks_in : FileValue → List BlockValue
blocks_in f = f.blocks

abbrev rows_in : FileValue → List Row
rows_in f = f.rows

-- the ends ------------------------------------------------------------------------------------------------------

pub first_at : (sends : List SendValue) (s : SendValue) → s ≡ get_or sends 0 s → 0 < length sends → slice_get sends 0 ≡ Some s
first_at sends s is some = slice_get-get_or sends 0 s some ∙ ap (λ (v : SendValue). Some v) (sym is)

-- nothing was sent through the end
abbrev IsSilent : SendValue → Type 0
IsSilent s = (w : ℕ) → slice_index_or s.sent w [] ≡ []

pub silent_one : (mail : List (SegId Global)) (sends : List SendValue) (k : ℕ) (s : SendValue) → AreNewSends mail sends → slice_get sends k ≡ Some s → (w : ℕ) → slice_index_or s.sent w [] ≡ []
silent_one mail sends k s new at w = ap (λ (v : SendValue). slice_index_or v.sent w []) (new.each k s at) ∙ none_in (length mail) w

pub lanes_one : (mail : List (SegId Global)) (sends : List SendValue) (k : ℕ) (s : SendValue) → AreNewSends mail sends → slice_get sends k ≡ Some s → (length s.mail ≡ length mail) × (length s.sent ≡ length mail)
lanes_one mail sends k s new at = let is = new.each k s at in (ap (λ (v : SendValue). length v.mail) is, ap (λ (v : SendValue). length v.sent) is ∙ length_none (length mail))

all_at : (P : SendValue → Type 0) (xs : List SendValue) → ((k : ℕ) (x : SendValue) → slice_get xs k ≡ Some x → P x) → All P xs
all_at P [] each = All-nil P
all_at P (x ∷ xs) each = All-cons P x xs (each 0 x refl) (all_at P xs (λ k y at. each (suc k) y at))

rest_silent : (mail : List (SegId Global)) (s : SendValue) (rest : List SendValue) → AreNewSends mail (s ∷ rest) → All IsSilent rest
rest_silent mail s rest new = all_at IsSilent rest (λ k x at. silent_one mail (s ∷ rest) (suc k) x new at)

abbrev IsEndAt : List (SegId Global) → ℕ → SendValue → Type 0
IsEndAt mail k s = (s.mail ≡ mail) × (s.sender ≡ k)

end_one : (mail : List (SegId Global)) (sends : List SendValue) (k : ℕ) (s : SendValue) → AreNewSends mail sends → slice_get sends k ≡ Some s → IsEndAt mail k s
end_one mail sends k s new at = let is = new.each k s at in (ap (λ (v : SendValue). v.mail) is, ap (λ (v : SendValue). v.sender) is)

ends_at : (mail : List (SegId Global)) (s t : SendValue) (rest : List SendValue) → AreNewSends mail (s ∷ rest) → t.mail ≡ s.mail → t.sender ≡ s.sender
    → (k : ℕ) (q : SendValue) → slice_get (t ∷ rest) k ≡ Some q → IsEndAt mail k q
ends_at mail s t rest new mails ranks zero q at =
    let same : t ≡ q = cc in
    let was = end_one mail (s ∷ rest) 0 s new refl in
    subst (IsEndAt mail 0) same (mails ∙ was.0, ranks ∙ was.1)
ends_at mail s t rest new mails ranks (suc k) q at = end_one mail (s ∷ rest) (suc k) q new at

-- the ends of a mail after all was sent by the first worker are all its ends
pub all_ends : (mail : List (SegId Global)) (sends : List SendValue) (recvs : List RecvValue) (s t : SendValue) → AreNewSends mail sends → AreNewRecvs mail recvs → slice_get sends 0 ≡ Some s
    → t.mail ≡ s.mail → t.sender ≡ s.sender → AreAllEnds (slice_set sends 0 t) recvs
all_ends mail [] recvs s t new got at mails ranks = cc
all_ends mail (q ∷ rest) recvs s t new got at mails ranks =
    let same : q ≡ s = cc in
    let From : SendValue → Type 0 = λ v. AreNewSends mail (v ∷ rest) in
    record {
      mail = mail;
      senders = new.count;
      receivers = got.count;
      of_sender = λ k p there. ends_at mail s t rest (subst From same new) mails ranks k p there;
      of_receiver = λ k r there. let was = got.each k r there in (ap (λ (v : RecvValue). v.mail) was, ap (λ (v : RecvValue). v.rank) was);
    }

-- what was sent -----------------------------------------------------------------------------------------------------

all_sent : (pool : PoolName) (blocks : List BlockValue) → AreOfPool pool blocks → AreFilled blocks → All (IsSentFrom pool) blocks
all_sent pool [] own filled = All-nil (IsSentFrom pool)
all_sent pool (b ∷ blocks) own filled =
    let Own : BlockValue → Type 0 = λ block. block.pool ≡ pool in
    All-cons (IsSentFrom pool) b blocks (All-head Own b blocks own, filled.0) (all_sent pool blocks (All-tail Own b blocks own) filled.1)

files_sent : (pool : PoolName) (files : List FileValue) (w : ℕ) → All (IsFileOf pool) files → All IsSpelled files → All (IsSentFrom pool) (slice_index_or (map blocks_in files) w [])
files_sent pool [] w own spelled = All-nil (IsSentFrom pool)
files_sent pool (f ∷ files) zero own spelled = all_sent pool f.blocks (All-head (IsFileOf pool) f files own) (All-head IsSpelled f files spelled).filled
files_sent pool (f ∷ files) (suc w) own spelled = files_sent pool files w (All-tail (IsFileOf pool) f files own) (All-tail IsSpelled f files spelled)

own_files : (a : HandValue) (hands : List HandValue) (files : List FileValue) → All (IsOfFirst (a ∷ hands)) files → All (IsFileOf a.pool) files
own_files a hands [] all = All-nil (IsFileOf a.pool)
own_files a hands (f ∷ files) all =
    let First = IsOfFirst (a ∷ hands) in
    let here = All-head First f files all in
    let at = here.at in
    let same : here.hand ≡ a = cc in
    let Own : HandValue → Type 0 = λ h. IsFileOf h.pool f in
    All-cons (IsFileOf a.pool) f files (subst Own same here.own) (own_files a hands files (All-tail First f files all))

rest_own : (hands : List HandValue) (rest : List SendValue) → length hands ≡ length rest → All IsSilent rest → AllZip SendsOwn hands rest
rest_own [] [] long silent = tt
rest_own [] (s ∷ rest) long silent = cc
rest_own (a ∷ hands) [] long silent = cc
rest_own (a ∷ hands) (s ∷ rest) long silent =
    let none = All-head IsSilent s rest silent in
    let next : length hands ≡ length rest = cc in
    (λ w. subst (λ (l : List BlockValue). All (IsSentFrom a.pool) l) (sym (none w)) (All-nil (IsSentFrom a.pool)), rest_own hands rest next (All-tail IsSilent s rest silent))

-- the first worker's blocks are of its pool, and the others sent none
pub sends_own : (mail : List (SegId Global)) (sends : List SendValue) (hands : List HandValue) (files : List FileValue) (s t : SendValue) → AreNewSends mail sends → length hands ≡ length sends
    → slice_get sends 0 ≡ Some s → All (IsOfFirst hands) files → AreSent files s t → AllZip SendsOwn hands (slice_set sends 0 t)
sends_own mail [] hands files s t new long at own sent = cc
sends_own mail (q ∷ rest) [] files s t new long at own sent = cc
sends_own mail (q ∷ rest) (a ∷ hands) files s t new long at own sent =
    let next : length hands ≡ length rest = cc in
    let files_own = own_files a hands files own in
    (λ w. subst (λ (l : List BlockValue). All (IsSentFrom a.pool) l) (sym (sent.sent w)) (files_sent a.pool files w files_own sent.spelled), rest_own hands rest next (rest_silent mail q rest new))

none_of_rest : (rest : List SendValue) (j k : ℕ) → All IsSilent rest → slice_index_or (sent_to j rest) k [] ≡ []
none_of_rest [] j k silent = refl
none_of_rest (s ∷ rest) j zero silent = All-head IsSilent s rest silent j
none_of_rest (s ∷ rest) j (suc k) silent = none_of_rest rest j k (All-tail IsSilent s rest silent)

-- what each sender sent to a worker: the first one that worker's part, and the others nothing
sent_each : (mail : List (SegId Global)) (s t q : SendValue) (rest : List SendValue) (files : List FileValue) (j k : ℕ) → AreNewSends mail (q ∷ rest) → AreSent files s t
    → slice_index_or (sent_to j (t ∷ rest)) k [] ≡ slice_index_or (slice_index_or (map blocks_in files) j [] ∷ []) k []
sent_each mail s t q rest files j zero new sent = sent.sent j
sent_each mail s t q rest files j (suc k) new sent = none_of_rest rest j k (rest_silent mail q rest new)

-- what is received --------------------------------------------------------------------------------------------------

part_bytes : (f : FileValue) (k : ℕ) → IsSpelled f → joined_blocks (slice_index_or (f.blocks ∷ []) k []) ≡ encoded (slice_index_or (f.rows ∷ []) k [])
part_bytes f zero spelled = spelled.joined
part_bytes f (suc k) spelled = refl

abbrev alone : List Row → List (List Row)
alone list = list ∷ []

hold_all : (kinds : List Kind) (boxes : List Inbox) (files : List FileValue) → length boxes ≡ length files → All IsSpelled files → All (HasKinds kinds) files
    → ((j k : ℕ) (x : Inbox) → slice_get boxes j ≡ Some x → bytes_from k x.packets.items ≡ joined_blocks (slice_index_or (slice_index_or (map blocks_in files) j [] ∷ []) k []))
    → HoldAll kinds boxes (map alone (map rows_in files))
hold_all kinds [] [] long spelled are got = tt
hold_all kinds [] (f ∷ files) long spelled are got = cc
hold_all kinds (x ∷ boxes) [] long spelled are got = cc
hold_all kinds (x ∷ boxes) (f ∷ files) long spelled are got =
    let next : length boxes ≡ length files = cc in
    let here = All-head IsSpelled f files spelled in
    let of : AreOf kinds f.rows = subst (λ (ks : List Kind). AreOf ks f.rows) (All-head (HasKinds kinds) f files are) here.are in (
      record { are = All-cons (AreOf kinds) f.rows [] of (All-nil (AreOf kinds)); bytes = λ k. got 0 k x refl ∙ part_bytes f k here },
      hold_all kinds boxes files next (All-tail IsSpelled f files spelled) (All-tail (HasKinds kinds) f files are) (λ j k y at. got (suc j) k y at),
    )

joined_rows : (files : List FileValue) → flat_map (λ (list : List Row). list) (map rows_in files) ≡ rows_of_files files
joined_rows [] = refl
joined_rows (f ∷ files) = ap (λ (rows : List Row). f.rows ++ rows) (joined_rows files)

-- each worker has its part
pub dealt_out : (carries : Bool) (kinds : List Kind) (mail : List (SegId Global)) (sends : List SendValue) (hands : List HandValue) (files : List FileValue) (s t : SendValue) (boxes : List Inbox)
    → AreNewSends mail sends → slice_get sends 0 ≡ Some s → AreSent files s t → length boxes ≡ length files → All (HasKinds kinds) files
    → (carries ≡ true → AreMixesOnBytes hands (slice_set sends 0 t) boxes) → IsDealtOut kinds (rows_of_files files) carries hands boxes
dealt_out carries kinds mail [] hands files s t boxes new at sent long are mixes = cc
dealt_out carries kinds mail (q ∷ rest) hands files s t boxes new at sent long are mixes = record {
  lists = map rows_in files;
  rows_are = joined_rows files;
  hold = λ carried tells.
      hold_all kinds boxes files long sent.spelled are
      (λ j k x there. bytes_got hands (t ∷ rest) boxes (mixes carried) tells j k x there ∙ ap joined_blocks (sent_each mail s t q rest files j k new sent));
}

-- parts of a file of the first worker are of its pool
pub all_first : (hands : List HandValue) (f : FileValue) (files : List FileValue) → (of : IsOfFirst hands f) → All (IsFileOf of.hand.pool) files → All (IsOfFirst hands) files
all_first hands f [] of own = All-nil (IsOfFirst hands)
all_first hands f (part ∷ files) of own =
    let Own = IsFileOf of.hand.pool in
    All-cons (IsOfFirst hands) part files (record { hand = of.hand; at = of.at; own = All-head Own part files own }) (all_first hands f files of (All-tail Own part files own))

-- two facts of an answer make a third
pub ok_both : {T E : Type 0} (r : Result T E) (P Q W : T → Type 0) → ((t : T) → P t → Q t → W t) → IfOk r P → IfOk r Q → IfOk r W
ok_both (Ok t) P Q W f p q = f t p q
ok_both (Err e) P Q W f p q = p
