-- Operands that are dealt out one after the other.
use Rattle.std.proofs.Common.{◌≡◌, ℕ, ◌+◌, ◌≤◌, Bool, true, false, List, [], ◌∷◌, ◌++◌, length, map, refl, sym, ap, subst, ◌∙◌, arith, length-append, append_assoc}
use Rattle.std.specs.Prelude.{All, ◌^◌}
use Rattle.std.specs.List.{AllZip, flat_map}
use Rattle.std.proofs.lemmas.List.Concat.{flat_map-append}
use Rattle.row_defs.specs.declared.kind.Kind.{Kind}
use Rattle.row_defs.specs.Rows.{Row}
use Rattle.dia_edge.proofs.CountLemmas.{rose_since}
use Rattle.block_pool.specs.Handles.{PoolName, HandValue, Follows}
use Rattle.block_pool.specs.declared.pool.TheConstants.{LEAST_BLOCK}
use Rattle.std.proofs.lemmas.List.Elements.{All-nil, All-cons, All-head, All-tail}
use Rattle.scatter.specs.Nets.{IsAsGood}
use Rattle.link.specs.Linking.{HasFrames}
use Rattle.scatter.proofs.Hands.{all_tell, hit_since}
use Rattle.link.specs.declared.link_err.LinkErr.{LinkErr}
use Rattle.link.specs.declared.link_err.LinkErr.TheVariants.{Link, LinkBytes, Disk, Damaged, NoMemory, TooManyRows}
use Rattle.multiplexer.specs.declared.inbox.Inbox.{Inbox}
use Rattle.dealt_shares.specs.Dealings.{Dealing, dealt, AreOwned}
use Rattle.dealt_shares.proofs.Owning.{owned-append}
use Rattle.dealt_shares.proofs.Owning.{shares_come}
use Rattle.collective.specs.Shares.{share_of}
use Rattle.arrivals.specs.Boxes.{joined}
use Rattle.exchange.specs.Deals.{rows_to}
use Rattle.dealing.specs.Boxes.{HasCome, IsMerged}
use Rattle.dealing.specs.Deals.{IsDealt, IsDealtByAll, HoldShares}
use Rattle.dealing.proofs.Held.{come_both}
use Rattle.scatter.specs.Phases.{AllThree}
use Rattle.dealing.specs.Refusals.{DealRefused}

-- hands that went on, with their permits
pub as_good : (hs bs : List HandValue) → AllZip Follows hs bs → AllZip (λ (a b : HandValue). b.permits ≡ a.permits) hs bs → AllZip IsAsGood hs bs
as_good [] [] follows permits = tt
as_good [] (b ∷ bs) follows permits = absurd follows
as_good (a ∷ hs) [] follows permits = absurd follows
as_good (a ∷ hs) (b ∷ bs) follows permits =
    let same = permits.0 in
    let good : IsAsGood a b = record { pool = follows.0.pool; permits = omega (arith, same) } in
    (good, as_good hs bs follows.1 permits.1)

-- they still have permits for all frames
pub frames_still : (workers : ℕ) (hs bs : List HandValue) → AllZip Follows hs bs → AllZip (λ (a b : HandValue). b.permits ≡ a.permits) hs bs → All (HasFrames workers) hs → All (HasFrames workers) bs
frames_still workers [] [] follows permits all = All-nil (HasFrames workers)
frames_still workers [] (b ∷ bs) follows permits all = absurd follows
frames_still workers (a ∷ hs) [] follows permits all = absurd follows
frames_still workers (a ∷ hs) (b ∷ bs) follows permits all =
    let same = permits.0 in
    let has = All-head (HasFrames workers) a hs all in
    let enough = has.0 in
    let large : LEAST_BLOCK ≤ b.pool.opening.block = subst (λ (p : PoolName). LEAST_BLOCK ≤ p.opening.block) (sym follows.0.pool) has.1 in
    All-cons (HasFrames workers) b bs (omega (arith, same, enough), large) (frames_still workers hs bs follows.1 permits.1 (All-tail (HasFrames workers) a hs all))

tells_not : (a b : Bool) → (a ≡ true → b ≡ true) → b ≡ false → a ≡ false
tells_not true b so never = let is : b ≡ true = so refl in cc
tells_not false b so never = refl

-- a refusal after hands and the net went on
pub refused_later : (carries mid : Bool) (faults faults_mid faults_now : ℕ) (hands between now : List HandValue) (e : LinkErr) → (carries ≡ true → mid ≡ true) → faults ≤ faults_mid → AllZip Follows hands between
    → DealRefused mid faults_mid faults_now between now e → DealRefused carries faults faults_now hands now e
refused_later carries mid faults faults_mid faults_now hands between now (Link count) tells le follows h = (rose_since faults faults_mid faults_now le h.0, h.1)
refused_later carries mid faults faults_mid faults_now hands between now (LinkBytes at) tells le follows h = tells_not carries mid tells h
refused_later carries mid faults faults_mid faults_now hands between now (Disk count) tells le follows h = hit_since hands between now count follows h
refused_later carries mid faults faults_mid faults_now hands between now Damaged tells le follows h = λ tell. h (all_tell hands between follows tell)
refused_later carries mid faults faults_mid faults_now hands between now NoMemory tells le follows h = tt
refused_later carries mid faults faults_mid faults_now hands between now TooManyRows tells le follows h = λ tell. h (all_tell hands between follows tell)

-- operands behind one that was dealt out
pub dealt_more : (kinds : List Kind) (total workers before count more by : ℕ) (came : List Dealing) (rows others : List Row) (into boxes merged last : List Inbox) → (d : IsDealtByAll kinds total workers before count rows boxes)
    → AllThree (IsMerged by) into boxes merged → length came ≡ by → by + workers ≤ 2 ^ 32 → HasCome kinds came into
    → ((all : List Dealing) → length all ≡ by + workers → HasCome kinds all merged → IsDealt kinds total workers (before + count) more all others last)
    → IsDealt kinds total workers before (count + more) came (rows ++ others) last
dealt_more kinds total workers before count more by came rows others into boxes merged last d merge long few first rest =
    let ours = d.dealt.senders in
    let number = d.number in
    let both = length-append came ours in
    let come : HasCome kinds (came ++ ours) merged = come_both kinds came ours into boxes merged by merge long (omega (arith, number, few)) first d.dealt.come in
    let later = rest (came ++ ours) (omega (arith, both, number, long)) come in
    let one = d.dealt.count_is in
    let two = later.count_is in
    let sum = length-append rows others in
    let sent : length (dealt ours) ≡ length rows = ap (λ (l : List Row). length l) d.dealt.rows_are in
    let at : before + count ≡ before + length (dealt ours) = omega (arith, one, sent) in
    record {
      senders = ours ++ later.senders;
      count_is = omega (arith, one, two, sum);
      rows_are = flat_map-append (λ (s : Dealing). s.rows) ours later.senders ∙ ap (λ (l : List Row). l ++ dealt later.senders) d.dealt.rows_are ∙ ap (λ (l : List Row). rows ++ l) later.rows_are;
      owned = owned-append total workers before ours later.senders d.dealt.owned (subst (λ (n : ℕ). AreOwned total workers n later.senders) at later.owned);
      come = subst (λ (l : List Dealing). HasCome kinds l last) (append_assoc came ours later.senders) later.come;
    }

joined_senders : (j : ℕ) (senders : List Dealing) → joined (map (λ (s : Dealing). rows_to j s.rows s.to) senders) ≡ flat_map (λ (s : Dealing). rows_to j s.rows s.to) senders
joined_senders j [] = refl
joined_senders j (s ∷ senders) = ap (λ (l : List Row). rows_to j s.rows s.to ++ l) (joined_senders j senders)

-- all rows are dealt out by shares
pub dealt_all : (kinds : List Kind) (total workers : ℕ) (rows : List Row) (boxes : List Inbox) → IsDealt kinds total workers 0 total [] rows boxes → HoldShares kinds workers rows boxes
dealt_all kinds total workers rows boxes d = λ j x below at.
    let to : Dealing → List Row = λ s. rows_to j s.rows s.to in
    let all : total ≡ length (dealt d.senders) = sym d.count_is ∙ ap (λ (l : List Row). length l) (sym d.rows_are) in
    record {
      lists = map to d.senders;
      holds = d.come j x at;
      rows_are = joined_senders j d.senders ∙ shares_come workers j d.senders below (subst (λ (n : ℕ). AreOwned n workers 0 d.senders) all d.owned)
          ∙ ap (λ (l : List Row). share_of l workers j) d.rows_are;
    }
