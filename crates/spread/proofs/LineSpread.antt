-- What spreading comes to, of what its parts come to.
use Rattle.std.proofs.Common.{◌≡◌, ℕ, suc, ◌<◌, Bool, true, List, [], ◌∷◌, ◌++◌, map, length, Some, refl, sym, ap, subst, ◌∙◌, append-nil, arith}
use Rattle.std.specs.Prelude.{All, slice_get}
use Rattle.std.specs.List.{AllZip, flat_map}
use Rattle.std.proofs.lemmas.List.Elements.{All-nil, All-cons, All-head, All-tail}
use Rattle.row_defs.specs.declared.kind.Kind.{Kind}
use Rattle.row_defs.specs.Limits.{most_rows}
use Rattle.row_defs.specs.Rows.{Row}
use Rattle.block_pool.specs.Handles.{HandValue, Follows}
use Rattle.dia_file.specs.Cuts.{rows_of_files}
use Rattle.dia_file.specs.Files.{FileValue, IsFileOf}
use Rattle.multiplexer.specs.declared.inbox.Inbox.{Inbox}
use Rattle.scatter.specs.declared.net_err.NetErr.{NetErr}
use Rattle.scatter.specs.declared.net_err.NetErr.TheVariants as nets
use Rattle.scatter.specs.Carrying.{NotCarried}
use Rattle.scatter.specs.Lines.{HasKinds, first_kinds}
use Rattle.scatter.specs.Phases.{AllThree, pools_of}
use Rattle.scatter.specs.Told.{Tells}
use Rattle.scatter.proofs.Hands.{all_tell, hit_since}
use Rattle.sink_files.specs.Ending.{HasTwoPermits}
use Rattle.arrival_files.specs.declared.receive_err.ReceiveErr.{ReceiveErr}
use Rattle.arrival_files.specs.declared.receive_err.ReceiveErr.TheVariants as receives
use Rattle.arrival_files.specs.Receiving.{HasRowsOf, HoldAll, rows_received, ReceiveRefused}
use Rattle.spread.specs.Dealing.{IsDealtOut}
use Rattle.spread.specs.Spreading.{SpreadRefused, fault_of_net, fault_of_receiving}

-- hands ---------------------------------------------------------------------------------------------------------------

abbrev AreSame : HandValue → HandValue → Type 0
AreSame a b = b.permits ≡ a.permits

pub two_still : (hands now : List HandValue) → AllZip AreSame hands now → All HasTwoPermits hands → All HasTwoPermits now
two_still [] [] same two = All-nil HasTwoPermits
two_still [] (b ∷ now) same two = absurd same
two_still (a ∷ hands) [] same two = absurd same
two_still (a ∷ hands) (b ∷ now) same two =
    let is = same.0 in
    let was = All-head HasTwoPermits a hands two in
    let here : HasTwoPermits b = omega (arith, is, was) in
    All-cons HasTwoPermits b now here (two_still hands now same.1 (All-tail HasTwoPermits a hands two))

pub some_of : (hands : List HandValue) (a : HandValue) → slice_get hands 0 ≡ Some a → 0 < length hands
some_of [] a at = cc
some_of (b ∷ hands) a at = omega arith

-- one file for each hand
pub files_long : (hands : List HandValue) (files : List FileValue) → AllZip IsFileOf (pools_of hands) files → length files ≡ length hands
files_long [] [] own = refl
files_long [] (f ∷ files) own = absurd own
files_long (a ∷ hands) [] own = absurd own
files_long (a ∷ hands) (f ∷ files) own = ap suc (files_long hands files own.1)

pub kinds_first : (kinds : List Kind) (files : List FileValue) → 0 < length files → All (HasKinds kinds) files → first_kinds files ≡ kinds
kinds_first kinds [] some are = absurd (omega arith)
kinds_first kinds (f ∷ files) some are = All-head (HasKinds kinds) f files are

-- rows --------------------------------------------------------------------------------------------------------------

abbrev alone : List Row → List (List Row)
alone list = list ∷ []

received_is : (lists : List (List Row)) → rows_received (map alone lists) ≡ flat_map (λ (list : List Row). list) lists
received_is [] = refl
received_is (list ∷ lists) =
    ap (λ (rows : List Row). rows ++ rows_received (map alone lists)) (append-nil list) ∙ ap (λ (rows : List Row). list ++ rows) (received_is lists)

rows_each : (kinds : List Kind) (hands : List HandValue) (boxes : List Inbox) (files : List FileValue) (lists : List (List Row)) → AllThree (HasRowsOf kinds) hands boxes files → All Tells hands
    → HoldAll kinds boxes (map alone lists) → rows_of_files files ≡ flat_map (λ (list : List Row). list) lists
rows_each kinds [] [] [] [] has tells hold = refl
rows_each kinds [] [] [] (list ∷ lists) has tells hold = absurd hold
rows_each kinds (a ∷ hands) (x ∷ boxes) (f ∷ files) [] has tells hold = absurd hold
rows_each kinds (a ∷ hands) (x ∷ boxes) (f ∷ files) (list ∷ lists) has tells hold =
    let here : f.rows ≡ list = has.0 (All-head Tells a hands tells) (alone list) hold.0 ∙ append-nil list in
    ap (λ (rows : List Row). rows ++ rows_of_files files) here ∙ ap (λ (rows : List Row). list ++ rows) (rows_each kinds hands boxes files lists has.1 (All-tail Tells a hands tells) hold.1)
rows_each kinds _ _ _ lists has tells hold = absurd has

module _ (kinds : List Kind) (rows : List Row) (carries : Bool) (hands mid : List HandValue) (boxes : List Inbox) (later : AllZip Follows hands mid) (dealt : IsDealtOut kinds rows carries hands boxes) where
  -- the files have the rows that were dealt out
  pub rows_spread : (files : List FileValue) → AllThree (HasRowsOf kinds) mid boxes files → carries ≡ true → All Tells hands → rows_of_files files ≡ rows
  rows_spread files has carried tells = rows_each kinds mid boxes files dealt.lists has (all_tell hands mid later tells) (dealt.hold carried tells) ∙ dealt.rows_are

  pub refused_receiving : (f : FileValue) (faults faults_now : ℕ) (now : List HandValue) (e : ReceiveErr) → f.rows ≡ rows → ReceiveRefused kinds boxes mid now e
      → SpreadRefused f carries faults faults_now hands now (fault_of_receiving e)
  refused_receiving f faults faults_now now (receives.Disk count) is why = hit_since hands mid now count later why
  refused_receiving f faults faults_now now receives.Damaged is why = λ carried tells. why (all_tell hands mid later tells) (map alone dealt.lists) (dealt.hold carried tells)
  refused_receiving f faults faults_now now receives.NoMemory is why = tt
  refused_receiving f faults faults_now now receives.TooManyRows is why = λ carried tells.
      subst (λ n. most_rows < n) (ap length (received_is dealt.lists ∙ dealt.rows_are ∙ sym is)) (why (all_tell hands mid later tells) (map alone dealt.lists) (dealt.hold carried tells))

pub refused_net : (f : FileValue) (carries : Bool) (faults faults_now : ℕ) (hands now : List HandValue) (e : NetErr) → NotCarried carries faults faults_now hands now e
    → SpreadRefused f carries faults faults_now hands now (fault_of_net e)
refused_net f carries faults faults_now hands now (nets.Link count) why = why
refused_net f carries faults faults_now hands now (nets.LinkBytes at) why = why
refused_net f carries faults faults_now hands now (nets.Disk count) why = why
refused_net f carries faults faults_now hands now nets.Damaged why = λ carried tells. why tells
refused_net f carries faults faults_now hands now nets.NoMemory why = tt
