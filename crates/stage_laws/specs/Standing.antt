-- Where a run stands before the stages that are left, and what it is to go on from there or to stop.
use Rattle.std.specs.Prelude.{◌≡◌, ◌⊎◌, ℕ, Bool, true, List, [], ◌∷◌, ◌++◌, length, map, filter, take, Option, None, Some, IsSome}
use Rattle.std.specs.List.{list_any, range_with_len}
use Rattle.row_defs.specs.Rows.{Row, number_row}
use Rattle.row_defs.specs.Inputs.{Inputs}
use Rattle.row_defs.specs.Operands.{Root, stored_root, count_root, Operand, is_stored_at}
use Rattle.script_defs.specs.Scripts.{Form, cache_form, line, act, stored, origin_of, Action, action_operand, Script, statement_at}
use Rattle.script_defs.specs.Reading.{nothing_known}
use Rattle.script_defs.specs.Sound.{IsSound}
use Rattle.script_defs.specs.Lists.{Lists}
use Rattle.script_defs.specs.Work.{Item, has_number, work_of}
use Rattle.script_defs.specs.Plans.{Stage, IsStage, IsOperand, item_of, is_stage, all_operands, AreLast}
use Rattle.script_defs.specs.Ends.{Ending, whole, stopped, too_many, cut_off, IsDone, IsStopped, IsTooMany, IsCutOff}
use Rattle.dia_edge.specs.Sinks.{TookAll}
use Rattle.run_laws.specs.Order.{lines_among, InWork}
use Rattle.run_laws.specs.Laws.{IsRunOf, texts_among}

-- what is kept -----------------------------------------------------------------------------------------------------------

-- the rows that are kept for each line
abbrev pub Kept : Type 0
Kept = ℕ → Option (List Row)

-- these rows are kept too, for line n
pub record KeepsOneMore (kept : Kept) (n : ℕ) (rows : List Row) (now : Kept) : Type 0 where
  pub here : now n ≡ Some rows
  pub others : (m : ℕ) → (now m ≡ kept m) ⊎ ((m ≡ n) × (now m ≡ Some rows))

-- whether one of these operands reads the rows that are kept of line n
abbrev pub is_read : ℕ → List Operand → Bool
is_read n operands = list_any (λ (o : Operand). is_stored_at n o.root) operands

-- the rows of each stored line among the items done that one of these operands reads are kept
abbrev pub AreKept : Script → List Item → List Operand → Kept → Type 0
AreKept script done operands kept =
    (l : ℕ) (name : List ℕ) (form : Form) → has_number (lines_among done) l ≡ true → statement_at script l ≡ Some (line name form) → origin_of form ≡ stored
    → is_read l operands ≡ true → IsSome (kept l)

-- what is kept is as it was, but that the rows at the root may be gone where this is the last use of them
abbrev pub KeepsBut : Root → Bool → Kept → Kept → Type 0
KeepsBut root last kept now = (m : ℕ) → (now m ≡ kept m) ⊎ ((root ≡ stored_root m) × (last ≡ true) × (now m ≡ None))

-- what is kept for a line is its list
abbrev pub AreListed : Lists → Kept → Type 0
AreListed lists kept = (n : ℕ) (rows : List Row) → kept n ≡ Some rows → lists n ≡ Some rows

-- the rows at a root are kept, or need not be
abbrev pub HasRows : Kept → Root → Type 0
HasRows kept (stored_root n) = IsSome (kept n)
HasRows kept (count_root n rows) = Unit {0}

-- the root has these rows
abbrev pub AreAtRoot : Kept → Root → List Row → Type 0
AreAtRoot kept (stored_root n) rows = kept n ≡ Some rows
AreAtRoot kept (count_root n count) rows = rows ≡ map number_row (range_with_len 0 count)

-- what is known of the rows of caches --------------------------------------------------------------------------------

-- it holds of the rows of each line among these items that is a cache
abbrev pub AllCached : (List Row → Type 0) → Script → Lists → List Item → Type 0
AllCached W script lists items =
    (l of : ℕ) (name : List ℕ) (rows : List Row) → has_number (lines_among items) l ≡ true → statement_at script l ≡ Some (line name (cache_form of))
    → lists l ≡ Some rows → W rows

-- whatever rows the one held of, the other holds of them
abbrev pub StillHolds : (List Row → Type 0) → (List Row → Type 0) → Type 0
StillHolds W W' = (rows : List Row) → W rows → W' rows

-- a run ends so, and W holds of the rows of each cache that it did; where it is cut off, nothing is said of these
abbrev pub EndsWith : (List Row → Type 0) → Script → Inputs → Ending → List ℕ → Type 0
EndsWith W script inputs whole took = (e : IsDone script inputs (length (work_of script)) took) × AllCached W script e.lists (work_of script)
EndsWith W script inputs (stopped name cause) took =
    (e : IsStopped script inputs name cause took) × AllCached W script e.done.lists (take e.count (work_of script))
EndsWith W script inputs (too_many n) took = (e : IsTooMany script inputs n took) × AllCached W script e.done.lists (take e.count (work_of script))
EndsWith W script inputs cut_off took = IsCutOff script inputs took

-- where a run stands --------------------------------------------------------------------------------------------------

-- these items are a run, W holds of the rows of each cache among them, and since `out` told `begun` it took their texts
pub record IsAt (W : List Row → Type 0) (script : Script) (inputs : Inputs) (begun : Option (List ℕ)) (done : List Item) (kept : Kept) (taken : Option (List ℕ)) : Type 0 where
  pub lists : Lists
  pub run : IsRunOf script inputs lists done
  pub are : AreListed lists kept
  pub cached : AllCached W script lists done
  pub since : TookAll begun (texts_among script lists done) taken

-- since `out` told `begun` it took some bytes of which this holds
pub record Ended (begun : Option (List ℕ)) (End : List ℕ → Type 0) (taken : Option (List ℕ)) : Type 0 where
  pub took : List ℕ
  pub since : TookAll begun took taken
  pub end : End took

-- `told` are the inputs that the run has, where they are told.

-- wherever a run stood before this item while W was known of the rows of caches, it stands behind it with W'
abbrev pub GoesOn : (List Row → Type 0) → (List Row → Type 0) → Script → Option Inputs → Item → Kept → Option (List ℕ) → Kept → Option (List ℕ) → Type 0
GoesOn W W' script told item kept taken kept_now taken_now =
    (inputs : Inputs) (begun : Option (List ℕ)) (done left : List Item) → told ≡ Some inputs → InWork script done (item ∷ left)
    → IsAt W script inputs begun done kept taken → IsAt W' script inputs begun (done ++ item ∷ []) kept_now taken_now

-- wherever a run stood before this item, it ends so
abbrev pub Stops : (List Row → Type 0) → Script → Option Inputs → Item → Kept → Option (List ℕ) → Ending → Option (List ℕ) → Type 0
Stops W script told item kept taken ending taken_now =
    (inputs : Inputs) (begun : Option (List ℕ)) (done left : List Item) → told ≡ Some inputs → InWork script done (item ∷ left)
    → IsAt W script inputs begun done kept taken → Ended begun (EndsWith W script inputs ending) taken_now

-- and what later operands read is kept, where what they and the item's own read was
abbrev pub KeepsOn : Script → Item → List Operand → Kept → Kept → Type 0
KeepsOn script item operands kept kept_now =
    (later : List Operand) (done left : List Item) → AreLast (operands ++ later) → InWork script done (item ∷ left)
    → AreKept script done (operands ++ later) kept → AreKept script (done ++ item ∷ []) later kept_now

-- a stage can be done: of the work of an accepted script the items before it are done, and what it and later operands read of
-- them is kept
pub record CanDo (script : Script) (stage : Stage) (kept : Kept) : Type 0 where
  pub sound : IsSound nothing_known 1 script
  pub is : IsStage script stage
  pub done : List Item
  pub left : List Item
  pub later : List Operand
  pub work : InWork script done (item_of stage.number stage.statement ∷ left)
  pub last : AreLast (stage.operands ++ later)
  pub are : AreKept script done (stage.operands ++ later) kept

-- a run that began when `out` told `begun` stands before these stages, and W is known of the rows of the caches that it did
pub record Stands (W : List Row → Type 0) (script : Script) (told : Option Inputs) (begun : Option (List ℕ)) (stages : List Stage) (kept : Kept) (taken : Option (List ℕ)) : Type 0 where
  pub done : List Item
  pub left : List Item
  pub work : InWork script done left
  pub rest : map (λ (s : Stage). item_of s.number s.statement) stages ≡ filter (is_stage script) left
  pub last : AreLast (all_operands stages)
  pub are : AreKept script done (all_operands stages) kept
  pub at : (inputs : Inputs) → told ≡ Some inputs → IsAt W script inputs begun done kept taken

-- the line that a cache names has the rows that local lines make of these, which its operand's root has
pub record IsCaching (script : Script) (n : ℕ) (of : ℕ) (kept : Kept) (o : Operand) (rows : List Row) : Type 0 where
  pub name : List ℕ
  pub is : statement_at script n ≡ Some (line name (cache_form of))
  pub operand : IsOperand script of o
  pub at_root : AreAtRoot kept o.root rows

-- an action's line has the rows that local lines make of these, which its operand's root has
pub record IsActing (script : Script) (n : ℕ) (action : Action) (kept : Kept) (o : Operand) (rows : List Row) : Type 0 where
  pub is : statement_at script n ≡ Some (act action)
  pub operand : IsOperand script (action_operand action) o
  pub at_root : AreAtRoot kept o.root rows
