-- How a cache goes on, or stops.
use Rattle.std.proofs.Common.{◌≡◌, ℕ, ◌<◌, ◌≤◌, List, [], ◌∷◌, length, Option, subst}
use Rattle.row_defs.specs.Inputs.{Inputs}
use Rattle.row_defs.specs.Limits.{most_rows}
use Rattle.row_defs.specs.Rows.{Row}
use Rattle.row_defs.specs.LocalOps.{LocalOp}
use Rattle.row_defs.specs.Operands.{Root, Operand}
use Rattle.script_defs.specs.Work.{do_line}
use Rattle.std.specs.List.{AllZip}
use Rattle.block_pool.specs.Handles.{HandValue, Follows}
use Rattle.dia_file.specs.Cuts.{rows_of_files}
use Rattle.dia_file.specs.Files.{FileValue}
use Rattle.place_node.specs.declared.node_err.NodeErr.{NodeErr}
use Rattle.place_node.specs.declared.node_err.NodeErr.TheVariants as nodes
use Rattle.place_node.specs.Placing.{PlaceRefused}
use Rattle.scatter.specs.Lines.{Lines, root_rows}
use Rattle.scatter.specs.Phases.{IsUsed}
use Rattle.scatter.specs.Told.{AreTold, arriving}
use Rattle.stage_laws.specs.Standing.{KeepsOneMore, IsCaching, HasRows}
use Rattle.stage_laws.proofs.ItemLemmas.{item_is_cut_off}
use Rattle.stage_laws.proofs.CacheLemmas.{cache_is_kept, cache_keeps, cache_has_too_many}
use Rattle.script_run.specs.Errors.{place_error, TellsStop}
use Rattle.script_run.specs.Held.{Held, kept_by, IsReady, IsCacheOf, told_by}
use Rattle.script_run.specs.Steps.{Does, StopsAt, IsPut}
use Rattle.script_run.proofs.ActLemmas.{told_root}
use Rattle.script_run.specs.Weighing.{IsWeighed}
use Rattle.script_run.proofs.LineLemmas.{keeps_but, keeps_more, rows_at}
use Rattle.script_run.proofs.WeighLemmas.{weighed_still}

module _ (n of : ℕ) (o : Operand) (old : Held) (told : Option Inputs) (is : IsCacheOf old.script n of o) (has : HasRows (kept_by old.lines) o.root) (ready : IsReady old) where
  caching : IsCaching old.script n of (kept_by old.lines) o (root_rows old.lines o.root)
  caching = record { name = is.name; is = is.is; operand = is.operand; at_root = rows_at old.lines o.root has }

  -- the files of the rows that arrive were put for the line, with the lines as the phase left them
  pub cache_goes_on : (files : List FileValue) (mid new : Held) (taken : Option (List ℕ)) → IsUsed old.lines o.root o.last mid.lines
      → (AreTold o.root old.hands → rows_of_files files ≡ arriving old.lines o.root o.chain) → length (rows_of_files files) ≤ most_rows
      → AllZip Follows old.hands new.hands → IsWeighed new.hands (rows_of_files files)
      → IsPut n files mid new → Does (do_line n) (o ∷ []) told old new taken taken
  cache_goes_on files mid new taken used rows few follows weighed put =
      let but = keeps_but old.lines mid.lines o.root o.last used in
      let onto = keeps_more mid.lines new.lines n files put.sets in
      let Keeps : List Row → Type 0 = λ rs. KeepsOneMore (kept_by mid.lines) n rs (kept_by new.lines) in
      let Few : List Row → Type 0 = λ rs. length rs ≤ most_rows in
      record {
        goes = λ inputs begun done left t work at.
            let same = rows (told_root o.root told old.hands inputs ready.one t) in
            cache_is_kept (IsWeighed old.hands) (IsWeighed new.hands) old.script (told_by told old.hands) n of (kept_by old.lines) (kept_by mid.lines) (kept_by new.lines) o
            (root_rows old.lines o.root) taken (weighed_still old.hands new.hands follows) (subst (IsWeighed new.hands) same weighed) caching (subst Few same few) but (subst Keeps same onto) inputs begun done left t work at;
        keeps = cache_keeps old.script n (rows_of_files files) (kept_by old.lines) (kept_by mid.lines) (kept_by new.lines) o but onto;
        ready = put.ready;
      }

  pub cache_stops : (ops : List LocalOp) (now : List HandValue) (taken : Option (List ℕ)) (why : NodeErr) → ops ≡ o.chain → PlaceRefused old.lines o.root ops old.hands now why
      → StopsAt (do_line n) told old taken (place_error n why) taken
  cache_stops ops now taken nodes.TooManyRows same h = λ inputs begun done left t work at.
      let many = h (told_root o.root told old.hands inputs ready.one t) in
      let Many : List LocalOp → Type 0 = λ xs. most_rows < length (arriving old.lines o.root xs) in
      cache_has_too_many (IsWeighed old.hands) old.script (told_by told old.hands) n of (kept_by old.lines) o (root_rows old.lines o.root) taken caching (subst Many same many)
      inputs begun done left t work at
  cache_stops ops now taken (nodes.Disk count) same h = item_is_cut_off (IsWeighed old.hands) old.script (told_by told old.hands) (do_line n) (kept_by old.lines) taken
  cache_stops ops now taken nodes.Damaged same h = item_is_cut_off (IsWeighed old.hands) old.script (told_by told old.hands) (do_line n) (kept_by old.lines) taken
  cache_stops ops now taken nodes.NoMemory same h = item_is_cut_off (IsWeighed old.hands) old.script (told_by told old.hands) (do_line n) (kept_by old.lines) taken

-- what it tells
pub cache_tells : (n : ℕ) (lines : Lines) (root : Root) (ops : List LocalOp) (hands now : List HandValue) (why : NodeErr) (a b x y : ℕ)
    → PlaceRefused lines root ops hands now why → TellsStop (place_error n why) a b x y hands now
cache_tells n lines root ops hands now nodes.TooManyRows a b x y h = tt
cache_tells n lines root ops hands now (nodes.Disk count) a b x y h = h
cache_tells n lines root ops hands now nodes.Damaged a b x y h = h
cache_tells n lines root ops hands now nodes.NoMemory a b x y h = tt
