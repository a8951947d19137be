-- The files of sinks.
use Rattle.std.proofs.Common.{◌≡◌, List, [], ◌∷◌, ◌++◌, ◌∙◌, length, refl, ap, subst, arith, length-append}
use Rattle.std.specs.Prelude.{All}
use Rattle.std.specs.List.{AllZip, flat_map, sum_by}
use Rattle.std.proofs.lemmas.List.Elements.{All-nil, All-cons, All-head, All-tail}
use Rattle.std.proofs.lemmas.List.Sums.{sum_by-cons}
use Rattle.row_defs.specs.declared.kind.Kind.{Kind}
use Rattle.row_defs.specs.Rows.{Row}
use Rattle.block_pool.specs.Handles.{HandValue, Follows, PoolName}
use Rattle.dia_file.specs.Cuts.{rows_of_files}
use Rattle.dia_file.specs.Files.{FileValue, IsFileOf}
use Rattle.file_sink.specs.Sinks.{SinkValue}
use Rattle.scatter.specs.Lines.{HasKinds}
use Rattle.scatter.specs.Phases.{AllThree, pools_of}
use Rattle.sink_files.specs.Ending.{IsFileFrom, rows_taken}

-- the rows that a sink took
abbrev pub rows_in : SinkValue → List Row
rows_in s = s.writer.rows

-- joined by rank they have what the sinks took
pub files_rows : (ss : List SinkValue) (bs : List HandValue) (files : List FileValue) → AllThree IsFileFrom ss bs files → rows_of_files files ≡ flat_map rows_in ss
files_rows [] [] [] h = refl
files_rows (s ∷ ss) (b ∷ bs) (f ∷ files) h =
    ap (λ (rows : List Row). rows ++ rows_of_files files) h.0.rows ∙ ap (λ (rows : List Row). s.writer.rows ++ rows) (files_rows ss bs files h.1)
files_rows _ _ _ h = absurd h

pub files_kinds : (kinds : List Kind) (ss : List SinkValue) (bs : List HandValue) (files : List FileValue) → All (λ (s : SinkValue). s.writer.kinds ≡ kinds) ss
    → AllThree IsFileFrom ss bs files → All (HasKinds kinds) files
files_kinds kinds [] [] [] are h = All-nil (HasKinds kinds)
files_kinds kinds (s ∷ ss) (b ∷ bs) (f ∷ files) are h =
    let Are : SinkValue → Type 0 = λ s. s.writer.kinds ≡ kinds in
    All-cons (HasKinds kinds) f files (h.0.kinds ∙ All-head Are s ss are) (files_kinds kinds ss bs files (All-tail Are s ss are) h.1)
files_kinds kinds _ _ _ are h = absurd h

-- they are of the pools of the hands
pub files_own : (ss : List SinkValue) (hs bs : List HandValue) (files : List FileValue) → AllZip Follows hs bs → AllThree IsFileFrom ss bs files → AllZip IsFileOf (pools_of hs) files
files_own [] [] [] [] later h = tt
files_own (s ∷ ss) (a ∷ hs) (b ∷ bs) (f ∷ files) later h =
    (subst (λ (pool : PoolName). IsFileOf pool f) later.0.pool h.0.own, files_own ss hs bs files later.1 h.1)
files_own ss [] (b ∷ bs) files later h = absurd later
files_own ss (a ∷ hs) [] files later h = absurd later
files_own [] [] [] (f ∷ files) later h = absurd h
files_own (s ∷ ss) [] [] files later h = absurd h
files_own [] (a ∷ hs) (b ∷ bs) files later h = absurd h
files_own (s ∷ ss) (a ∷ hs) (b ∷ bs) [] later h = absurd h

-- how many rows sinks took together
pub taken_is : (ss : List SinkValue) → sum_by rows_taken ss ≡ length (flat_map rows_in ss)
taken_is [] = refl
taken_is (s ∷ ss) =
    let both = length-append s.writer.rows (flat_map rows_in ss) in
    let rest = taken_is ss in
    let taken = sum_by-cons rows_taken s ss in
    omega arith
