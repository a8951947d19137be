-- Sinks, hands and files side by side.
use Rattle.std.proofs.Common.{◌≡◌, ℕ, ◌+◌, ◌<◌, ◌≤◌, List, [], ◌∷◌, length, take, map, get_or, Option, Some, None, refl, ap, arith}
use Rattle.std.specs.Prelude.{All, IsSome}
use Rattle.std.specs.List.{AllZip, sum_by}
use Rattle.std.proofs.lemmas.List.Sums.{sum_by-cons, sum_by_more_le}
use Rattle.std.proofs.lemmas.List.Elements.{All-nil, All-cons, All-head, All-tail}
use Rattle.block_pool.specs.Handles.{HandValue, Follows}
use Rattle.dia_file.specs.Files.{FileValue}
use Rattle.file_sink.specs.Sinks.{SinkValue, KeepsFile, keeps_none}
use Rattle.scatter.specs.Phases.{AllThree}
use Rattle.scatter.specs.Clearing.{IsPartIn}
use Rattle.sink_files.specs.Ending.{IsBack, IsPartFrom, IsFileFrom, part_rows, rows_taken}

-- hands after the end of their sinks are later states
pub back_follows : (ss : List SinkValue) (hs bs : List HandValue) → AllThree IsBack ss hs bs → AllZip Follows hs bs
back_follows [] [] [] h = tt
back_follows (s ∷ ss) (a ∷ hs) (b ∷ bs) h = (h.0.0, back_follows ss hs bs h.1)
back_follows _ _ _ h = absurd h

part_in : (s : SinkValue) (b : HandValue) (part : Option FileValue) → IsPartFrom s b part → IsPartIn b part
part_in s b None h = tt
part_in s b (Some f) h = h.own

-- the files may be cleared
pub parts_in : (ss : List SinkValue) (bs : List HandValue) (parts : List (Option FileValue)) → AllThree IsPartFrom ss bs parts → AllZip IsPartIn bs parts
parts_in [] [] [] h = tt
parts_in (s ∷ ss) (b ∷ bs) (p ∷ parts) h = (part_in s b p h.0, parts_in ss bs parts h.1)
parts_in _ _ _ h = absurd h

-- all are there
pub files_from : (ss : List SinkValue) (bs : List HandValue) (files : List FileValue) → AllThree IsPartFrom ss bs (map (λ (f : FileValue). Some f) files) → AllThree IsFileFrom ss bs files
files_from [] [] [] h = tt
files_from (s ∷ ss) (b ∷ bs) (f ∷ files) h = (h.0, files_from ss bs files h.1)
files_from [] [] (f ∷ files) h = absurd h
files_from [] (b ∷ bs) files h = absurd h
files_from (s ∷ ss) [] files h = absurd h
files_from (s ∷ ss) (b ∷ bs) [] h = absurd h

part_few : (s : SinkValue) (b : HandValue) (part : Option FileValue) → IsPartFrom s b part → part_rows part ≤ rows_taken s
part_few s b None h = omega arith
part_few s b (Some f) h = let same : length f.rows ≡ length s.writer.rows = ap length h.rows in omega arith

-- there are no more rows in the files than the sinks took
pub parts_few : (ss : List SinkValue) (bs : List HandValue) (parts : List (Option FileValue)) → AllThree IsPartFrom ss bs parts → sum_by part_rows parts ≤ sum_by rows_taken ss
parts_few [] [] [] h = omega arith
parts_few (s ∷ ss) (b ∷ bs) (p ∷ parts) h =
    let here = part_few s b p h.0 in
    let rest = parts_few ss bs parts h.1 in
    let files = sum_by-cons part_rows p parts in
    let taken = sum_by-cons rows_taken s ss in
    omega arith
parts_few _ _ _ h = absurd h

part_all : (s : SinkValue) (b : HandValue) (part : Option FileValue) → IsSome part → IsPartFrom s b part → part_rows part ≡ rows_taken s
part_all s b None there h = absurd cc
part_all s b (Some f) there h = ap length h.rows

-- and just as many, where all files are there
pub parts_all : (ss : List SinkValue) (bs : List HandValue) (parts : List (Option FileValue)) → AllThree IsPartFrom ss bs parts → All IsSome parts → sum_by part_rows parts ≡ sum_by rows_taken ss
parts_all [] [] [] h there = refl
parts_all (s ∷ ss) (b ∷ bs) (p ∷ parts) h there =
    let here = part_all s b p (All-head IsSome p parts there) h.0 in
    let rest = parts_all ss bs parts h.1 (All-tail IsSome p parts there) in
    let files = sum_by-cons part_rows p parts in
    let taken = sum_by-cons rows_taken s ss in
    omega arith
parts_all _ _ _ h there = absurd h

-- the files so far and the next one have too many rows
pub many_at : (parts : List (Option FileValue)) (i room most : ℕ) (part : Option FileValue) → i < length parts → get_or parts i part ≡ part
    → room + sum_by part_rows (take i parts) ≡ most → room < part_rows part → most < sum_by part_rows parts
many_at parts i room most part below is so_far many =
    let next = sum_by_more_le part_rows parts i part below in
    let same : part_rows (get_or parts i part) ≡ part_rows part = ap part_rows is in
    omega arith

pub keep_refl : (ss : List SinkValue) → AllZip KeepsFile ss ss
keep_refl [] = tt
keep_refl (s ∷ ss) = (keeps_none s, keep_refl ss)

pub all_some : (files : List FileValue) → All IsSome (map (λ (f : FileValue). Some f) files)
all_some [] = All-nil IsSome
all_some (f ∷ files) = All-cons IsSome (Some f) (map (λ (f : FileValue). Some f) files) refl (all_some files)
