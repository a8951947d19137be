-- The lines that a run keeps.
use Rattle.std.proofs.Common.{◌≡◌, ℕ, ◌-◌, ◌<◌, Bool, true, false, List, [], ◌∷◌, map, length, Option, None, Some, IsSome, inl, inr, refl, sym, ap, ◌∙◌, subst, arith}
use Rattle.std.specs.Prelude.{All}
use Rattle.std.specs.Option.{option_map}
use Rattle.std.specs.List.{filter_map, flat_map, range_with_len}
use Rattle.std.proofs.lemmas.List.Elements.{All-head}
use Rattle.row_defs.specs.declared.kind.Kind.{Kind}
use Rattle.row_defs.specs.Rows.{number_row}
use Rattle.row_defs.specs.Operands.{Root, stored_root, count_root, root_line}
use Rattle.script_defs.specs.Scripts.{Script}
use Rattle.script_defs.specs.Plans.{kinds_at}
use Rattle.block_pool.specs.Handles.{PoolName}
use Rattle.dia_file.specs.Cuts.{rows_of_files}
use Rattle.dia_file.specs.Files.{FileValue}
use Rattle.scatter.specs.Lines.{LineValue, Lines, Sets, HasKinds, HasRoot, first_kinds, files_of, root_rows, root_kinds}
use Rattle.scatter.specs.Phases.{IsUsed}
use Rattle.scatter.specs.Stocks.{AreInPools}
use Rattle.scatter.proofs.Rooted.{put_value}
use Rattle.stage_laws.specs.Standing.{KeepsOneMore, KeepsBut, HasRows, AreAtRoot}
use Rattle.script_run.specs.Held.{rows_of_line, kept_by, IsKept, AreNumbers}
use Rattle.sink_files.proofs.Lists.{all_some}

-- files that are put ----------------------------------------------------------------------------------------------------

all_there : (files : List FileValue) → filter_map (λ (part : Option FileValue). part) (map (λ (f : FileValue). Some f) files) ≡ files
all_there [] = refl
all_there (f ∷ files) = ap (λ (fs : List FileValue). f ∷ fs) (all_there files)

pub put_rows : (files : List FileValue) → rows_of_line (put_value files) ≡ rows_of_files files
put_rows files = ap rows_of_files (all_there files)

pub put_kept : (script : Script) (n : ℕ) (files : List FileValue) → 0 < length files → All (HasKinds (kinds_at script n)) files → IsKept script n (put_value files)
put_kept script n [] some kinds = absurd (omega arith)
put_kept script n (f ∷ files) some kinds = record { kinds = All-head (HasKinds (kinds_at script n)) f files kinds; whole = all_some (f ∷ files) }

-- files of these kinds have the kinds of the first
pub first_have : (files : List FileValue) → 0 < length files → (kinds : List Kind) → All (HasKinds kinds) files → All (HasKinds (first_kinds files)) files
first_have [] some kinds all = absurd (omega arith)
first_have (f ∷ files) some kinds all =
    let same : f.kinds ≡ kinds = All-head (HasKinds kinds) f files all in
    let All-have : List Kind → Type 0 = λ ks. All (HasKinds ks) (f ∷ files) in
    subst All-have (sym same) all

pub keeps_more : (lines now : Lines) (n : ℕ) (files : List FileValue) → Sets lines n (Some (put_value files)) now → KeepsOneMore (kept_by lines) n (rows_of_files files) (kept_by now)
keeps_more lines now n files sets =
    let here : kept_by now n ≡ Some (rows_of_files files) = ap (option_map rows_of_line) sets.here ∙ ap Some (put_rows files) in
    record {
      here = here;
      others = λ m. elim (sets.others m) [
        | inl same ↦ inr (same, ap (kept_by now) same ∙ here)
        | inr other ↦ inl (ap (option_map rows_of_line) other)
      ];
    }

abbrev AllKept : Script → Lines → Type 0
AllKept script lines = (n : ℕ) (line : LineValue) → lines n ≡ Some line → IsKept script n line

some_line : (a b : LineValue) → Some a ≡ Some b → a ≡ b
some_line a b e = cc

pub all_kept_more : (script : Script) (lines now : Lines) (n : ℕ) (files : List FileValue) → 0 < length files → All (HasKinds (kinds_at script n)) files
    → Sets lines n (Some (put_value files)) now → AllKept script lines → AllKept script now
all_kept_more script lines now n files some kinds sets all = λ m line there. elim (sets.others m) [
  | inl same ↦
      let here : Some (put_value files) ≡ Some line = sym sets.here ∙ ap now (sym same) ∙ there in
      let Kept-at : ℕ → Type 0 = λ k. IsKept script k line in
      subst Kept-at (sym same) (subst (IsKept script n) (some_line (put_value files) line here) (put_kept script n files some kinds))
  | inr other ↦ all m line (sym other ∙ there)
]

-- lines that were used --------------------------------------------------------------------------------------------------

pub keeps_but : (lines now : Lines) (root : Root) (last : Bool) → IsUsed lines root last now → KeepsBut root last (kept_by lines) (kept_by now)
keeps_but lines now (stored_root n) true used = λ m. elim (used.others m) [
  | inl same ↦ inr (ap stored_root (sym same), refl, ap (kept_by now) same ∙ ap (option_map rows_of_line) used.here)
  | inr other ↦ inl (ap (option_map rows_of_line) other)
]
keeps_but lines now (stored_root n) false used = λ m. inl (ap (option_map rows_of_line) (used m))
keeps_but lines now (count_root n rows) last used = λ m. inl (ap (option_map rows_of_line) (used m))

-- what is left after a use was there before
left_there : (lines now : Lines) (root : Root) (last : Bool) → IsUsed lines root last now → (n : ℕ) (line : LineValue) → now n ≡ Some line → lines n ≡ Some line
left_there lines now (stored_root k) true used n line there = elim (used.others n) [
  | inl same ↦ (let both : None ≡ Some line = sym used.here ∙ ap now (sym same) ∙ there in let wrong : ⊥ = cc in absurd wrong)
  | inr other ↦ sym other ∙ there
]
left_there lines now (stored_root k) false used n line there = sym (used n) ∙ there
left_there lines now (count_root k rows) last used n line there = sym (used n) ∙ there

pub used_kept : (script : Script) (lines now : Lines) (root : Root) (last : Bool) → IsUsed lines root last now → AllKept script lines → AllKept script now
used_kept script lines now root last used all = λ n line there. all n line (left_there lines now root last used n line there)

pub used_pools : (pools : List PoolName) (lines now : Lines) (root : Root) (last : Bool) → IsUsed lines root last now → AreInPools pools lines → AreInPools pools now
used_pools pools lines now root last used all = λ n line there. all n line (left_there lines now root last used n line there)

-- an operand's root -----------------------------------------------------------------------------------------------------

some_there : (o : Option LineValue) → IsSome (option_map rows_of_line o) → (line : LineValue) × (o ≡ Some line)
some_there None is = let wrong : ⊥ = cc in absurd wrong
some_there (Some line) is = (line, refl)

pub has_root : (script : Script) (lines : Lines) (root : Root) → AllKept script lines → HasRows (kept_by lines) root → HasRoot lines root
has_root script lines (stored_root n) all has =
    let there = some_there (lines n) has in
    record { line = there.0; there = there.1; whole = (all n there.0 there.1).whole }
has_root script lines (count_root n rows) all has = tt

pub kinds_of_root : (script : Script) (lines : Lines) (root : Root) → AllKept script lines → HasRows (kept_by lines) root → AreNumbers script root → root_kinds lines root ≡ kinds_at script (root_line root)
kinds_of_root script lines (stored_root n) all has numbers =
    let there = some_there (lines n) has in
    rw there.1 ((all n there.0 there.1).kinds)
kinds_of_root script lines (count_root n rows) all has numbers = sym numbers

pub rows_at : (lines : Lines) (root : Root) → HasRows (kept_by lines) root → AreAtRoot (kept_by lines) root (root_rows lines root)
rows_at lines (stored_root n) has =
    let there = some_there (lines n) has in
    let Of : Option LineValue → Type 0 = λ o. option_map rows_of_line o ≡ Some (flat_map (λ (f : FileValue). f.rows) (files_of o)) in
    subst Of (sym there.1) refl
rows_at lines (count_root n rows) has = let less : rows - 0 ≡ rows = omega arith in ap (λ (k : ℕ). map number_row (range_with_len 0 k)) less
