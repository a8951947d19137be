use Rattle.std.proofs.Common.{◌≡◌, List, ℕ, sym, ap, subst, ◌∙◌, drop}
use Rattle.std.proofs.lemmas.List.{drop-drop}
use Rattle.dia_item.specs.KindList.{kind_list}
use Rattle.dia_item.specs.Lent.{row_in_ref}
use Rattle.dia_file.specs.Encoding.{ReadsRow, HoldsNone}
use Rattle.dia_file.specs.Places.{shown_bytes}
use Rattle.dia_file.proofs.RowBytes.{found_reads, none_held}
use Rattle.dia_item.proofs.RowLemmas.{kinds_are}
use Rattle.dia_file.proofs.reading.give_short.Goals as goal

pub returns-in_default-read_row-clause-none : goal.returns-in_default-read_row-clause-none
returns-in_default-read_row-clause-none c =
    let P : List ℕ → Type 0 = λ xs. HoldsNone (kind_list c.args.kinds.now) xs in
    let shows = c.bytes.ensures.bytes ∙ sym (ap shown_bytes c.in-Some.is) in
    subst P (c.split_at.ensures.back ∙ ap (λ (xs : List ℕ). drop c.args.at.now xs) shows) (none_held _ _ c.in_default-read_row.ensures.none)

pub returns-clause-reads : goal.returns-clause-reads
returns-clause-reads c =
    let row = row_in_ref c.in-Some-read_row.row in
    let n : ℕ = c.in-Some-read_row.n in
    let rest : List ℕ = c.split_at.result.1.now in
    let shows = c.bytes.ensures.bytes ∙ sym (ap shown_bytes c.in-Some.is) in
    let there : rest ≡ drop c.args.at.now (shown_bytes c.args.shown.now) = c.split_at.ensures.back ∙ ap (λ (xs : List ℕ). drop c.args.at.now xs) shows in
    let P : List ℕ → Type 0 = λ xs. ReadsRow (kind_list c.args.kinds.now) xs row (drop n xs) in
    let Q : List ℕ → Type 0 = λ xs. ReadsRow (kind_list c.args.kinds.now) (drop c.args.at.now (shown_bytes c.args.shown.now)) row xs in
    subst Q (drop-drop n c.args.at.now (shown_bytes c.args.shown.now)) (subst P there (found_reads _ _ _ _ c.in-Some-read_row.ensures.len c.in-Some-read_row.ensures.found))

pub returns-clause-are : goal.returns-clause-are
returns-clause-are c = kinds_are _ _ _ c.in-Some-read_row.ensures.found
