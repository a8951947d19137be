-- Stages that are marked are a plan.
use Rattle.std.proofs.Common.{◌≡◌, ℕ, ◌+◌, ◌<◌, ◌==◌, Bool, true, false, not, cond, ◌||◌, List, [], ◌∷◌, ◌++◌, map, filter, length, take, drop, slice_index_or, slice_set, refl, sym, ap, ◌∙◌, subst, append_assoc, append-nil, zero-add, arith}
use Rattle.std.specs.List.{AllByRecursion, list_any, count_by, fold}
use Rattle.std.proofs.lemmas.Bool.{ne_eqb}
use Rattle.std.proofs.lemmas.List.{map-append, length-map, drop_more, drop-set-lt, take_more_set}
use Rattle.std.proofs.lemmas.List.Sums.{sum_by-cons}
use Rattle.row_defs.specs.Operands.{Root, stored_root, count_root, Operand, is_stored_at}
use Rattle.script_defs.specs.Scripts.{Script, operands_of}
use Rattle.script_defs.specs.Work.{work_of}
use Rattle.script_defs.specs.Plans.{Stage, IsOperand, AreOperands, IsStage, is_stage, all_operands, is_last, AreLast, readers_of, IsPlan}
use Rattle.stage_builder.specs.declared.plan.Stage as stages
use Rattle.stage_builder.specs.Views.{stage_in, stages_in}
use Rattle.stage_builder.specs.Drafts.{done_by}
use Rattle.stage_builder.specs.Marks.{roots_of, last_among, marked_operand, marked_operands, marked_stage, marked}
use Rattle.stage_builder.specs.Tables.{count_at, Counts}

-- a mark changes no root ------------------------------------------------------------------------------------------

marked_roots : (operands : List Operand) (later : List Root) → roots_of (marked_operands operands later) ≡ roots_of operands
marked_roots [] later = refl
marked_roots (o ∷ operands) later = ap (λ (rs : List Root). o.root ∷ rs) (marked_roots operands later)

any_root : (n : ℕ) (operands : List Operand) → list_any (λ (o : Operand). is_stored_at n o.root) operands ≡ list_any (is_stored_at n) (roots_of operands)
any_root n [] = refl
any_root n (o ∷ operands) = ap (λ (b : Bool). is_stored_at n o.root || b) (any_root n operands)

count_from : (n a : ℕ) (operands : List Operand) → fold (λ k (o : Operand). k + cond (is_stored_at n o.root) 1 0) a operands
    ≡ fold (λ k r. k + cond (is_stored_at n r) 1 0) a (roots_of operands)
count_from n a [] = refl
count_from n a (o ∷ operands) = count_from n (a + cond (is_stored_at n o.root) 1 0) operands

count_by_roots : (n : ℕ) (operands : List Operand) → readers_of n operands ≡ count_by (is_stored_at n) (roots_of operands)
count_by_roots n operands = count_from n 0 operands

last_by_roots : (r : Root) (later : List Operand) → last_among r (roots_of later) ≡ is_last r later
last_by_roots (stored_root n) later = ap not (sym (any_root n later))
last_by_roots (count_root n rows) later = refl

-- the operands of all stages ----------------------------------------------------------------------------------------

roots_more : (a b : List Operand) → roots_of (a ++ b) ≡ roots_of a ++ roots_of b
roots_more a b = map-append (λ (o : Operand). o.root) a b

marked_more : (a b : List Operand) (later : List Root) → marked_operands (a ++ b) later ≡ marked_operands a (roots_of b ++ later) ++ marked_operands b later
marked_more [] b later = refl
marked_more (o ∷ a) b later =
    ap (λ (rs : List Root). marked_operand o rs ∷ marked_operands (a ++ b) later)
    (ap (λ (rs : List Root). rs ++ later) (roots_more a b) ∙ append_assoc (roots_of a) (roots_of b) later)
    ∙ ap (λ (os : List Operand). marked_operand o (roots_of a ++ (roots_of b ++ later)) ∷ os) (marked_more a b later)

marked_all : (roots : List Root) (stages : List Stage) → all_operands (marked roots stages) ≡ marked_operands (all_operands stages) []
marked_all roots [] = refl
marked_all roots (s ∷ stages) =
    let later = all_operands stages in
    ap (λ (os : List Operand). marked_operands s.operands (roots_of later) ++ os) (marked_all roots stages)
    ∙ ap (λ (rs : List Root). marked_operands s.operands rs ++ marked_operands later []) (sym (append-nil (roots_of later)))
    ∙ sym (marked_more s.operands later [])

marked_last : (operands : List Operand) → AreLast (marked_operands operands [])
marked_last [] = tt
marked_last (o ∷ operands) = (
  ap (last_among o.root) (append-nil (roots_of operands) ∙ sym (marked_roots operands [])) ∙ last_by_roots o.root (marked_operands operands []),
  marked_last operands,
)

-- the stages ----------------------------------------------------------------------------------------------------------

same_operand : (script : Script) (n : ℕ) (o : Operand) (later : List Root) → IsOperand script n o → IsOperand script n (marked_operand o later)
same_operand script n o later is = record { name = is.name; form = is.form; is = is.is; root = is.root; chain = is.chain; kinds = is.kinds; sound = is.sound }

same_operands : (script : Script) (numbers : List ℕ) (operands : List Operand) (later : List Root) → AreOperands script numbers operands
    → AreOperands script numbers (marked_operands operands later)
same_operands script [] [] later are = tt
same_operands script [] (o ∷ operands) later are = absurd are
same_operands script (n ∷ numbers) [] later are = absurd are
same_operands script (n ∷ numbers) (o ∷ operands) later are = (same_operand script n o (roots_of operands ++ later) are.0, same_operands script numbers operands later are.1)

same_stages : (script : Script) (roots : List Root) (stages : List Stage) → AllByRecursion (IsStage script) stages → AllByRecursion (IsStage script) (marked roots stages)
same_stages script roots [] all = tt
same_stages script roots (s ∷ stages) all = (
  record { is = all.0.is; word = all.0.word; operands = same_operands script (operands_of s.statement) s.operands (roots_of (all_operands stages)) all.0.operands },
  same_stages script roots stages all.1,
)

same_items : (roots : List Root) (stages : List Stage) → map done_by (marked roots stages) ≡ map done_by stages
same_items roots [] = refl
same_items roots (s ∷ stages) = ap (λ items. done_by s ∷ items) (same_items roots stages)

-- each stage counts the roots
all_count : (roots : List Root) (whole : List Operand) (stages : List Stage) → roots ≡ roots_of whole
    → AllByRecursion (λ (s : Stage). s.readers ≡ readers_of s.number whole) (marked roots stages)
all_count roots whole [] same = tt
all_count roots whole (s ∷ stages) same =
    (ap (λ (rs : List Root). count_by (is_stored_at s.number) rs) same ∙ sym (count_by_roots s.number whole), all_count roots whole stages same)

pub marked_plan : (script : Script) (roots : List Root) (stages : List Stage) → map done_by stages ≡ filter (is_stage script) (work_of script)
    → AllByRecursion (IsStage script) stages → roots ≡ roots_of (all_operands stages) → IsPlan script (marked roots stages)
marked_plan script roots stages order all same =
    let operands = all_operands (marked roots stages) in
    let Last : List Operand → Type 0 = λ os. AreLast os in
    let of : roots ≡ roots_of operands = same ∙ sym (ap roots_of (marked_all roots stages) ∙ marked_roots (all_operands stages) []) in
    record {
      order = same_items roots stages ∙ order;
      stages = same_stages script roots stages all;
      last = subst Last (sym (marked_all roots stages)) (marked_last (all_operands stages));
      readers = all_count roots operands stages of;
    }

marked_length : (roots : List Root) (stages : List Stage) → length (marked roots stages) ≡ length stages
marked_length roots [] = refl
marked_length roots (s ∷ stages) = let more = marked_length roots stages in omega (arith, more)

pub same_length : (roots : List Root) (new old : List stages.Stage) → stages_in new ≡ marked roots (stages_in old) → length new ≡ length old
same_length roots new old is = sym (length-map new stage_in) ∙ ap length is ∙ marked_length roots (stages_in old) ∙ length-map old stage_in

-- marking ---------------------------------------------------------------------------------------------------------------

-- no root reads the rows where so many are none
none_reads : (n : ℕ) (roots : List Root) → (count_by (is_stored_at n) roots == 0) ≡ not (list_any (is_stored_at n) roots)
none_reads n [] = refl
none_reads n (r ∷ roots) =
    let k = count_by (is_stored_at n) roots in
    ap (λ (m : ℕ). m == 0) (sum_by-cons (λ (x : Root). cond (is_stored_at n x) 1 0) r roots)
    ∙ (elim (is_stored_at n r) as (λ t. (cond t 1 0 + k == 0) ≡ not (t || list_any (is_stored_at n) roots)) [
      | true ↦ ne_eqb (1 + k) 0 (λ same. omega (arith, same))
      | false ↦ ap (λ (m : ℕ). m == 0) (zero-add k) ∙ none_reads n roots
    ])

pub last_by_count : (n : ℕ) (counts : List ℕ) (roots : List Root) → Counts counts roots → (count_at counts n == 0) ≡ last_among (stored_root n) roots
last_by_count n counts roots are = ap (λ (m : ℕ). m == 0) (are n) ∙ none_reads n roots

here_dropped : (xs : List stages.Stage) (i : ℕ) (d : stages.Stage) → i < length xs → d ≡ slice_index_or xs i d → drop i xs ≡ d ∷ drop (i + 1) xs
here_dropped xs i d low is = drop_more xs i d low ∙ ap (λ (x : stages.Stage). x ∷ drop (i + 1) xs) (sym is)

pub counts_next : (counts : List ℕ) (xs : List stages.Stage) (i : ℕ) (d : stages.Stage) → i < length xs → d ≡ slice_index_or xs i d
    → Counts counts (roots_of (all_operands (stages_in (drop i xs))))
    → Counts counts (roots_of (stage_in d).operands ++ roots_of (all_operands (stages_in (drop (i + 1) xs))))
counts_next counts xs i d low is h =
    let Has : List Root → Type 0 = λ rs. Counts counts rs in
    subst Has (ap (λ (ss : List stages.Stage). roots_of (all_operands (stages_in ss))) (here_dropped xs i d low is)
    ∙ roots_more (stage_in d).operands (all_operands (stages_in (drop (i + 1) xs)))) h

pub counts_later : (counts : List ℕ) (xs : List stages.Stage) (i : ℕ) (y : stages.Stage) → Counts counts (roots_of (all_operands (stages_in (drop (i + 1) xs))))
    → Counts counts (roots_of (all_operands (stages_in (drop (i + 1) (slice_set xs i y)))))
counts_later counts xs i y h =
    let Has : List stages.Stage → Type 0 = λ ss. Counts counts (roots_of (all_operands (stages_in ss))) in
    subst Has (sym (drop-set-lt (i + 1) xs i y (omega arith))) h

pub marked_next : (roots : List Root) (whole : List Stage) (xs : List stages.Stage) (i : ℕ) (d y : stages.Stage) → i < length xs → d ≡ slice_index_or xs i d
    → stage_in y ≡ marked_stage roots (roots_of (all_operands (stages_in (drop (i + 1) xs)))) (stage_in d)
    → whole ≡ stages_in (take i xs) ++ marked roots (stages_in (drop i xs))
    → whole ≡ stages_in (take (i + 1) (slice_set xs i y)) ++ marked roots (stages_in (drop (i + 1) (slice_set xs i y)))
marked_next roots whole xs i d y low is mark done =
    let before = stages_in (take i xs) in
    let later = marked roots (stages_in (drop (i + 1) xs)) in
    let front : stages_in (take (i + 1) (slice_set xs i y)) ≡ before ++ stage_in y ∷ [] = ap stages_in (take_more_set xs i y low) ∙ map-append stage_in (take i xs) (y ∷ []) in
    let back : drop (i + 1) (slice_set xs i y) ≡ drop (i + 1) xs = drop-set-lt (i + 1) xs i y (omega arith) in
    done
    ∙ ap (λ (ss : List stages.Stage). before ++ marked roots (stages_in ss)) (here_dropped xs i d low is)
    ∙ ap (λ (s : Stage). before ++ s ∷ later) (sym mark)
    ∙ sym (append_assoc before (stage_in y ∷ []) later)
    ∙ ap (λ (ss : List Stage). ss ++ later) (sym front)
    ∙ ap (λ (ss : List stages.Stage). stages_in (take (i + 1) (slice_set xs i y)) ++ marked roots (stages_in ss)) (sym back)
