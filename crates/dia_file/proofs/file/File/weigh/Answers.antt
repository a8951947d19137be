use Rattle.std.proofs.Common.{◌≡◌, ℕ, List, All, sym, ap, ◌∙◌, subst, map}
use Rattle.std.proofs.lemmas.List.Elements.{recursion_from_All}
use Rattle.block_pool.specs.Handles.{BlockValue, AreOfPool}
use Rattle.block_pool.specs.Weighing.{Weighs, block_sum}
use Rattle.dia_file.specs.Files.{FileValue, IsFileOf, file_value}
use Rattle.dia_file.specs.Cuts.{bytes_of_files}
use Rattle.dia_file.proofs.Stacking.{stacked_own, stacked_sum, either_way}
use Rattle.dia_file.proofs.file.File.weigh.Goals as goal

pub weigh-requires : goal.weigh-requires
weigh-requires g c =
    let s = c.in_ok-shells.ensures in
    let pool = c.args.hand.now.pool in
    let Own : List FileValue → Type 0 = λ files. All (λ (file : FileValue). IsFileOf pool file) files in
    let Of : List BlockValue → Type 0 = λ blocks. AreOfPool pool blocks in
    record { own = subst Of (sym s.blocks_are) (stacked_own pool s.apart (recursion_from_All (λ (file : FileValue). IsFileOf pool file) (map file_value s.apart) (subst Own (sym s.files_are) c.requires.own))) }

pub returns-clause-weighs : goal.returns-clause-weighs
returns-clause-weighs g c =
    let s = c.in_ok-shells.ensures in
    let pool = c.args.hand.now.pool in
    let sum : block_sum c.take_all_apart.new.blocks.items ≡ bytes_of_files c.args.files.items = ap block_sum s.blocks_are ∙ stacked_sum s.apart s.are_files ∙ ap bytes_of_files s.files_are in
    let P : ℕ → Type 0 = λ n. Weighs pool.opening c.weigh.new.self.notes n in
    either_way c.put_all_together.result (P (bytes_of_files c.args.files.items)) (subst P sum c.in_ok-blocks.ensures.weighs)
