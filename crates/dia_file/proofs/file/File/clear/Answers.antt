use Rattle.std.proofs.Common.{◌≡◌, sym, subst}
use Rattle.std.proofs.lemmas.List.Elements.{recursion_from_All}
use Rattle.block_pool.specs.Handles.{BlockValue}
use Rattle.dia_file.specs.Frames.{blocks_of}
use Rattle.dia_file.specs.Files.{FileValue, IsFileOf}
use Rattle.dia_file.proofs.file.File.clear.Goals as goal

pub free_all-requires : goal.free_all-requires
free_all-requires g c =
    let Own : FileValue → Type 0 = λ x. IsFileOf c.args.hand.now.pool x in
    record { own = recursion_from_All (λ (b : BlockValue). b.pool ≡ c.args.hand.now.pool) (blocks_of c.self.inside.sealed.items) (subst Own (sym c.self.view_is) c.requires.own) }
