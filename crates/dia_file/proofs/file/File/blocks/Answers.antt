use Rattle.std.proofs.Common.{◌≡◌, subst}
use Rattle.dia_file.specs.Encoding.{encoded}
use Rattle.dia_file.specs.Files.{FileValue, joined_blocks, AreFilled}
use Rattle.dia_file.proofs.FileLemmas.{stored_bytes, sealed_filled}
use Rattle.dia_file.proofs.file.File.blocks.Goals as goal

pub returns-clause-joined : goal.returns-clause-joined
returns-clause-joined c =
    let P : FileValue → Type 0 = λ f. joined_blocks f.blocks ≡ encoded f.rows in
    subst P c.self.view_is (stored_bytes _ _ _ _ c.self.invariant)

pub returns-clause-filled : goal.returns-clause-filled
returns-clause-filled c =
    let P : FileValue → Type 0 = λ f. AreFilled f.blocks in
    subst P c.self.view_is (sealed_filled _ _ c.self.invariant.sealed)
