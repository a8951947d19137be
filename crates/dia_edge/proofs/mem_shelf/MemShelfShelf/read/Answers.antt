use Rattle.std.proofs.Common.{◌≡◌, take, drop, sym, ◌∙◌, ap}
use Rattle.dia_edge.specs.Files.{bytes_at}
use Rattle.dia_edge.proofs.FileLemmas.{gives_prefix}
use Rattle.dia_edge.proofs.mem_shelf.MemShelfShelf.read.Goals as goal

pub returns-clause-prefix : goal.returns-clause-prefix
returns-clause-prefix c =
    let held = bytes_at c.self.inside.files.items c.self.inside.place in
    let left : c.args.self.now.left ≡ drop c.self.inside.from held = ap (λ shelf. shelf.left) (sym c.self.view_is) in
    let same : c.left_at-left.result.now ≡ c.args.self.now.left = cc in
    gives_prefix held c.args.self.now.left (take c.copy_prefix-count.result c.copy_prefix-count.new.into)
    c.self.inside.from c.copy_prefix-count.result left
    (c.copy_prefix-count.ensures.prefix ∙ ap (take c.copy_prefix-count.result) same)
