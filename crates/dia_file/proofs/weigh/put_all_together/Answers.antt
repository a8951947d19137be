use Rattle.std.proofs.Common.{◌≡◌, List, ◌∷◌, [], sym, ap, ◌∙◌, subst, ◌++◌, length, rules}
use Rattle.block_pool.specs.Handles.{BlockValue}
use Rattle.dia_file.specs.declared.weigh.Mark.{Mark}
use Rattle.dia_file.specs.Files.{FileValue}
use Rattle.dia_file.specs.Weighing.{IsStack}
use Rattle.dia_file.proofs.Stacking.{is_last, none_apart}
use Rattle.dia_file.proofs.weigh.put_all_together.Goals as goal

pub put_together-requires : goal.put_together-requires
put_together-requires c =
    let last = is_last c.loop-shell.files.items c.args.apart.value.items c.loop-shell.shells.items c.pop.new.self.items c.in-Some.shell _ _ c.loop-shell.invariant c.in-Some.ensures.items in
    record { apart = (last.file, last.before, last.marks_before, last.apart) }

pub loop-shell-preserved : goal.loop-shell-preserved
loop-shell-preserved c =
    let last = is_last c.loop-shell.files.items c.args.apart.value.items c.loop-shell.shells.items c.pop.new.self.items c.in-Some.shell _ _ c.loop-shell.invariant c.in-Some.ensures.items in
    let same = c.in_ok-file.ensures last.file last.before last.marks_before last.apart in
    let P : List FileValue → List BlockValue → List Mark → Type 0 = λ files bs ms. IsStack files c.args.apart.value.items c.pop.new.self.items bs ms in
    let files : c.push.new.self.items ≡ c.loop-shell.files.items ++ last.file ∷ [] = c.in_ok-push.ensures.items ∙ ap (λ (x : FileValue). c.loop-shell.files.items ++ x ∷ []) same.0 in
    subst (λ fs. P fs c.put_together.new.blocks.items c.put_together.new.marks.items) (sym files)
    (subst (λ bs. P (c.loop-shell.files.items ++ last.file ∷ []) bs c.put_together.new.marks.items) (sym same.1)
    (subst (λ ms. P (c.loop-shell.files.items ++ last.file ∷ []) last.before ms) (sym same.2) last.stack))

pub returns : goal.returns
returns c =
    let none : length c.loop-shell.shells.items ≡ 0 = search rules in
    none_apart c.loop-shell.files.items c.args.apart.value.items c.loop-shell.shells.items _ _ c.loop-shell.invariant none
