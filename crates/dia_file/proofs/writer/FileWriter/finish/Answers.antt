use Rattle.std.proofs.Common.{refl, sym, ap, subst, ◌∙◌}
use Rattle.dia_file.specs.Writers.{WriterValue, IsWriterOf}
use Rattle.dia_file.proofs.EndLemmas.{finished, again, writer_again}
use Rattle.dia_file.proofs.writer.FileWriter.finish.Goals as goal

pub invariant_of-result : goal.invariant_of-result
invariant_of-result g c =
    let Own : WriterValue → Type 0 = λ x. IsWriterOf c.args.hand.now.pool x in
    let f = finished c.self.inside c.args.hand.now.pool c.seal_frame.new.sealed.items c.self.invariant (ap (λ (x : WriterValue). x.is_broken) c.self.view_is ∙ c.requires.unbroken)
    (subst Own (sym c.self.view_is) c.requires.own) c.in-Ok.ensures.sealed in
    f.stored

pub returns-in-Ok-clause-rows : goal.returns-in-Ok-clause-rows
returns-in-Ok-clause-rows g c =
    let Own : WriterValue → Type 0 = λ x. IsWriterOf c.args.hand.now.pool x in
    let f = finished c.self.inside c.args.hand.now.pool c.seal_frame.new.sealed.items c.self.invariant (ap (λ (x : WriterValue). x.is_broken) c.self.view_is ∙ c.requires.unbroken)
    (subst Own (sym c.self.view_is) c.requires.own) c.in-Ok.ensures.sealed in
    f.rows ∙ ap (λ (x : WriterValue). x.rows) c.self.view_is

pub returns-in-Ok-clause-own : goal.returns-in-Ok-clause-own
returns-in-Ok-clause-own g c =
    let Own : WriterValue → Type 0 = λ x. IsWriterOf c.args.hand.now.pool x in
    let f = finished c.self.inside c.args.hand.now.pool c.seal_frame.new.sealed.items c.self.invariant (ap (λ (x : WriterValue). x.is_broken) c.self.view_is ∙ c.requires.unbroken)
    (subst Own (sym c.self.view_is) c.requires.own) c.in-Ok.ensures.sealed in
    f.own

pub invariant_of-result-in-Err : goal.invariant_of-result-in-Err
invariant_of-result-in-Err g c = writer_again c.self.inside c.seal_frame.new.sealed c.seal_frame.new.frame c.self.invariant c.in-Err.ensures.kept c.in-Err.ensures.frame_kept

pub returns-in-Err-clause-returned : goal.returns-in-Err-clause-returned
returns-in-Err-clause-returned g c =
    again c.self.inside (record c.self.inside { sealed = c.seal_frame.new.sealed; frame = c.seal_frame.new.frame }) refl refl refl refl refl refl c.in-Err.ensures.kept c.in-Err.ensures.frame_kept ∙ c.self.view_is
