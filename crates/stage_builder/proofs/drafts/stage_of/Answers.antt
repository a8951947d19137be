use Rattle.std.proofs.Common.{◌≡◌, ℕ, Some, sym, ap, ◌∙◌, subst}
use Rattle.script_defs.specs.Scripts.{Form, cache_form, Statement, line, IsLineIn}
use Rattle.script_read.specs.Statements.{form_in, statement_in, action_in}
use Rattle.run_laws.proofs.KindLemmas.{line_sound, action_line}
use Rattle.stage_builder.specs.Tables.{script_in}
use Rattle.stage_builder.proofs.drafts.stage_of.Goals as goal

pub operand_of-requires-clause-line : goal.operand_of-requires-clause-line
operand_of-requires-clause-line c =
    let script = script_in c.args.lines.now in
    let form : form_in c.in-Line.form ≡ cache_form c.in-Cache.of = ap form_in c.in-Cache.is in
    let at = c.requires.stands ∙ ap (λ (s : Statement). Some s) (ap statement_in c.in-Line.is ∙ ap (λ (f : Form). line c.in-Line.name f) form) in
    (line_sound script c.args.item.now.line c.in-Line.name (cache_form c.in-Cache.of) c.requires.sound at).stands.1

pub operand_of-requires-in-Act-clause-line : goal.operand_of-requires-in-Act-clause-line
operand_of-requires-in-Act-clause-line c =
    let script = script_in c.args.lines.now in
    let Line : ℕ → Type 0 = λ n. IsLineIn script n in
    let at = c.requires.stands ∙ ap (λ (s : Statement). Some s) (ap statement_in c.in-Act.is) in
    subst Line (sym c.operand.ensures) (action_line script c.args.item.now.line (action_in c.in-Act.action) c.requires.sound at)
