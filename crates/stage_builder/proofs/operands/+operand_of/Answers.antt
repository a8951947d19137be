use Rattle.std.proofs.Common.{false, List, [], ◌∷◌, map, ◌≡◌, sym, refl, ap, ◌∙◌, subst, arith}
use Rattle.std.specs.Option.{option_map}
use Rattle.std.proofs.lemmas.List.{map-append}
use Rattle.row_defs.specs.declared.kind.Kind.{Kind}
use Rattle.row_defs.specs.declared.kind.Kind.TheVariants.{Int, Text}
use Rattle.row_defs.specs.Operands.{Root, Operand, stored_root, count_root}
use Rattle.script_defs.specs.Plans.{IsOperand, kinds_at}
use Rattle.row_defs.specs.LocalOps.{IsSoundOp}
use Rattle.script_defs.specs.Scripts.{stored, counted, origin_of, form_operands}
use Rattle.lop_chain.specs.Ops.{op_in, ops_in}
use Rattle.lop_chain.specs.Operands.{operand_in}
use Rattle.dia_item.specs.KindList.{kind_list}
use Rattle.run_laws.proofs.KindLemmas.{line_sound, line_kinds}
use Rattle.stage_builder.specs.Lines.{found_form}
use Rattle.stage_builder.specs.Origins.{origin_in, named_in}
use Rattle.stage_builder.specs.Tables.{script_in}
use Rattle.stage_builder.proofs.OperandLemmas.{stored_kinds, counted_kinds, cached_form, made_form, origin_here, names_here, cached_in, local_in, root_operand, local_operand}
use Rattle.stage_builder.proofs.operands.+operand_of.Goals as goal

abbrev rooted : Root → List Kind → Operand
rooted root kinds = record { root = root; last = false; kinds = kinds; chain = [] }

pub operand_of-requires-in-Made : goal.operand_of-requires-in-Made
operand_of-requires-in-Made t c =
    let script = script_in c.args.lines.now in
    let line = c.requires.line in
    let comes = origin_here script c.args.number line.0 line.1 (option_map found_form c.form.result) (origin_in c.in_ok-origin_of.field-0) line.2 (c.form.ensures c.requires.read) c.in_ok-origin_of.ensures.comes in
    let sound = line_sound script c.args.number line.0 line.1 c.requires.sound line.2 in
    let op = op_in c.in-Made.op in
    let form = made_form line.1 c.in-Made.of op (sym (ap origin_in c.in-Made.is) ∙ comes) in
    let l = local_in script _ c.args.number c.in-Made.of op line.1 form sound in
    (omega (arith, l.less, c.decreases), (c.requires.read, (c.requires.sound, l.line)))

pub kinds_behind-requires : goal.kinds_behind-requires
kinds_behind-requires t c =
    let script = script_in c.args.lines.now in
    let line = c.requires.line in
    let comes = origin_here script c.args.number line.0 line.1 (option_map found_form c.form.result) (origin_in c.in_ok-origin_of.field-0) line.2 (c.form.ensures c.requires.read) c.in_ok-origin_of.ensures.comes in
    let sound = line_sound script c.args.number line.0 line.1 c.requires.sound line.2 in
    let op = op_in c.in-Made.op in
    let form = made_form line.1 c.in-Made.of op (sym (ap origin_in c.in-Made.is) ∙ comes) in
    let l = local_in script _ c.args.number c.in-Made.of op line.1 form sound in
    let Sound : List Kind → Type 0 = λ ks. IsSoundOp ks op in
    subst Sound (sym c.in_ok-operand-in-Made.ensures.kinds) l.sound

pub returns-in-Kept : goal.returns-in-Kept
returns-in-Kept t c =
    let script = script_in c.args.lines.now in
    let line = c.requires.line in
    let comes = origin_here script c.args.number line.0 line.1 (option_map found_form c.form.result) (origin_in c.in_ok-origin_of.field-0) line.2 (c.form.ensures c.requires.read) c.in_ok-origin_of.ensures.comes in
    let sound = line_sound script c.args.number line.0 line.1 c.requires.sound line.2 in
    let kept : stored ≡ origin_of line.1 = sym (ap origin_in c.in-Kept.is) ∙ comes in
    let names = names_here script c.args.number line.0 line.1 (option_map found_form c.form.result) (named_in c.in_ok-origin_of.field-0) line.2 (c.form.ensures c.requires.read) c.in_ok-origin_of.ensures.names in
    let none : [] ≡ form_operands line.1 = sym (ap named_in c.in-Kept.is) ∙ names in
    let kinds = line_kinds script c.args.number line.0 line.1 c.requires.sound line.2 in
    let text = stored_kinds line.1 (map (kinds_at script) (form_operands line.1)) kept none in
    let o : Operand = record { root = stored_root c.args.number; last = false; kinds = Text ∷ []; chain = [] } in
    let Is : Operand → Type 0 = λ x. IsOperand script c.args.number x in
    let same : operand_in c.root_operand.result ≡ o = c.root_operand.ensures ∙ ap (λ (ks : List Kind). rooted (stored_root c.args.number) ks) c.one-kinds.ensures in
    subst Is (sym same) (root_operand script c.args.number line.0 line.1 o line.2 (sym kept) refl (sym (kinds ∙ text)) refl)

pub operand_of-requires : goal.operand_of-requires
operand_of-requires t c =
    let script = script_in c.args.lines.now in
    let line = c.requires.line in
    let comes = origin_here script c.args.number line.0 line.1 (option_map found_form c.form.result) (origin_in c.in_ok-origin_of.field-0) line.2 (c.form.ensures c.requires.read) c.in_ok-origin_of.ensures.comes in
    let names = names_here script c.args.number line.0 line.1 (option_map found_form c.form.result) (named_in c.in_ok-origin_of.field-0) line.2 (c.form.ensures c.requires.read) c.in_ok-origin_of.ensures.names in
    let sound = line_sound script c.args.number line.0 line.1 c.requires.sound line.2 in
    let of = c.in-Cached.of in
    let form = cached_form line.1 of (sym (ap origin_in c.in-Cached.is) ∙ comes) (sym (ap named_in c.in-Cached.is) ∙ names) in
    let l = cached_in script _ c.args.number of line.1 form sound in
    (omega (arith, l.less, c.decreases), (c.requires.read, (c.requires.sound, l.line)))

pub returns-in_ok-operand-in-Cached : goal.returns-in_ok-operand-in-Cached
returns-in_ok-operand-in-Cached t c =
    let script = script_in c.args.lines.now in
    let line = c.requires.line in
    let comes = origin_here script c.args.number line.0 line.1 (option_map found_form c.form.result) (origin_in c.in_ok-origin_of.field-0) line.2 (c.form.ensures c.requires.read) c.in_ok-origin_of.ensures.comes in
    let names = names_here script c.args.number line.0 line.1 (option_map found_form c.form.result) (named_in c.in_ok-origin_of.field-0) line.2 (c.form.ensures c.requires.read) c.in_ok-origin_of.ensures.names in
    let sound = line_sound script c.args.number line.0 line.1 c.requires.sound line.2 in
    let of = c.in-Cached.of in
    let kept : stored ≡ origin_of line.1 = sym (ap origin_in c.in-Cached.is) ∙ comes in
    let form = cached_form line.1 of kept (sym (ap named_in c.in-Cached.is) ∙ names) in
    let l = cached_in script _ c.args.number of line.1 form sound in
    let o = rooted (stored_root c.args.number) (kind_list c.in_ok-operand-in-Cached.operand.kinds) in
    let Is : Operand → Type 0 = λ x. IsOperand script c.args.number x in
    subst Is (sym c.root_operand-in-Cached.ensures)
    (root_operand script c.args.number line.0 line.1 o line.2 (sym kept) refl (c.in_ok-operand-in-Cached.ensures.kinds ∙ sym l.kinds) refl)

pub returns-in-Counted : goal.returns-in-Counted
returns-in-Counted t c =
    let script = script_in c.args.lines.now in
    let line = c.requires.line in
    let comes = origin_here script c.args.number line.0 line.1 (option_map found_form c.form.result) (origin_in c.in_ok-origin_of.field-0) line.2 (c.form.ensures c.requires.read) c.in_ok-origin_of.ensures.comes in
    let sound = line_sound script c.args.number line.0 line.1 c.requires.sound line.2 in
    let count : counted c.in-Counted.rows ≡ origin_of line.1 = sym (ap origin_in c.in-Counted.is) ∙ comes in
    let kinds = line_kinds script c.args.number line.0 line.1 c.requires.sound line.2 in
    let int = counted_kinds line.1 (map (kinds_at script) (form_operands line.1)) c.in-Counted.rows count in
    let o : Operand = record { root = count_root c.args.number c.in-Counted.rows; last = false; kinds = Int ∷ []; chain = [] } in
    let Is : Operand → Type 0 = λ x. IsOperand script c.args.number x in
    let same : operand_in c.root_operand-in-Counted.result ≡ o = c.root_operand-in-Counted.ensures
    ∙ ap (λ (ks : List Kind). rooted (count_root c.args.number c.in-Counted.rows) ks) c.one.ensures in
    subst Is (sym same) (root_operand script c.args.number line.0 line.1 o line.2 (sym count) refl (sym (kinds ∙ int)) refl)

pub returns-in_ok-push-in-Made : goal.returns-in_ok-push-in-Made
returns-in_ok-push-in-Made t c =
    let script = script_in c.args.lines.now in
    let line = c.requires.line in
    let comes = origin_here script c.args.number line.0 line.1 (option_map found_form c.form.result) (origin_in c.in_ok-origin_of.field-0) line.2 (c.form.ensures c.requires.read) c.in_ok-origin_of.ensures.comes in
    let sound = line_sound script c.args.number line.0 line.1 c.requires.sound line.2 in
    let op = op_in c.in-Made.op in
    let form = made_form line.1 c.in-Made.of op (sym (ap origin_in c.in-Made.is) ∙ comes) in
    let operand = c.in_ok-operand-in-Made.operand in
    local_operand script c.args.number c.in-Made.of op line.0 line.1 (operand_in operand) _ line.2 form sound c.in_ok-operand-in-Made.ensures refl
    c.in_ok-operand-in-Made-2.ensures
    (ap ops_in c.in_ok-push-in-Made.ensures.items ∙ map-append op_in operand.chain.items (c.in-Made.op ∷ []))
