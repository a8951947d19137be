use Rattle.std.proofs.Common.{◌≡◌, sym, subst}
use Rattle.std.specs.List.{AllZip}
use Rattle.scatter.specs.Phases.{AllThree}
use Rattle.scatter.specs.Clearing.{IsPartIn, IsCleared}
use Rattle.scatter.proofs.Hands.{follow_refl, permits_refl, parts_own, cleared_follow, cleared_permits}
use Rattle.scatter.proofs.clearing.clear_line.Goals as goal

pub clear_parts-requires-clause-own : goal.clear_parts-requires-clause-own
clear_parts-requires-clause-own g c =
    let whole = c.requires.whole in
    let own = parts_own c.args.hands.now.items whole.line.parts (c.requires.own c.args.number whole.line whole.there) in
    subst (λ parts. AllZip IsPartIn c.replace-moved.result.items parts) (sym (c.take-parts.ensures.parts whole.line whole.there))
    (subst (λ v. AllZip IsPartIn v.items whole.line.parts) (sym c.replace-moved.ensures.value) own)

pub returns-clause-permits : goal.returns-clause-permits
returns-clause-permits g c =
    cleared_permits c.take-parts.result.items c.args.hands.now.items c.clear_parts.result.items
    (subst (λ v. AllThree IsCleared c.take-parts.result.items v.items c.clear_parts.result.items) c.replace-moved.ensures.value c.clear_parts.ensures)

pub returns-clause-follows : goal.returns-clause-follows
returns-clause-follows g c =
    cleared_follow c.take-parts.result.items c.args.hands.now.items c.clear_parts.result.items
    (subst (λ v. AllThree IsCleared c.take-parts.result.items v.items c.clear_parts.result.items) c.replace-moved.ensures.value c.clear_parts.ensures)

pub returns-in_err-cleared-clause-permits : goal.returns-in_err-cleared-clause-permits
returns-in_err-cleared-clause-permits g c = permits_refl c.args.hands.now.items

pub returns-in_err-cleared-clause-follows : goal.returns-in_err-cleared-clause-follows
returns-in_err-cleared-clause-follows g c = follow_refl c.args.hands.now.items
