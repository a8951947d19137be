use Rattle.std.proofs.Common.{◌≡◌, List, [], ◌∷◌, ◌++◌, true, ap, sym, subst, ◌∙◌}
use Rattle.std.specs.Prelude.{All}
use Rattle.std.proofs.lemmas.List.Elements.{All-cons, All-nil}
use Rattle.block_pool.specs.Handles.{PassValue}
use Rattle.block_pool.specs.Opening.{IsOf, opened_with}
use Rattle.stock_tests.proofs.stock.end.Goals as goal

pub finish-requires-clause-own : goal.finish-requires-clause-own
finish-requires-clause-own g c =
    let one = c.args.one in
    let two = c.args.two in
    let opening = opened_with 28 4096 true 0 0 in
    let P : PassValue → Type 0 = IsOf c.args.pool opening in
    let items : c.push_reserved-2.new.self.items ≡ one ∷ two ∷ [] =
    c.push_reserved-2.ensures.items ∙ ap (λ (l : List PassValue). l ++ two ∷ []) (c.push_reserved.ensures.items ∙ ap (λ (l : List PassValue). l ++ one ∷ []) c.requires.room.0) in
    let all : All P (one ∷ two ∷ []) = All-cons P one (two ∷ []) c.requires.one (All-cons P two [] c.requires.two (All-nil P)) in
    (opening, subst (All P) (sym items) all)
