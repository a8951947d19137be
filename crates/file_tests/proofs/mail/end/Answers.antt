use Rattle.std.proofs.Common.{◌≡◌, List, [], ◌∷◌, ◌++◌, ap, sym, subst, ◌∙◌}
use Rattle.std.specs.Prelude.{All}
use Rattle.std.proofs.lemmas.List.Elements.{All-cons, All-nil}
use Rattle.block_pool.specs.Handles.{PassValue}
use Rattle.block_pool.specs.Opening.{IsOf}
use Rattle.file_tests.proofs.mail.end.Goals as goal

pub finish-requires-clause-own : goal.finish-requires-clause-own
finish-requires-clause-own g c =
    let pass = c.args.pass in
    let turn = c.args.pool in
    let own = c.requires.own in
    let of : IsOf turn pass.pool.opening pass = λ i. record { turn = own i; opening = pass.pool.opening } in
    let items : c.push_reserved.new.self.items ≡ pass ∷ [] = c.push_reserved.ensures.items ∙ ap (λ (l : List PassValue). l ++ pass ∷ []) c.requires.room.0 in
    (pass.pool.opening, subst (All (IsOf turn pass.pool.opening)) (sym items) (All-cons (IsOf turn pass.pool.opening) pass [] of (All-nil (IsOf turn pass.pool.opening))))
