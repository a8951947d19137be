use Rattle.std.proofs.Common.{List, [], ◌∷◌, ◌++◌, ap, subst, arith}
use Rattle.std.specs.Prelude.{All, is_some}
use Rattle.std.proofs.lemmas.List.Elements.{All-cons, All-nil, All-head, All-tail}
use Rattle.block_pool.specs.Handles.{PassValue, PermitsValue}
use Rattle.block_pool.specs.Workers.{IsReady, new_pool}
use Rattle.block_pool.proofs.Ended.{last_of}
use Rattle.pool_tests.proofs.Working.{ready_each}
use Rattle.stock_tests.proofs.stock.open_two.Goals as goal

all_before : {A : Type 0} (P : A → Type 0) (xs ys : List A) → All P (xs ++ ys) → All P xs
all_before P [] ys all = All-nil P
all_before P (x ∷ xs) ys all = All-cons P x xs (All-head P x (xs ++ ys) all) (all_before P xs ys (All-tail P x (xs ++ ys) all))

pub returns-in-Ok-clause-two : goal.returns-in-Ok-clause-two
returns-in-Ok-clause-two c =
    let disk = c.new-disk.ensures in
    let ready = ready_each c.in-Ok.pool 28 4096 _ _ _ 2 14 c.in-Ok.shares.items (ap is_some disk.slots) disk.faults disk.writes (omega arith) c.in-Ok.ensures.shares in
    let P : PassValue × PermitsValue → Type 0 = IsReady (new_pool c.in-Ok.pool 28 4096) in
    last_of c.pop.new.self.items c.in-Some-Some.two P (subst (All P) c.in-Some-Some.ensures.items ready)

pub returns-in-Ok-clause-one : goal.returns-in-Ok-clause-one
returns-in-Ok-clause-one c =
    let disk = c.new-disk.ensures in
    let ready = ready_each c.in-Ok.pool 28 4096 _ _ _ 2 14 c.in-Ok.shares.items (ap is_some disk.slots) disk.faults disk.writes (omega arith) c.in-Ok.ensures.shares in
    let P : PassValue × PermitsValue → Type 0 = IsReady (new_pool c.in-Ok.pool 28 4096) in
    let rest : All P c.pop.new.self.items = all_before P c.pop.new.self.items (c.in-Some-Some.two ∷ []) (subst (All P) c.in-Some-Some.ensures.items ready) in
    last_of c.pop-in-Ok.new.self.items c.in-Some-Some.one P (subst (All P) c.in-Some-Some.ensures'.items rest)
