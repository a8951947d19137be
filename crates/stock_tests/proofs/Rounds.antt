-- Hands that do rounds, before and after a phase.
use Rattle.std.proofs.Common.{◌≡◌, ◌<◌, ◌≤◌, List, length, sym, subst, ◌∙◌, arith}
use Rattle.std.specs.Prelude.{All}
use Rattle.std.proofs.lemmas.List.Elements.{AllZip-get_or}
use Rattle.std.proofs.lemmas.Slice.Zip.{AllZip-long}
use Rattle.block_pool.specs.Handles.{PoolName, HandValue, Follows}
use Rattle.hand_phase.specs.Hands.{AllFollow}
use Rattle.stock_tests.specs.Rounds.{IsAble, AreHands}

pub each_able : (pool : PoolName) → 4096 ≤ pool.opening.block → (hands : List HandValue) → AreHands pool hands → All IsAble hands
each_able pool block hands are = λ k d below.
    let its = are k d below in
    record { permit = its.1; block = subst (λ (p : PoolName). 4096 ≤ p.opening.block) (sym its.0) block }

pub each_own : (pool : PoolName) (before after : List HandValue) → AreHands pool before → AllFollow (λ (hand : HandValue). hand) before after → All (λ hand. hand.pool ≡ pool) after
each_own pool before after are follow = λ k d below.
    let R : HandValue → HandValue → Type 0 = λ a b. Follows a b in
    let long : length after ≡ length before = AllZip-long R before after follow in
    let within : k < length before = omega (arith, long, below) in
    let follows = AllZip-get_or R before after k d d follow within in
    follows.pool ∙ (are k d within).0
