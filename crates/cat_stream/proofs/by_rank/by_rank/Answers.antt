use Rattle.std.proofs.Common.{rules, sym, arith}
use Rattle.std.proofs.lemmas.Fn.{always_returns_same}
use Rattle.std.proofs.lemmas.List.Sorted.{IsNonDecreasingBy-from_sort_by_key, length_permutation}
use Rattle.cat_stream.proofs.Ranks.{own_sorted, rises_sorted, stable_bytes}
use Rattle.cat_stream.proofs.by_rank.by_rank.Goals as goal

pub returns-clause-bytes : goal.returns-clause-bytes
returns-clause-bytes c =
    let xs = c.args.packets.items in
    let ys = c.sort_by_key.new.self.items in
    stable_bytes xs ys (c.in_ok-sort_by_key.ensures.stable (λ p. p.from) (always_returns_same _ _ _ (λ a r q k. search rules))) (sym (length_permutation xs ys c.sort_by_key.ensures.permutation))

pub returns-clause-rank : goal.returns-clause-rank
returns-clause-rank c = rises_sorted _ 0 (IsNonDecreasingBy-from_sort_by_key (λ p. p.from) _ c.in_ok-sort_by_key.ensures.sorted (λ a r q k. search rules)) (λ lt d. omega arith)

pub returns-clause-count : goal.returns-clause-count
returns-clause-count c = length_permutation c.args.packets.items c.sort_by_key.new.self.items c.sort_by_key.ensures.permutation

pub returns-clause-pools : goal.returns-clause-pools
returns-clause-pools c = λ pool own. own_sorted pool c.args.packets.items c.sort_by_key.new.self.items c.sort_by_key.ensures.permutation own
