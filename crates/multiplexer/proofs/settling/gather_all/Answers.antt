use Rattle.std.proofs.Common.{◌≡◌, ℕ, ◌+◌, [], List, ◌∷◌, ◌++◌, map, length, rules, refl, sym, ap, ◌∙◌, subst, arith, append_assoc}
use Rattle.std.specs.Prelude.{slice_index_or}
use Rattle.std.proofs.lemmas.List.{length-map}
use Rattle.std.specs.List.{All}
use Rattle.block_pool.specs.Handles.{BlockValue}
use Rattle.multiplexer.specs.Lanes.{LaneValue, IntakeValue}
use Rattle.multiplexer.specs.Sending.{SendValue}
use Rattle.multiplexer.specs.Settling.{gather_each}
use Rattle.multiplexer.proofs.Lists.{split_get}
use Rattle.multiplexer.proofs.Gathers.{knowing_none, knowing_queues, knowing_all, knowing_more}
use Rattle.multiplexer.proofs.settling.gather_all.Goals as goal

pub loop-send-init : goal.loop-send-init
loop-send-init c = record { ends = search rules; intakes = sym (knowing_none 0 c.args.intakes.now c.requires.new) }

pub gather_lanes-requires-clause-own : goal.gather_lanes-requires-clause-own
gather_lanes-requires-clause-own c = ap (λ (l : List IntakeValue). map (λ i. i.queue) l) c.loop-send.invariant.intakes ∙ knowing_queues 0 c.loop-send.yielded c.args.intakes.now ∙ c.requires.own

pub gather_lanes-requires-clause-lanes : goal.gather_lanes-requires-clause-lanes
gather_lanes-requires-clause-lanes c = let ys = c.loop-send.yielded in let s = c.in-Some.send in
    let all : c.args.sends.items ≡ ys ++ s ∷ c.next.new.self.rest.items = c.loop-send.invariant.ends ∙ ap (λ (l : List SendValue). ys ++ l) c.in-Some.ensures.steps.0 in
    c.into_lanes.ensures.queues ∙ (c.requires.ends (length ys) s (split_get c.args.sends.items ys c.next.new.self.rest.items s all)).0

pub gather_lanes-requires-clause-next : goal.gather_lanes-requires-clause-next
gather_lanes-requires-clause-next c = let ys = c.loop-send.yielded in let s = c.in-Some.send in
    let all : c.args.sends.items ≡ ys ++ s ∷ c.next.new.self.rest.items = c.loop-send.invariant.ends ∙ ap (λ (l : List SendValue). ys ++ l) c.in-Some.ensures.steps.0 in
    let rank = (c.requires.ends (length ys) s (split_get c.args.sends.items ys c.next.new.self.rest.items s all)).1 in (
      length ys,
      (λ k d lt. c.into_lanes.ensures.from k d lt ∙ rank),
      subst (λ (l : List IntakeValue). All (λ (i : IntakeValue). length i.known ≡ length ys) l) (sym c.loop-send.invariant.intakes) (knowing_all 0 ys c.args.intakes.now (length ys) refl),
    )

pub loop-send-preserved : goal.loop-send-preserved
loop-send-preserved c = let ys = c.loop-send.yielded in let s = c.in-Some.send in let is = c.args.intakes.now in let ls = c.into_lanes.result.items in let rest = c.next.new.self.rest.items in
    let all : c.args.sends.items ≡ ys ++ s ∷ rest = c.loop-send.invariant.ends ∙ ap (λ (l : List SendValue). ys ++ l) c.in-Some.ensures.steps.0 in
    let mail = (c.requires.ends (length ys) s (split_get c.args.sends.items ys rest s all)).0 in
    let many : length ls ≡ length is = omega (arith, ap length c.into_lanes.ensures.queues, ap length mail, ap length c.requires.own, length-map ls (λ (l : LaneValue). l.queue), length-map is (λ (i : IntakeValue). i.queue)) in
    let zero_j : (j : ℕ) → 0 + j ≡ j = λ j. omega arith in record {
      ends = all ∙ sym (append_assoc ys (s ∷ []) rest);
      intakes = c.gather_lanes.ensures ∙ ap (λ (l : List IntakeValue). gather_each l ls) c.loop-send.invariant.intakes
          ∙ knowing_more 0 ys s is ls many (λ j lt. ap (λ (k : ℕ). slice_index_or s.sent k []) (zero_j j) ∙ ap (λ (l : List (List BlockValue)). slice_index_or l j []) (sym c.into_lanes.ensures.sent));
    }
