-- The ends, as they are made.
use Rattle.std.proofs.Common.{◌≡◌, ℕ, zero, suc, ◌+◌, List, [], ◌∷◌, length, map, replicate, refl, ap, arith}
use Rattle.std.specs.List.{All}
use Rattle.std.specs.declared.alloc.Global.{Global}
use Rattle.crossbeam_queue.specs.SegTies.{SegId}
use Rattle.block_pool.specs.Handles.{BlockValue}
use Rattle.multiplexer.specs.Lanes.{LaneValue, IntakeValue}
use Rattle.multiplexer.specs.Mails.{made_intake}
use Rattle.multiplexer.specs.Settling.{with_sender, new_lane}

pub made_queues : (n : ℕ) (qs : List (SegId Global)) → map (λ i. i.queue) (map (made_intake n) qs) ≡ qs
made_queues n [] = refl
made_queues n (q ∷ qs) = ap (λ (l : List (SegId Global)). q ∷ l) (made_queues n qs)

pub made_so_many : (n : ℕ) (qs : List (SegId Global)) → All (λ (i : IntakeValue). i.made ≡ n) (map (made_intake n) qs)
made_so_many n [] k d lt = absurd (omega arith)
made_so_many n (q ∷ qs) zero d lt = refl
made_so_many n (q ∷ qs) (suc k) d lt = made_so_many n qs k d (omega arith)

pub made_more : (n : ℕ) (qs : List (SegId Global)) → map with_sender (map (made_intake n) qs) ≡ map (made_intake (n + 1)) qs
made_more n [] = refl
made_more n (q ∷ qs) = ap (λ (l : List IntakeValue). made_intake (n + 1) q ∷ l) (made_more n qs)

pub nothing_sent : (n : ℕ) (qs : List (SegId Global)) → map (λ l. l.sent) (map (new_lane n) qs) ≡ replicate (length qs) []
nothing_sent n [] = refl
nothing_sent n (q ∷ qs) = ap (λ (l : List (List BlockValue)). [] ∷ l) (nothing_sent n qs)

pub lane_queues : (n : ℕ) (qs : List (SegId Global)) → map (λ l. l.queue) (map (new_lane n) qs) ≡ qs
lane_queues n [] = refl
lane_queues n (q ∷ qs) = ap (λ (l : List (SegId Global)). q ∷ l) (lane_queues n qs)

pub lane_senders : (n : ℕ) (qs : List (SegId Global)) → All (λ (l : LaneValue). l.from ≡ n) (map (new_lane n) qs)
lane_senders n [] k d lt = absurd (omega arith)
lane_senders n (q ∷ qs) zero d lt = refl
lane_senders n (q ∷ qs) (suc k) d lt = lane_senders n qs k d (omega arith)
