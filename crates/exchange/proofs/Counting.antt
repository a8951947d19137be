-- How many frames are written.
use Rattle.std.proofs.Common.{◌≡◌, ℕ, zero, suc, ◌+◌, ◌<◌, ◌≤◌, List, [], ◌∷◌, length, Option, None, Some, get_or, ap, ◌∙◌, zero-add, arith}
use Rattle.std.proofs.lemmas.List.Sums.{sum_by-append}
use Rattle.block_pool.specs.Handles.{FrameValue}
use Rattle.dia_file.specs.Frames.{frames}
use Rattle.exchange.specs.Dealing.{open_frames}

pub open_cons : (f : Option FrameValue) (fs : List (Option FrameValue)) → open_frames (f ∷ fs) ≡ frames f + open_frames fs
open_cons f fs = sum_by-append frames (f ∷ []) fs ∙ ap (λ (n : ℕ). n + open_frames fs) (zero-add (frames f))

one_at_most : (f : Option FrameValue) → frames f ≤ 1
one_at_most None = omega arith
one_at_most (Some f) = omega arith

pub open_le : (fs : List (Option FrameValue)) → open_frames fs ≤ length fs
open_le [] = omega arith
open_le (f ∷ fs) = omega (arith, open_cons f fs, one_at_most f, open_le fs)

-- where a worker has no frame there are fewer than workers
pub open_bound : (fs : List (Option FrameValue)) (i : ℕ) (d : Option FrameValue) → i < length fs → open_frames fs + 1 ≤ length fs + frames (get_or fs i d)
open_bound [] i d h = absurd (omega (arith, h))
open_bound (f ∷ fs) zero d h = omega (arith, open_cons f fs, open_le fs)
open_bound (f ∷ fs) (suc i) d h =
    let short : i < length fs = omega (arith, h) in
    omega (arith, open_cons f fs, one_at_most f, open_bound fs i d short)
