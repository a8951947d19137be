-- One more block sent through a lane.
use Rattle.std.proofs.Common.{◌≡◌, ℕ, ◌<◌, List, [], ◌∷◌, ◌++◌, length, map, set, get_or, sym, ap, ◌∙◌}
use Rattle.std.specs.Prelude.{Result, Ok, Err, IfOk, MatchResult}
use Rattle.std.proofs.lemmas.List.{map-set}
use Rattle.block_pool.specs.Handles.{BlockValue}
use Rattle.multiplexer.specs.Lanes.{LaneValue}
use Rattle.multiplexer.specs.Sending.{with_sent}
use Rattle.multiplexer.proofs.Lists.{map_at}

pub on_either : {A E : Type 0} (P P' : A → Type 0) (Q Q' : E → Type 0) (r : Result A E) → MatchResult r P Q → ((x : A) → P x → P' x) → ((e : E) → Q e → Q' e) → MatchResult r P' Q'
on_either {A} {E} P P' Q Q' (Ok x) h f g = f x h
on_either {A} {E} P P' Q Q' (Err e) h f g = g e h

pub on_ok : {A E : Type 0} (P P' : A → Type 0) (r : Result A E) → IfOk r P → ((x : A) → P x → P' x) → IfOk r P'
on_ok {A} {E} P P' (Ok x) h f = f x h
on_ok {A} {E} P P' (Err e) h f = tt

pub sent_after : (lanes : List LaneValue) (at : ℕ) (old new : LaneValue) (all : List (List BlockValue)) (block : BlockValue) → at < length lanes → old ≡ get_or lanes at old → map (λ l. l.sent) lanes ≡ all → new.sent ≡ old.sent ++ block ∷ []
    → map (λ l. l.sent) (set lanes at new) ≡ with_sent all at block
sent_after lanes at old new all block lt is e s =
    map-set (λ (l : LaneValue). l.sent) lanes at new
    ∙ ap (λ (b : List BlockValue). set (map (λ l. l.sent) lanes) at b) (s ∙ ap (λ (b : List BlockValue). b ++ block ∷ []) (ap (λ (l : LaneValue). l.sent) is ∙ sym (map_at (λ (l : LaneValue). l.sent) lanes at [] old lt)))
    ∙ ap (λ (l : List (List BlockValue)). with_sent l at block) e
