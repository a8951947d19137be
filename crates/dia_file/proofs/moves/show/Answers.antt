use Rattle.std.proofs.Common.{◌≡◌, ◌-◌, suc, ℕ, List, Some, refl, ap, ◌∙◌, arith, take}
use Rattle.dia_item.specs.KindList.{kind_list}
use Rattle.block_pool.specs.Handles.{PoolName}
use Rattle.dia_file.specs.declared.sealed.Sealed.{Sealed}
use Rattle.dia_file.specs.declared.place.Held.{Held}
use Rattle.dia_file.specs.declared.place.Place.{Place}
use Rattle.dia_file.specs.Places.{sealed_in}
use Rattle.dia_file.proofs.PlaceLemmas.{Takes, Showed, taken_sealed, taken_ahead, showed_moved}
use Rattle.dia_file.proofs.moves.show.Goals as goal

pub returns-clause-moved : goal.returns-clause-moved
returns-clause-moved g c =
    let a : Place = c.args.place.now in
    let h : Held = c.in_ok-held.held in
    let more : List Sealed = c.pin_first.new.ring.items in
    let pool : PoolName = c.args.hand.now.pool in
    let k : ℕ = a.ahead - 1 in
    let ahead : a.ahead ≡ suc k = omega arith in
    let takes : Takes a (sealed_in h) more k = record { hidden = record { shown = c.requires.hidden; here = c.requires.read }; items = c.in_ok-held.ensures.taken; ahead = ahead } in
    let all = taken_sealed pool a (sealed_in h) more k c.requires.placed takes in
    let b : Place = record { ring = c.pin_first.new.ring; ahead = k; shown = Some h; at = 0; here = h.ends; buffer = a.buffer; kept = a.kept; after = a.after } in
    let showed : Showed pool a b (sealed_in h) k h = record {
      takes = takes;
      ends = c.requires.ends (sealed_in h) (take k more) (taken_ahead a (sealed_in h) more k takes);
      len = c.in_ok-held.ensures.len;
      capacity = c.pin_first.ensures.capacity;
      ahead = refl;
      shown = refl;
      is = refl;
      at = refl;
      here = refl;
      buffer = refl;
      kept = refl;
      after = refl;
      shown_len = c.in_ok-held.ensures.shown.long;
      told = λ told. c.in_ok-held.ensures.shown.told (ap (λ (p : PoolName). p.opening.tells) all.0.of_pool ∙ told);
    } in
    showed_moved (kind_list c.args.kinds.now) pool a b (sealed_in h) k h showed
