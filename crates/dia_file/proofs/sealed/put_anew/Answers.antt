use Rattle.std.proofs.Common.{◌≡◌, ℕ, ◌++◌, List, Err, inr, refl, ◌∙◌, rules}
use Rattle.dia_file.specs.Frames.{frame_bytes, sealed_of, IsTorn, Spread}
use Rattle.dia_file.specs.Parts.{bytes_of}
use Rattle.dia_file.proofs.Spreading.{spread_first, spread_next, spread_behind, spread_parts, ok_then, err_then}
use Rattle.dia_file.proofs.sealed.put_anew.Goals as goal

pub returns-in_err-put_over-2-clause-err : goal.returns-in_err-put_over-2-clause-err
returns-in_err-put_over-2-clause-err g c =
    let pool = c.args.hand.now.pool in
    let whole = c.args.sealed.now.items ++ sealed_of c.args.frame.now c.args.ends.now in
    let head = c.args.parts.head.now in
    let prefix = c.args.parts.prefix.now in
    let last = c.args.parts.rest.now in
    let same = c.seal_frame.ensures.follows.pool in
    let first = spread_first c.seal_frame.new.hand.pool pool c.seal_frame.new.sealed.items whole c.put_over.new.sealed.items c.seal_frame.new.frame (frame_bytes c.put_over.new.frame) head same c.in-Ok.ensures.frame c.in-Ok.ensures.sealed c.in_ok-put_over.ensures.ok in
    let torn = c.in_err-put_over-2.ensures.err in
    let second = spread_next c.put_over.new.hand.pool pool whole c.put_over.new.sealed.items c.put_over-2.new.sealed.items (frame_bytes c.put_over.new.frame) torn.0 head prefix (c.put_over.ensures.follows.pool ∙ same) first torn.1 in
    let all = spread_parts pool whole c.put_over-2.new.sealed.items (torn.0 ++ last) head prefix last (spread_behind pool whole c.put_over-2.new.sealed.items torn.0 (head ++ prefix) last second) in
    let e = c.in_err-put_over-2.field-0.0 in
    let is : c.from_residual-in_err-put_over-2.result ≡ Err e = search rules in
    rw is (inr (torn.0 ++ last, all, refl))

pub returns-clause-ok : goal.returns-clause-ok
returns-clause-ok g c =
    let pool = c.args.hand.now.pool in
    let whole = c.args.sealed.now.items ++ sealed_of c.args.frame.now c.args.ends.now in
    let head = c.args.parts.head.now in
    let prefix = c.args.parts.prefix.now in
    let last = c.args.parts.rest.now in
    let same = c.seal_frame.ensures.follows.pool in
    let again = c.put_over.ensures.follows.pool ∙ same in
    let first = spread_first c.seal_frame.new.hand.pool pool c.seal_frame.new.sealed.items whole c.put_over.new.sealed.items c.seal_frame.new.frame (frame_bytes c.put_over.new.frame) head same c.in-Ok.ensures.frame c.in-Ok.ensures.sealed c.in_ok-put_over.ensures.ok in
    let second = spread_next c.put_over.new.hand.pool pool whole c.put_over.new.sealed.items c.put_over-2.new.sealed.items (frame_bytes c.put_over.new.frame) (frame_bytes c.put_over-2.new.frame) head prefix again first c.in_ok-put_over-2.ensures.ok in
    ok_then (Spread c.put_over-2.new.hand.pool c.put_over-2.new.sealed.items c.put_over-3.new.sealed.items (frame_bytes c.put_over-3.new.frame) (frame_bytes c.put_over-2.new.frame ++ last))
    (Spread pool whole c.put_over-3.new.sealed.items (frame_bytes c.put_over-3.new.frame) (bytes_of c.args.parts)) c.put_over-3.result c.put_over-3.ensures.ok
    (λ third. spread_parts pool whole c.put_over-3.new.sealed.items (frame_bytes c.put_over-3.new.frame) head prefix last
    (spread_next c.put_over-2.new.hand.pool pool whole c.put_over-2.new.sealed.items c.put_over-3.new.sealed.items (frame_bytes c.put_over-2.new.frame) (frame_bytes c.put_over-3.new.frame) (head ++ prefix) last (c.put_over-2.ensures.follows.pool ∙ again) second third))

pub returns-clause-err : goal.returns-clause-err
returns-clause-err g c =
    let pool = c.args.hand.now.pool in
    let whole = c.args.sealed.now.items ++ sealed_of c.args.frame.now c.args.ends.now in
    let head = c.args.parts.head.now in
    let prefix = c.args.parts.prefix.now in
    let last = c.args.parts.rest.now in
    let same = c.seal_frame.ensures.follows.pool in
    let again = c.put_over.ensures.follows.pool ∙ same in
    let first = spread_first c.seal_frame.new.hand.pool pool c.seal_frame.new.sealed.items whole c.put_over.new.sealed.items c.seal_frame.new.frame (frame_bytes c.put_over.new.frame) head same c.in-Ok.ensures.frame c.in-Ok.ensures.sealed c.in_ok-put_over.ensures.ok in
    let second = spread_next c.put_over.new.hand.pool pool whole c.put_over.new.sealed.items c.put_over-2.new.sealed.items (frame_bytes c.put_over.new.frame) (frame_bytes c.put_over-2.new.frame) head prefix again first c.in_ok-put_over-2.ensures.ok in
    err_then ((rest : List ℕ) × Spread c.put_over-2.new.hand.pool c.put_over-2.new.sealed.items c.put_over-3.new.sealed.items rest (frame_bytes c.put_over-2.new.frame ++ last))
    (IsTorn pool c.args.sealed.now.items c.args.frame.now c.args.ends.now c.put_over-3.new.sealed.items c.put_over-3.new.frame 0 (bytes_of c.args.parts)) c.put_over-3.result c.put_over-3.ensures.err
    (λ torn. inr (
      torn.0,
      spread_parts pool whole c.put_over-3.new.sealed.items torn.0 head prefix last
          (spread_next c.put_over-2.new.hand.pool pool whole c.put_over-2.new.sealed.items c.put_over-3.new.sealed.items (frame_bytes c.put_over-2.new.frame) torn.0 (head ++ prefix) last (c.put_over-2.ensures.follows.pool ∙ again) second torn.1),
      refl,
    ))
