use Rattle.std.proofs.Common.{◌≡◌, ℕ, length, vec_len, refl, subst, arith}
use Rattle.std.specs.Prelude.{All}
use Rattle.multiplexer.specs.contracts.post.SendEndPost.TheImpl as post
use Rattle.link.specs.Scattering.{IsNewPost}
use Rattle.link.proofs.Mailed.{new_posts}
use Rattle.link.proofs.making.made_ready.Goals as goal

pub dealers_for-requires-clause-new : goal.dealers_for-requires-clause-new
dealers_for-requires-clause-new g c =
    let new = c.in_ok-sends.ensures.0 in
    let count = new.count in
    let ok = c.in_ok-sends.sends.ok in
    let long : length c.args.mail.now.mail ≡ vec_len c.in_ok-sends.sends = omega (arith, count, ok) in
    subst (λ (n : ℕ). All (IsNewPost post.ghosts n) c.in_ok-sends.sends.items) long (new_posts post.ghosts (λ s. refl) (λ s. refl) c.args.mail.now.mail c.in_ok-sends.sends.items new)
