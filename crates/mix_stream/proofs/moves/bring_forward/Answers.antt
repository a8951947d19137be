use Rattle.std.proofs.Common.{◌≡◌, ◌<◌, ◌∷◌, List, length, get_or, sym, ap, ◌∙◌, subst}
use Rattle.std.specs.List.{remove}
use Rattle.std.proofs.lemmas.Option.{slice_get_within, get_or_from_slice_get}
use Rattle.multiplexer.specs.declared.packet.Packet.{Packet}
use Rattle.mix_stream.specs.Packets.{IsBrought}
use Rattle.mix_stream.proofs.Taking.{brought}
use Rattle.mix_stream.proofs.moves.bring_forward.Goals as goal

pub returns-clause-brought : goal.returns-clause-brought
returns-clause-brought c =
    let found = c.in-Some.ensures.some in
    let ps = c.args.packets.now.items in
    let at = c.in-Some.at in
    let p = c.in-Some-remove.packet in
    let lt : at < length ps = slice_get_within ps at found.0 found.1 in
    let is : p ≡ get_or ps at p = c.in-Some-remove.ensures.value in
    let own : p.from ≡ c.args.from = ap (λ (x : Packet). x.from) (is ∙ get_or_from_slice_get ps at found.0 p found.1) ∙ found.2 in
    let all : c.push_front_reserved.new.self.items ≡ p ∷ remove ps at = c.push_front_reserved.ensures.items ∙ ap (λ (l : List Packet). p ∷ l) c.in-Some-remove.ensures.items in
    subst (λ (l : List Packet). IsBrought c.args.from ps l) (sym all) (brought ps at c.args.from p lt is own found.3)
