use Rattle.std.proofs.Common.{◌≡◌, ℕ, cond, eqb, List, Option, Some, refl, ap, ◌∙◌, subst, sym}
use Rattle.dia_edge.specs.Disks.{IsWritten}
use Rattle.pool_core.specs.Numbers.{upcoming}
use Rattle.pool_core.specs.Slots.{slot_of}
use Rattle.pool_core.specs.Caches.{find, victim_of}
use Rattle.pool_core.specs.Meaning.{Pool}
use Rattle.pool_core.proofs.Moving.{fails, notes, restated, stands_via}
use Rattle.pool_core.proofs.pool.PoolState.write_out.Goals as goal

pub returns-in-Ok-write-clause-stays : goal.returns-in-Ok-write-clause-stays
returns-in-Ok-write-clause-stays g c = λ state means.
    let slots = g.D.Disk.slots in
    let it = c.self.inside in
    let id = c.args.id in
    let slot = c.in-Ok.slot in
    let taken = c.prepare_slot.new.self in
    let same = c.in-Ok.ensures.same in
    let victim = c.victim.result.now in
    let table = c.note_slot.new.self in
    let write = c.in-Ok-write.ensures in
    let last = ap (λ cached. victim_of cached) same.2 ∙ ap (λ (pool : Pool g.row.D.Denot). victim_of pool.cached) c.self.view_is ∙ c.requires.last in
    let its_id : victim.id ≡ id = let there = c.victim.ensures.last in cc in
    let found : find it.table.cached id ≡ Some victim.buf = ap (λ cached. find cached id) (sym same.2) ∙ ap (λ n. find taken.cached n) (sym its_id) ∙ c.victim.ensures.found in
    let written = subst (λ bytes. IsWritten (slots c.write.new.self) slot bytes) c.bytes.ensures write.ok in
    let noted : (other : ℕ) → slot_of table.slots other ≡ cond (eqb id other) (Some slot) (slot_of it.table.slots other) = λ other.
    c.note_slot.ensures.slots other ∙ ap (λ (own : List (Option ℕ)). cond (eqb id other) (Some (upcoming taken.numbers)) (slot_of own other)) c.in-Ok.ensures.slots.0
    ∙ ap (λ (n : ℕ). cond (eqb id other) (Some n) (slot_of it.table.slots other)) (sym c.in-Ok.ensures.upcoming) in
    let before = stands_via slots _ _ state c.self.view_is means in
    let still = fails (slots it.disk) (slots c.write.new.self) it.table.size it.table.pool it.table.cached it.table.slots slot c.in-Ok.ensures.free write.tells write.others state before in
    let after = notes (slots c.write.new.self) it.table.size it.table.pool it.table.cached it.table.slots table.slots id slot victim.buf found written noted state still in
    let kept = c.note_slot.ensures.same in
    restated (slots c.write.new.self) it.table.size table.size it.table.pool table.pool it.table.cached table.cached table.slots table.slots state (kept.1 ∙ same.1) (kept.0 ∙ same.0) (kept.2 ∙ same.2) refl after
