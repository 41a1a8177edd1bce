use Rattle.std.proofs.Common.{ap}
use Rattle.mc_segment.specs.{Arena.Held, Slots.slot}
use Rattle.mc_segment.proofs.ArenaLemmas.{seen, closed, whole, same_slots}
use Rattle.mc_segment.proofs.arena.Arena.reserve.Goals as goal

pub invariant_of-self : goal.invariant_of-self
invariant_of-self c = closed _ _ _ _ (same_slots _ _ _ _ (seen c.self.inside.slots _ _ _ c.self.view_is c.self.invariant) (slot c.reserve.new.slots) c.reserve.ensures.slots)

pub returns-clause-same : goal.returns-clause-same
returns-clause-same c =
    let kept = same_slots _ _ _ _ (seen c.self.inside.slots _ _ _ c.self.view_is c.self.invariant) (slot c.reserve.new.slots) c.reserve.ensures.slots in
    (whole _ _ _ _ kept, ap (λ (v : Held). v.next) c.self.view_is)
