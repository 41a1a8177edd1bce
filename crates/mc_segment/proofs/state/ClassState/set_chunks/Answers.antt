use Rattle.std.proofs.Common.{refl, rules, arith}
use Rattle.mc_segment.specs.{ClassState.HasPlaces, ClassCalls.limited_event}
use Rattle.mc_segment.proofs.StateLemmas.{keeps, seen_lists}
use Rattle.mc_segment.proofs.state.ClassState.set_chunks.Goals as goal

pub invariant_of-self-2 : goal.invariant_of-self-2
invariant_of-self-2 c =
    let place : HasPlaces c.args.self.now 1 = search rules in
    keeps _ _ _ _ _ _ _ _ _ c.self.invariant c.self.view_is c.self.inside.lists _ _ (limited_event c.args.who c.args.chunks) (search rules)
    (seen_lists _ _ _ _ _ _ _ _ _ c.self.invariant c.self.view_is)
    (omega arith) refl place (λ q below. refl) (c.requires.some, c.requires.bound)
