use Rattle.std.proofs.Common.{◌∙◌, ap, sym, rules, arith}
use Rattle.mc_rule.specs.Lists.{unlinked}
use Rattle.mc_segment.specs.ClassState.{HasPlaces}
use Rattle.mc_segment.proofs.StateLemmas.{keeps, seen_lists, not_to_come}
use Rattle.mc_segment.proofs.state.ClassState.leave.Goals as goal

pub invariant_of-self-2 : goal.invariant_of-self-2
invariant_of-self-2 c =
    let now = c.remove in
    let place : HasPlaces c.args.self.now 1 = search rules in
    keeps _ _ _ _ _ _ _ _ _ c.self.invariant c.self.view_is now.new.self _ _ c.args.event (search rules)
    (now.ensures.lists ∙ (ap (unlinked c.args.number) (seen_lists _ _ _ _ _ _ _ _ _ c.self.invariant c.self.view_is) ∙ sym c.requires.leaves.lists))
    (omega (arith, now.ensures.same, c.requires.leaves.links)) (sym (c.requires.leaves.limits _)) place
    (λ q below. c.requires.leaves.names q ∙ not_to_come c.args.number c.self.inside.lists.next q now.ensures.inside (omega (arith, now.ensures.same, below)))
    c.requires.lawful
