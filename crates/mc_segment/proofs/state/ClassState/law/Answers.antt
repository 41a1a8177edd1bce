use Rattle.std.proofs.Common.{◌≤◌, subst}
use Rattle.mc_rule.specs.Lists.{Lists, lists_of, times_in}
use Rattle.mc_segment.proofs.{StateLemmas.seen_lists, ListOfNumberLemmas.is_inside, ListOfNumberLemmas.segment_is}
use Rattle.mc_segment.proofs.state.ClassState.law.Goals as goal

pub returns-clause-inside : goal.returns-clause-inside
returns-clause-inside c = λ s q. is_inside (lists_of c.args.self.now.history) q s

pub returns-clause-lists : goal.returns-clause-lists
returns-clause-lists c = λ s q there. segment_is (lists_of c.args.self.now.history) q s there
    (subst (λ (l : Lists). times_in q l ≤ 1) (seen_lists _ _ _ _ _ _ _ _ _ c.self.invariant c.self.view_is) (c.law.ensures.once q))
