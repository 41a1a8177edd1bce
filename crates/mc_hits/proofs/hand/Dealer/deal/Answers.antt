use Rattle.mc_hits.proofs.Keeps.{deals_as}
use Rattle.mc_hits.proofs.hand.Dealer.deal.Goals as goal

pub another-place-requires-clause-rule : goal.another-place-requires-clause-rule
another-place-requires-clause-rule c = deals_as _ _ _ c.self.invariant.0
