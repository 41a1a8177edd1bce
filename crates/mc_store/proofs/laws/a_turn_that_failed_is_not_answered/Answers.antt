use Rattle.mc_store.proofs.PlacedLemmas.{failed_unanswered}
use Rattle.mc_store.proofs.laws.a_turn_that_failed_is_not_answered.Goals as goal

pub returns : goal.returns
returns c = λ final pass before behind call moment own split is none. failed_unanswered pass final.stripes before behind call moment own split is none
