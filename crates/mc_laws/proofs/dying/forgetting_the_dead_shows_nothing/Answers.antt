use Rattle.mc_laws.proofs.EventLemmas.{forgets}
use Rattle.mc_laws.proofs.dying.forgetting_the_dead_shows_nothing.Goals as goal

pub returns : goal.returns
returns c = forgets
