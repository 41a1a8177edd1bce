use Rattle.mc_laws.proofs.MarkLemmas.{cooling_unseen}
use Rattle.mc_laws.proofs.dying.cooling_shows_nothing.Goals as goal

pub returns : goal.returns
returns c = cooling_unseen
