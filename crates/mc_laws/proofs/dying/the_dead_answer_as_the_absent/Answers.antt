use Rattle.mc_laws.proofs.MarkLemmas.{answered_as_absent}
use Rattle.mc_laws.proofs.dying.the_dead_answer_as_the_absent.Goals as goal

pub returns : goal.returns
returns c = answered_as_absent
