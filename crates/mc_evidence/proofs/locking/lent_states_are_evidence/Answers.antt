use Rattle.mc_evidence.proofs.LockLemmas.{between}
use Rattle.mc_evidence.proofs.locking.lent_states_are_evidence.Goals as goal

pub returns : goal.returns
returns c = between
