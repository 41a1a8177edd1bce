use Rattle.mc_evidence.proofs.ReplaceLemmas.{replacing_step}
use Rattle.mc_evidence.proofs.locking.a_replacement_keeps_both_locks.Goals as goal

pub returns : goal.returns
returns c = replacing_step
