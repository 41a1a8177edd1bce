use Rattle.mc_evidence.proofs.LentStepLemmas.{cooling_step, eviction_step, plain_move_step, reclaiming_step}
use Rattle.mc_evidence.proofs.locking.a_judgement_keeps_both_locks.Goals as goal

pub returns : goal.returns
returns c = record { evicted = eviction_step; reclaimed = reclaiming_step; cooled = cooling_step; moved = plain_move_step }
