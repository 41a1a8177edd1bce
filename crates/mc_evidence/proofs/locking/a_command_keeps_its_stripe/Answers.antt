use Rattle.mc_evidence.proofs.LentStepLemmas.{command_step}
use Rattle.mc_evidence.proofs.locking.a_command_keeps_its_stripe.Goals as goal

pub returns : goal.returns
returns c = command_step
