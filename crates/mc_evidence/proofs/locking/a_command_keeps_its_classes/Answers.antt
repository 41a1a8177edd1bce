use Rattle.mc_evidence.proofs.LentStepLemmas.{limit_step, linking_step, refusal_step, survey_step, unlinking_step}
use Rattle.mc_evidence.proofs.locking.a_command_keeps_its_classes.Goals as goal

pub returns : goal.returns
returns c = record { linked = linking_step; unlinked = unlinking_step; surveyed = survey_step; refused = refusal_step; limit = limit_step }
