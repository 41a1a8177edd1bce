use Rattle.mc_evidence.proofs.StepLemmas.{command_keeps, linking_keeps, replacing_keeps, unlinking_keeps}
use Rattle.mc_evidence.proofs.keeping.a_command_keeps_evidence.Goals as goal

pub returns : goal.returns
returns c = record { links = linking_keeps; unlinks = unlinking_keeps; replaces = replacing_keeps; neither = command_keeps }
