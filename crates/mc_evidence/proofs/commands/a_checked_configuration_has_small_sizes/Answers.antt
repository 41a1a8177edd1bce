use Rattle.mc_evidence.proofs.ConfigSizeLemmas.{small_sizes}
use Rattle.mc_evidence.proofs.commands.a_checked_configuration_has_small_sizes.Goals as goal

pub returns : goal.returns
returns c = small_sizes
