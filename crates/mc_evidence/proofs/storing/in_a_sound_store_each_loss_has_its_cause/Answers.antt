use Rattle.mc_evidence.proofs.SoundLemmas.{loss_in}
use Rattle.mc_evidence.proofs.storing.in_a_sound_store_each_loss_has_its_cause.Goals as goal

pub returns : goal.returns
returns c = loss_in
