use Rattle.mc_evidence.proofs.SoundLemmas.{locks_sound}
use Rattle.mc_evidence.proofs.storing.locks_keep_a_sound_store.Goals as goal

pub returns : goal.returns
returns c = locks_sound
