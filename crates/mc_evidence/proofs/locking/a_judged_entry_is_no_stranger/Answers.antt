use Rattle.mc_evidence.proofs.LockLemmas.{no_stranger}
use Rattle.mc_evidence.proofs.locking.a_judged_entry_is_no_stranger.Goals as goal

pub returns : goal.returns
returns c = no_stranger
