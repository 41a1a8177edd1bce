use Rattle.mc_evidence.proofs.LossLemmas.{stays_while_free}
use Rattle.mc_evidence.proofs.losing.a_living_item_stays_while_chunks_are_free.Goals as goal

pub returns : goal.returns
returns c = stays_while_free
