use Rattle.mc_evidence.proofs.{CitedItemLemmas.all_suited_later, EvidenceGrowthLemmas.all_backed_later, EvidenceGrowthLemmas.all_told_later, EvidenceGrowthLemmas.tried_later}
use Rattle.mc_evidence.proofs.seeing.evidence_stays_as_more_is_seen.Goals as goal

pub returns : goal.returns
returns c = record { told = all_told_later; backed = all_backed_later; suited = all_suited_later; tried = tried_later }
