use Rattle.mc_evidence.proofs.CitedMarkLemmas.{hit_suits, reclaimed_suits}
use Rattle.mc_evidence.proofs.partnering.cited_items_of_partners_suit.Goals as goal

pub returns : goal.returns
returns c = record { reclaimed = reclaimed_suits; hit = hit_suits }
