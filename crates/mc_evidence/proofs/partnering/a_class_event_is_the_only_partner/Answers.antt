use Rattle.mc_evidence.proofs.PartnersOfOneLemmas.{one_evicted, one_linked, one_reclaimed, one_refused, one_shifted, one_unlinked}
use Rattle.mc_evidence.proofs.partnering.a_class_event_is_the_only_partner.Goals as goal

pub returns : goal.returns
returns c = record { linked = one_linked; unlinked = one_unlinked; evicted = one_evicted; reclaimed = one_reclaimed; shifted = one_shifted; refused = one_refused }
