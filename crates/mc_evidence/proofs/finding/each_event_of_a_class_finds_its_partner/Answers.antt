use Rattle.mc_evidence.proofs.FoundPartnerLemmas.{evicted_finds, linked_finds, reclaimed_finds, shifted_finds, unlinked_finds}
use Rattle.mc_evidence.proofs.finding.each_event_of_a_class_finds_its_partner.Goals as goal

pub returns : goal.returns
returns c = record { linked = linked_finds; unlinked = unlinked_finds; evicted = evicted_finds; reclaimed = reclaimed_finds; shifted = shifted_finds }
