use Rattle.mc_evidence.proofs.FoundPartnerLemmas.{finds_cooled, finds_expired, finds_linked, finds_refused, finds_taken, finds_unlinked}
use Rattle.mc_evidence.proofs.finding.each_event_of_a_stripe_finds_its_partner.Goals as goal

pub returns : goal.returns
returns c = record { linked = finds_linked; unlinked = finds_unlinked; taken = finds_taken; expired = finds_expired; cooled = finds_cooled; refused = finds_refused }
