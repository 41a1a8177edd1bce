use Rattle.mc_evidence.proofs.AgreementLemmas.{agree_begins, agree_limited, agree_refused, agree_surveyed}
use Rattle.mc_evidence.proofs.agreeing.agreement_begins_and_outlasts_surveys.Goals as goal

pub returns : goal.returns
returns c = record { begins = agree_begins; surveyed = agree_surveyed; refused = agree_refused; limit = agree_limited }
