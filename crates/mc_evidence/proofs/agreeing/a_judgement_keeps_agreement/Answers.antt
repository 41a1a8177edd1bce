use Rattle.mc_evidence.proofs.AgreementLemmas.{agree_cooled, agree_evicted, agree_moved, agree_reclaimed}
use Rattle.mc_evidence.proofs.agreeing.a_judgement_keeps_agreement.Goals as goal

pub returns : goal.returns
returns c = record { evicted = agree_evicted; reclaimed = agree_reclaimed; cooled = agree_cooled; moved = agree_moved }
