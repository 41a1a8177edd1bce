use Rattle.mc_evidence.proofs.AgreementLemmas.{agree_links, agree_neither, agree_replaces, agree_unlinks}
use Rattle.mc_evidence.proofs.agreeing.a_command_keeps_agreement.Goals as goal

pub returns : goal.returns
returns c = record { links = agree_links; unlinks = agree_unlinks; replaces = agree_replaces; neither = agree_neither }
