use Rattle.mc_evidence.proofs.LockLemmas.{stripe_sees_more}
use Rattle.mc_evidence.proofs.seeing.a_pass_that_saw_it_has_the_partners.Goals as goal

pub returns : goal.returns
returns c = λ setting s own seen pass keeps grows. (stripe_sees_more setting s own seen pass grows keeps).told
