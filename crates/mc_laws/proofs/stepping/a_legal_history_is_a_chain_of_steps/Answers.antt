use Rattle.std.proofs.Common.{refl}
use Rattle.mc_laws.proofs.LegalStepLemmas.{last_step, one_step_more}
use Rattle.mc_laws.proofs.stepping.a_legal_history_is_a_chain_of_steps.Goals as goal

pub returns : goal.returns
returns c = record { begins = λ site. (tt, refl); stepped = last_step; legal = one_step_more }
