use Rattle.mc_stripe.proofs.WakeLemmas.{told_just_woken}
use Rattle.mc_stripe.proofs.waking.a_woken_link_is_of_an_item_made_active.Goals as goal

pub returns : goal.returns
returns c = told_just_woken
