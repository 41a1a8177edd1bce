-- What was done with an entry follows from a state of its stripe, whatever is known of that state.
use Rattle.std.proofs.Common.{Option, Some, None}
use Rattle.mc_item.specs.declared.{config.Config.Config, item.StripeNo.StripeNo}
use Rattle.mc_segment.specs.ClassState.{ClassView}
use Rattle.mc_stripe.specs.StripeState.{Stripe}
use Rattle.mc_pull.specs.declared.looking.Judged.{Judged}
use Rattle.mc_pull.specs.{Looks.IsJudgedIf, Looks.IsReachedIf, Looks.judged_by, Question.Question}

pub judged_of : (R : Stripe → Type 0) (config : Config) (number : StripeNo) (c : ClassView) (q : Question) (j : Option Judged) → IsReachedIf R config number c q j → IsJudgedIf config number c q j
judged_of R config number c q None reached = tt
judged_of R config number c q (Some j) reached = reached.0

-- what holds of a state by which an entry was judged holds of it in other words, too
pub reached_more : (R Q : Stripe → Type 0) (config : Config) (number : StripeNo) (c : ClassView) (q : Question) (j : Option Judged) → ((s : Stripe) → R s → Q s) → IsReachedIf R config number c q j
    → IsReachedIf Q config number c q j
reached_more R Q config number c q None more reached = tt
reached_more R Q config number c q (Some j) more reached = (reached.0, more (judged_by j) reached.1)
