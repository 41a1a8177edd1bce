-- What a gate answers, and what its answer does to the class.
use Rattle.std.specs.Prelude.{◌≡◌, ◌++◌, List, [], ◌∷◌, Option, Some, None, length}
use Rattle.mc_item.specs.declared.{class_event.ClassEvent.ClassEvent, config.Config.Config, item.StripeNo.StripeNo}
use Rattle.mc_item.specs.Stripe.{IsLegal}
use Rattle.mc_segment.specs.ClassState.{ClassView}
use Rattle.mc_stripe.specs.StripeState.{Stripe, cache_now}
use Rattle.mc_pull.specs.declared.{judge.Done.Done, looking.Answer.Answer, looking.Judged.Judged, looking.Look.Look}
use Rattle.mc_pull.specs.Question.{IsAsked, IsStripeOf, Question}
use Rattle.mc_pull.specs.{Judgement.done_of, Settled.class_with, Settled.done_class_events}

-- what was done with an entry by this state of its stripe
abbrev pub judgement : Done → Stripe → Judged
judgement made s = record { done = made; state = record { marker = record {}; value = s } }

-- the state of its stripe by which an entry was judged
abbrev pub judged_by : Judged → Stripe
judged_by j = j.state.value

-- what was done by a gate's answer, if the stripe was reached
abbrev pub done_in : Option Judged → Option Done
done_in None = None
done_in (Some j) = Some j.done

-- the answer with these parts
abbrev pub answer_by : StripeNo → Option Judged → Answer
answer_by stripe judged = record { stripe = stripe; judged = judged }

-- the events that an answer adds to the class: none, if the stripe was not reached
abbrev pub events_if : ClassView → Question → Option Judged → List ClassEvent
events_if c q None = []
events_if c q (Some j) = done_class_events c q (length (judged_by j).history) j.done

-- what was done follows from the state by which the entry was judged, a legal one of this stripe, with this configuration
pub record IsJudged (config : Config) (number : StripeNo) (c : ClassView) (q : Question) (j : Judged) : Type 0 where
  pub legal : IsLegal (judged_by j).site (judged_by j).history
  pub of : IsStripeOf config (judged_by j)
  pub number_is : (judged_by j).site.stripe ≡ number.0
  pub done_is : j.done ≡ done_of c (cache_now (judged_by j)) q

-- if the stripe was reached, what was done follows from the state by which the entry was judged
abbrev pub IsJudgedIf : Config → StripeNo → ClassView → Question → Option Judged → Type 0
IsJudgedIf config number c q None = Unit {0}
IsJudgedIf config number c q (Some j) = IsJudged config number c q j

-- what was done follows from a state of this stripe of which `R` holds
abbrev pub IsJudgedBy : (Stripe → Type 0) → Config → StripeNo → ClassView → Question → Judged → Type 0
IsJudgedBy R config number c q j = IsJudged config number c q j × R (judged_by j)

-- if the stripe was reached, what was done follows from a state of it of which `R` holds
abbrev pub IsReachedIf : (Stripe → Type 0) → Config → StripeNo → ClassView → Question → Option Judged → Type 0
IsReachedIf R config number c q None = Unit {0}
IsReachedIf R config number c q (Some j) = IsJudgedBy R config number c q j

-- a gate answered a look, and this was done: it was asked for the stripe once, the class gained just the answer's events, and if
-- the stripe was reached, what was done follows from a state of it of which `R` holds
pub record IsAnswered (R : Stripe → Type 0) (config : Config) (stripe : StripeNo) (q : Question) (c c_new : ClassView) (xs ys : List Answer)
    (made : Option Done) : Type 0 where
  pub judged : Option Judged
  pub made_is : made ≡ done_in judged
  pub answers : ys ≡ xs ++ answer_by stripe judged ∷ []
  pub class : c_new ≡ class_with c (events_if c q judged) c_new.room
  pub reached : IsReachedIf R config stripe c q judged

-- a look may be judged with this stripe: its question may be put to both, and it isn't judged yet
pub record MaySettle (look : Look) (s : Stripe) : Type 0 where
  pub asked : IsAsked look.class.now s look.ask
  pub once : look.done ≡ None
