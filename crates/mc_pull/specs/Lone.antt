-- A gate that is lent one stripe, and reaches no other.
use Rattle.std.specs.Prelude.{ℕ, ◌≡◌, ◌≢◌, ◌++◌, ◌↔◌, List, [], ◌∷◌, IsSome}
use Rattle.std.specs.List.{All}
use Rattle.mc_item.specs.declared.{class_event.ClassEvent.ClassEvent, config.Config.Config, item.ClassNo.ClassNo, item.StripeNo.StripeNo}
use Rattle.mc_item.specs.declared.stripe_event.Cause.{Cause}
use Rattle.mc_item.specs.declared.{stripe_event.Cause.TheVariants.Expired, stripe_event.Cause.TheVariants.Taken, stripe_event.StripeEvent.StripeEvent}
use Rattle.mc_item.specs.declared.stripe_event.StripeEvent.TheVariants as events
use Rattle.mc_rule.specs.{Agreement.Agree, Segment.Rule}
use Rattle.mc_stripe.specs.{StripeState.Stripe, StripeCalls.KeepsSite}
use Rattle.mc_segment.specs.ClassState.{ClassView}
use Rattle.mc_pull.specs.declared.{lone.Lone.Lone, looking.Answer.Answer}
use Rattle.mc_pull.specs.{Question.IsClassOf, Question.IsStripeOf, Walker.Walker}

-- the stripe has this number, and was made with this configuration
pub record Serves (number : ℕ) (s : Stripe) (config : Config) : Type 0 where
  pub number_is : s.site.stripe ≡ number
  pub made_with : IsStripeOf config s

-- why a walker loses an item: it was dead at the walker's time, or its chunk in the walker's class was taken
abbrev pub IsCauseOf : Walker → Cause → Type 0
IsCauseOf w (Expired moment) = moment ≡ w.moment
IsCauseOf w (Taken class place) = class ≡ w.class

-- an event of a stripe that this walker made: an item was removed, or its ACTIVE mark was cleared
abbrev pub IsWalkersEvent : Walker → StripeEvent → Type 0
IsWalkersEvent w (events.Did did) = ⊥
IsWalkersEvent w (events.Lost lost) = (lost.who ≡ w.who) × IsCauseOf w lost.cause
IsWalkersEvent w (events.Cooled cooled) = cooled.who ≡ w.who

-- this walker made each of these events
abbrev pub AreMadeBy : Walker → List StripeEvent → Type 0
AreMadeBy w [] = Unit {0}
AreMadeBy w (e ∷ es) = IsWalkersEvent w e × AreMadeBy w es

-- the stripe's history has only grown, by events of this walker, and nothing else but its room has changed
pub record StripeGrows (w : Walker) (old new : Stripe) : Type 0 where
  pub site : KeepsSite old new
  pub events : List StripeEvent
  pub each : AreMadeBy w events
  pub history_is : new.history ≡ old.history ++ events

-- what a walker did to one stripe and a class's history: the stripe gained only its events, and histories that agreed still agree
pub record Walked (w : Walker) (s : Stripe) (history : List ClassEvent) (s_new : Stripe) (history_new : List ClassEvent) : Type 0 where
  pub grows : StripeGrows w s s_new
  pub own : Agree s.site w.rule w.class s.history history → Agree s.site w.rule w.class s_new.history history_new
  pub others : (other : ClassNo) (rule : Rule) (entries : List ClassEvent) → other ≢ w.class → Agree s.site rule other s.history entries
      → Agree s.site rule other s_new.history entries

-- an answer of a gate that is lent the stripe with this number: just that stripe was reached
abbrev pub IsAnsweredAlone : StripeNo → Answer → Type 0
IsAnsweredAlone number a = IsSome a.judged ↔ (a.stripe ≡ number)

-- what a gate that is lent one stripe answered: it reached that stripe each time that it was asked for it, and no other
pub record AnswersAlone (gate gate_new : Lone) : Type 0 where
  pub number_is : gate_new.number ≡ gate.number
  pub answers : List Answer
  pub answers_are : gate_new.answers.now ≡ gate.answers.now ++ answers
  pub each : All (IsAnsweredAlone gate.number) answers

-- a class may be walked through a gate that is lent one stripe: both were made with this configuration
pub record IsServedAlone (gate : Lone) (config : Config) (c : ClassView) : Type 0 where
  pub class : IsClassOf config c
  pub serves : Serves gate.number.0 gate.stripe.now config

-- what a walker leaves of a gate that is lent one stripe, and of a class's history: the gate holds and serves the stripe still, it
-- reached the stripe whenever asked for it, and the walker did no more than `Walked` says
pub record LeavesAlone (w : Walker) (config : Config) (gate : Lone) (history : List ClassEvent) (gate_new : Lone) (history_new : List ClassEvent) : Type 0 where
  pub holds : gate_new.stripe.ghost_name ≡ gate.stripe.ghost_name
  pub walked : Walked w gate.stripe.now history gate_new.stripe.now history_new
  pub answers : AnswersAlone gate gate_new
  pub serves : Serves gate_new.number.0 gate_new.stripe.now config
