-- What one command adds to the histories of a stripe and of the classes that it is lent.
use Rattle.std.specs.Prelude.{◌≡◌, List}
use Rattle.mc_item.specs.Command.{key_of}
use Rattle.mc_item.specs.declared.{class_event.ClassEvent.ClassEvent, stripe_event.StripeEvent.StripeEvent}
use Rattle.mc_item.specs.declared.stripe_event.StripeEvent.TheVariants as stripe_events
use Rattle.mc_segment.specs.ClassState.{ClassView, with_room}
use Rattle.mc_stripe.specs.{StripeCalls.Gains, StripeState.Stripe}
use Rattle.mc_pull.specs.declared.parts.Part.{Part}
use Rattle.mc_pull.specs.{Lent.EachPair, Parts.part_for, Parts.part_events, Perform.Call, Perform.answer_to, Perform.fate_for, Settled.class_with}

-- a class's part of a call
abbrev pub part_in : Stripe → Call → ClassView → Part
part_in s c v = part_for v (key_of c.command) c.room (fate_for s c)

-- the events that a call makes in a class
abbrev pub events_in : Stripe → Call → ClassView → List ClassEvent
events_in s c v = part_events v c.who c.moment (part_in s c v)

-- the command's event
abbrev pub did_event : Stripe → Call → StripeEvent
did_event s c = stripe_events.Did (record { who = c.who; command = c.command; moment = c.moment; reply = (answer_to s c).reply; room = c.room })

-- a class has gained just the events of its part
abbrev pub GainsPart : Stripe → Call → ClassView → ClassView → Type 0
GainsPart s c v w = w ≡ class_with v (events_in s c v) w.room

-- a class is unchanged but for its room
abbrev pub ClassStays : ClassView → ClassView → Type 0
ClassStays v w = w ≡ with_room v w.room

-- a command was made: the stripe's history has gained its event, and each class's the events of its part
pub record IsPerformed (s s_new : Stripe) (c : Call) (vs ws : List ClassView) : Type 0 where
  pub stripe : Gains s s_new (did_event s c)
  pub classes : EachPair (GainsPart s c) vs ws

-- nothing was made: the stripe's history and each class are unchanged, but for a class's room
pub record IsUntouched (s s_new : Stripe) (vs ws : List ClassView) : Type 0 where
  pub stripe : s_new.history ≡ s.history
  pub classes : EachPair ClassStays vs ws
