-- Which event a stripe shows to a history that doesn't keep it (own).
use Rattle.std.specs.Prelude.{ℕ, Option, Some, None}
use Rattle.mc_item.specs.declared.{command.Command.Command, item.Who.Who, reply.Reply.Reply, reply.Room.Room, stripe_event.StripeEvent.StripeEvent}
use Rattle.mc_item.specs.declared.stripe_event.StripeEvent.TheVariants as events
use Rattle.mc_stripe.specs.declared.shown.ShownStripe.{ShownStripe}
use Rattle.mc_stripe.specs.declared.shown.ShownStripe.TheVariants as shown

-- the event of an answered command
abbrev pub did_of : Who → Command → ℕ → Reply → Room → StripeEvent
did_of who command moment reply room = events.Did (record { who = who; command = command; moment = moment; reply = reply; room = room })

-- the event that is shown in this form
abbrev pub event_of : ShownStripe → StripeEvent
event_of (shown.Did who command moment reply room) = did_of who command.value moment reply.value room
event_of (shown.Whole event) = event.value

-- the event of an answered command, if its reply was copied
abbrev pub did_if : Who → Command → ℕ → Option Reply → Room → Option StripeEvent
did_if who command moment None room = None
did_if who command moment (Some reply) room = Some (did_of who command moment reply room)
