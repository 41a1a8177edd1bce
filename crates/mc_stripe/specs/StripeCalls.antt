-- What the calls of a stripe ensure.
use Rattle.std.specs.Prelude.{ℕ, ◌≡◌, [], ◌∷◌, ◌++◌}
use Rattle.mc_item.specs.Cache.{answer_of}
use Rattle.mc_item.specs.declared.{command.Command.Command, item.Who.Who, reply.Room.Room, stripe_event.StripeEvent.StripeEvent}
use Rattle.mc_item.specs.declared.stripe_event.StripeEvent.TheVariants as events
use Rattle.mc_stripe.specs.StripeState.{Stripe, cache_now}

-- the site, the limit of events and whether they are kept stay the same
pub record KeepsSite (old new : Stripe) : Type 0 where
  pub site : new.site ≡ old.site
  pub limit : new.limit ≡ old.limit
  pub keeps_events : new.keeps_events ≡ old.keeps_events

-- the history gains just this event, at its end
abbrev pub Gains : Stripe → Stripe → StripeEvent → Type 0
Gains old new event = new.history ≡ old.history ++ event ∷ []

-- the history gains just the event of this command at this moment with this room, and its reply is what the old cache answers
abbrev pub Notes : Stripe → Stripe → Who → Command → ℕ → Room → Type 0
Notes old new who command moment room =
    Gains old new (events.Did (record {
      who = who;
      command = command;
      moment = moment;
      reply = (answer_of old.site (cache_now old) command moment room).reply;
      room = room;
    }))
