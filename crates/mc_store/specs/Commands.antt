-- One command on a store: the events of its stripe before the answer, and how it ends, answered or broken off (own).
use Rattle.std.specs.Prelude.{ℕ, ◌≡◌, ◌++◌, ◌⊎◌, List, [], ◌∷◌, Option, Some, None, length}
use Rattle.mc_item.specs.Command.{key_of}
use Rattle.mc_item.specs.declared.{answer.Need.Need, command.Command.Command, config.Config.Config, item.ClassNo.ClassNo, item.Link.Link, item.Who.Who}
use Rattle.mc_item.specs.declared.{reply.Reply.Reply, reply.Room.Room, stripe_event.Cause.TheVariants.Expired, stripe_event.StripeEvent.StripeEvent}
use Rattle.mc_item.specs.declared.answer.Need.TheVariants as needs
use Rattle.mc_item.specs.declared.stripe_event.StripeEvent.TheVariants as events
use Rattle.mc_rule.specs.Segment.{rule_of}
use Rattle.mc_stripe.specs.{Plan.dead_link, Plan.visible_row, StripeState.Stripe, StripeState.cache_now}
use Rattle.mc_pull.specs.{Lone.AreMadeBy, Settled.lost_event, Walker.Walker}

-- the walker of a call in a class of a configuration
abbrev pub walker_in : Config → Who → ℕ → ClassNo → Walker
walker_in config who moment class = record { who = who; moment = moment; class = class; rule = rule_of config }

-- the removal of a key's item that is dead at a moment, if there is one (its link is given), and else no event
abbrev pub burial : Who → List ℕ → ℕ → Option Link → List StripeEvent
burial who key moment None = []
burial who key moment (Some link) = lost_event who key (Expired moment) ∷ []

-- the stripe's events of a search for a chunk: those of a walker in a class if a new chunk of it is needed, and else none
abbrev pub IsSearch : Config → Who → ℕ → Need → List StripeEvent → Type 0
IsSearch config who moment (needs.Fresh class) walked = AreMadeBy (walker_in config who moment class) walked
IsSearch config who moment needs.Nothing walked = walked ≡ []
IsSearch config who moment needs.Same walked = walked ≡ []
IsSearch config who moment needs.TooLarge walked = walked ≡ []

-- a stripe's events before a command's answer: the removal of its key's item if dead, then a search for a chunk if one is needed
pub record LeadsUp (config : Config) (who : Who) (command : Command) (moment : ℕ) (s : Stripe) (before : List StripeEvent) : Type 0 where
  pub walked : List StripeEvent
  pub split : before ≡ burial who (key_of command) moment (dead_link ((cache_now s).items (key_of command)) moment) ++ walked
  pub search : IsSearch config who moment (visible_row s command moment).need walked

-- a command was answered at a place of its stripe's history: its event comes after those that lead up to it, and is the last one
pub record IsAnswered (config : Config) (who : Who) (command : Command) (moment : ℕ) (s s_new : Stripe) (place : ℕ) : Type 0 where
  pub before : List StripeEvent
  pub led_up : LeadsUp config who command moment s before
  pub reply : Reply
  pub room : Room
  pub history_is : s_new.history ≡ (s.history ++ before)
      ++ events.Did (record { who = who; command = command; moment = moment; reply = reply; room = room }) ∷ []
  pub place_is : place ≡ length (s.history ++ before)

-- a command was broken off: the stripe's history gains nothing, or what leads up to the command
pub record IsCut (config : Config) (who : Who) (command : Command) (moment : ℕ) (s s_new : Stripe) : Type 0 where
  pub before : List StripeEvent
  pub led_up : (before ≡ []) ⊎ LeadsUp config who command moment s before
  pub history_is : s_new.history ≡ s.history ++ before
