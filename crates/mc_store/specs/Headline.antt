-- What a closed store bears out of each reply that was given (own).
use Rattle.std.specs.Prelude.{◌≡◌, ◌≤◌, ℕ, List, Some, length, slice_get}
use Rattle.mc_item.specs.Stripe.{IsLegal}
use Rattle.mc_item.specs.declared.{command.Command.Command, config.Config.Config, item.Who.Who, reply.Reply.Reply, reply.Room.Room, stripe_event.Did.Did}
use Rattle.mc_item.specs.declared.stripe_event.StripeEvent.TheVariants as events
use Rattle.mc_board.specs.Histories.{list_at}
use Rattle.mc_board.specs.declared.rule.Sight.{Sight}
use Rattle.mc_evidence.specs.Setting.{site_in}
use Rattle.mc_store.specs.{Finals.stripe_histories, Locked.setting_of, Sides.StripeSide}

-- the event of a command that was answered, with the room that it was given
abbrev pub answered_did : Who → Command → ℕ → Reply → Room → Did
answered_did who command moment reply room = record { who = who; command = command; moment = moment; reply = reply; room = room }

-- the stripes of a closed store bear out a reply: its stripe's final history is legal, and has the command with this reply in one
-- event, after all that the caller had seen of it before the call
pub record IsBorneOut (config : Config) (stripes : List StripeSide) (number : ℕ) (before : Sight) (who : Who) (command : Command) (moment : ℕ) (reply : Reply) :
    Type 0 where
  pub legal : IsLegal (site_in (setting_of config) number) (stripe_histories stripes number)
  pub place : ℕ
  pub room : Room
  pub there : slice_get (stripe_histories stripes number) place ≡ Some (events.Did (answered_did who command moment reply room))
  pub behind : length (list_at before.seen number) ≤ place
