-- What a caller of a shared store knows of its calls so far, by its pass. A pass has the caller's history and what it has seen.
use Rattle.std.specs.Prelude.{ℕ, ◌≡◌, ◌<◌, ◌≤◌, ◌+◌, List, [], ◌∷◌, Option, Some, IsSomeAnd, if◌then◌else◌, nat_eq, slice_get, length}
use Rattle.mc_item.specs.declared.{config.Config.Config, call_event.CallEvent.CallEvent, event.Event.Event, item.Who.Who, stripe_event.Did.Did}
use Rattle.mc_item.specs.declared.stripe_event.StripeEvent.{StripeEvent}
use Rattle.mc_item.specs.declared.call_event.CallEvent.TheVariants as calls
use Rattle.mc_item.specs.declared.stripe_event.StripeEvent.TheVariants as events
use Rattle.mc_board.specs.declared.{rule.Span.Span}
use Rattle.mc_board.specs.{Accounts.IsEntered, Accounts.maker_in, Histories.list_at}
use Rattle.mc_evidence.specs.{Seen.stripes_seen, Setting.IsClass}
use Rattle.mc_script.specs.{Calls.CallsView, Exchanges.Exchange, Exchanges.Failure}
use Rattle.mc_store.specs.{Passes.PassView, Callers.turns_of, Locked.setting_of}
use Rattle.mc_driver.specs.{Called.AreInTurn, Called.turns_for, Noted.exchange_of, Stand.Stand, Stand.calls_at, Stand.histories_seen}

-- the event at this place of a stripe's history is this call of this caller, with its answer
pub record IsAt (history : List StripeEvent) (caller place : ℕ) (call : Exchange) : Type 0 where
  pub did : Did
  pub there : slice_get history place ≡ Some (events.Did did)
  pub call_is : exchange_of did ≡ call
  pub by : did.who.caller ≡ caller

-- the events at these places of a stripe's history are these calls of this caller, in order
abbrev pub AreAt : List StripeEvent → ℕ → List ℕ → List Exchange → Type 0
AreAt history caller [] [] = Unit {0}
AreAt history caller (place ∷ places) (call ∷ calls) = IsAt history caller place call × AreAt history caller places calls
AreAt history caller [] (call ∷ calls) = ⊥
AreAt history caller (place ∷ places) [] = ⊥

-- each of these numbers is above the one before it, and the first is at least this one
abbrev pub AreRising : ℕ → List ℕ → Type 0
AreRising from [] = Unit {0}
AreRising from (number ∷ numbers) = (from ≤ number) × AreRising (number + 1) numbers

-- the places in one stripe's history at which a caller's commands were answered, in order, as the caller's history has them
abbrev pub places_in : ℕ → List CallEvent → List ℕ
places_in number [] = []
places_in number (calls.Asked asked ∷ more) = places_in number more
places_in number (calls.Juggled worked ∷ more) = places_in number more
places_in number (calls.Crawled worked ∷ more) = places_in number more
places_in number (calls.Limits limits ∷ more) = places_in number more
places_in number (calls.Answered answered ∷ more) = if nat_eq answered.stripe.0 number then answered.place ∷ places_in number more else places_in number more

-- by a pass's account each event of this call was seen, and suits, under its lock
pub record EntersOnly (pass : PassView) (who : Who) (Suits : (lock place : ℕ) → Event → Type 0) : Type 0 where
  pub each : (lock place : ℕ) → IsEntered pass.made who.turn lock place
      → IsSomeAnd (slice_get (list_at pass.sight.seen lock) place) (λ event. maker_in event ≡ Some who → Suits lock place event)

-- each event of an account is of a turn before this one
pub record IsBefore (turn : ℕ) (made : List Span) : Type 0 where
  pub each : (k : ℕ) (span : Span) → slice_get made k ≡ Some span → span.turn < turn

-- what a pass knows of its caller's calls: it has seen these in turn, each of this caller, and then the one that failed if one did,
-- with commands at just the places that the caller's history has; that history has just these calls; its account is of these turns
pub record AreNoted (config : Config) (pass : PassView) (calls : List Exchange) (end : Option Failure) : Type 0 where
  pub stand : Stand (EntersOnly pass) (λ sight. sight ≡ pass.sight) config (histories_seen config pass.sight) pass.caller calls end
  pub at : (number : ℕ) → number < config.stripes
      → AreAt (stripes_seen (list_at pass.sight.seen) number) pass.caller (places_in number pass.calls) (calls_at config.stripes number calls)
  pub rising : (number : ℕ) → number < config.stripes → AreRising 0 (places_in number pass.calls)
  pub own : AreInTurn pass.caller calls
  pub turns : turns_of pass.calls ≡ turns_for calls end
  pub before : IsBefore (length (turns_of pass.calls)) pass.made

-- a pass may make a call: there is a stripe, and the caller's history has a call for each turn
pub record MayCall (config : Config) (pass : PassView) : Type 0 where
  pub some : 0 < config.stripes
  pub turns : length (turns_of pass.calls) ≡ pass.turn

-- what a script's contracts see of a caller by its pass
abbrev pub view_of : Config → PassView → CallsView
view_of config pass = record {
  caller = pass.caller;
  turn = pass.turn;
  notes = AreNoted config pass;
  has_class = IsClass (setting_of config);
  may_call = MayCall config pass;
}
