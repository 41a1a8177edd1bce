-- Which calls a caller made, and which of them each of its events belongs to: one in the same turn (its number), at the same moment if
-- the event has one (own).
use Rattle.std.specs.Prelude.{ℕ, ◌≡◌, ◌<◌, List, [], ◌∷◌, ◌++◌, Option, Some, None, map, slice_get}
use Rattle.mc_item.specs.declared.{call_event.CallEvent.CallEvent, class_event.ClassEvent.ClassEvent, config.Config.Config, item.ClassNo.ClassNo}
use Rattle.mc_item.specs.declared.{item.Who.Who, stripe_event.StripeEvent.StripeEvent}
use Rattle.mc_item.specs.declared.stripe_event.StripeEvent.TheVariants as events
use Rattle.mc_script.specs.Exchanges.{Asks, Begun, Crawls, Exchange, Failure, Juggles, Limits, ScriptCall, Unbegun}
use Rattle.mc_evidence.specs.Setting.{IsClass}
use Rattle.mc_board.specs.Accounts.{maker_of, who_of}
use Rattle.mc_store.specs.Callers.{IsCalled, IsMomentOf, asked_for, crawling_of, juggling_of, limits_of, turns_of}
use Rattle.mc_store.specs.{Locked.setting_of, Made.WasCalled, Passes.PassView}
use Rattle.mc_store.specs.Finals.{AreItsOwn, AreItsOwnInClasses, FinalView, IsAccounted, IsBehindClasses, IsBehindStripes}
use Rattle.mc_driver.specs.{Stand.AreOnly, Stand.HasSeen, Stand.Histories, Stand.MakesOnly, Stand.Stand, Stand.StandsAnywhere}

-- the event of a caller's history for this call at this moment; one that sets a limit has no moment
abbrev pub call_event_of : ScriptCall → ℕ → CallEvent
call_event_of (Asks command) moment = asked_for command moment
call_event_of (Juggles class) moment = juggling_of class moment
call_event_of (Crawls class) moment = crawling_of class moment
call_event_of (Limits class n) moment = limits_of class n

-- the event of a caller's history for a call that failed, if one did after it had begun
abbrev pub begun_event : Option Failure → List CallEvent
begun_event None = []
begun_event (Some (Unbegun fault)) = []
begun_event (Some (Begun call moment fault)) = call_event_of call moment ∷ []

-- the turns of a caller that made just these calls, and then the one that failed, if one did
abbrev pub turns_for : List Exchange → Option Failure → List CallEvent
turns_for calls end = map (λ call. call_event_of call.call call.moment) calls ++ begun_event end

-- the event has this moment (time in seconds), if it has one: the loss of a taken item and a cleared mark have none
abbrev pub IsAtMoment : StripeEvent → ℕ → Type 0
IsAtMoment (events.Did did) moment = did.moment ≡ moment
IsAtMoment (events.Lost lost) moment = IsMomentOf lost.cause moment
IsAtMoment (events.Cooled cooled) moment = Unit {0}

-- the histories have a completed call of this caller in this turn, with its answer
pub record HasCall (config : Config) (histories : Histories) (who : Who) : Type 0 where
  pub call : Exchange
  pub stands : StandsAnywhere config histories call
  pub who_is : who ≡ call.who

-- each event of this caller, on any stripe or class, belongs to a completed call; a stripe's is at the call's moment
pub record AreWholeTurns (config : Config) (caller : ℕ) (histories : Histories) : Type 0 where
  pub at : (number place : ℕ) (event : StripeEvent) → number < config.stripes → slice_get (histories.stripes number) place ≡ Some event
      → (who_of event).caller ≡ caller → (has : HasCall config histories (who_of event)) × IsAtMoment event has.call.moment
  pub at_classes : (class : ClassNo) (place : ℕ) (event : ClassEvent) → IsClass (setting_of config) class
      → slice_get (histories.classes class) place ≡ Some event → (maker_of event).caller ≡ caller → HasCall config histories (maker_of event)

-- each event of this caller, on any stripe or class, belongs to one of these calls
pub record AreCalledBy (config : Config) (caller : ℕ) (histories : Histories) (calls : List CallEvent) : Type 0 where
  pub called : (number place : ℕ) (event : StripeEvent) → number < config.stripes → slice_get (histories.stripes number) place ≡ Some event
      → (who_of event).caller ≡ caller → IsCalled calls number place event
  pub called_in_classes : (class : ClassNo) (place : ℕ) (event : ClassEvent) → IsClass (setting_of config) class
      → slice_get (histories.classes class) place ≡ Some event → (maker_of event).caller ≡ caller → WasCalled calls class event

-- what is known of a caller's calls: the histories have them in turn, each with all its events, then the beginning of the one that
-- failed if one did, and the stripes have no other commands of that caller. Each event of the caller is of a call of a history that
-- has just these, in turn
pub record AreItsCalls (config : Config) (caller : ℕ) (histories : Histories) (calls : List Exchange) (end : Option Failure) : Type 0 where
  pub stand : Stand (MakesOnly config histories) (HasSeen config histories) config histories caller calls end
  pub only : AreOnly config.stripes caller histories calls
  pub history : List CallEvent
  pub just : turns_of history ≡ turns_for calls end
  pub events : AreCalledBy config caller histories history

-- each of these calls is of this caller, in the turn of its place
pub record AreInTurn (caller : ℕ) (calls : List Exchange) : Type 0 where
  pub each : (turn : ℕ) (call : Exchange) → slice_get calls turn ≡ Some call → call.who ≡ record { caller = caller; turn = turn }

-- each event of each stripe and class is by one of the first so many callers
pub record AreByCallers (config : Config) (callers : ℕ) (histories : Histories) : Type 0 where
  pub at : (number place : ℕ) (event : StripeEvent) → number < config.stripes → slice_get (histories.stripes number) place ≡ Some event
      → (who_of event).caller < callers
  pub at_classes : (class : ClassNo) (place : ℕ) (event : ClassEvent) → IsClass (setting_of config) class
      → slice_get (histories.classes class) place ≡ Some event → (maker_of event).caller < callers

-- a pass agrees with the closed store: each history begins with what it has seen, and its caller's events are of its calls and in
-- its account
pub record IsCompared (pass : PassView) (final : FinalView) : Type 0 where
  pub stripes : IsBehindStripes pass.sight final.stripes
  pub classes : IsBehindClasses pass.sight final.classes
  pub own : AreItsOwn pass final.stripes
  pub own_in_classes : AreItsOwnInClasses pass final.classes
  pub account : IsAccounted pass final.stripes final.classes
