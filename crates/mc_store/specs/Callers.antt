-- Callers' histories: each event of a stripe was made by a call of its caller, whose history has that call (own).
-- On the board they come after those of stripes and classes, and only a caller's pass adds to the caller's.
-- A turn is the number of a call, from 0. A moment is a time in seconds. A place is the number of earlier events in a history.
use Rattle.std.specs.Prelude.{◌≡◌, ◌≢◌, ◌<◌, ◌+◌, ◌-◌, ◌++◌, ℕ, List, [], ◌∷◌, Option, Some, None, length, map, slice_get}
use Rattle.mc_item.specs.declared.{call_event.CallEvent.CallEvent, command.Command.Command, event.Event.Event, event.Event.TheVariants.Call}
use Rattle.mc_item.specs.declared.{event.Event.TheVariants.Class, event.Event.TheVariants.Stripe, item.ClassNo.ClassNo, item.Who.Who, stripe_event.Cause.Cause}
use Rattle.mc_item.specs.declared.{stripe_event.Cause.TheVariants.Expired, stripe_event.Cause.TheVariants.Taken, stripe_event.StripeEvent.StripeEvent}
use Rattle.mc_board.specs.Accounts.{who_of}
use Rattle.mc_store.specs.declared.placed.Placed.{Placed}
use Rattle.mc_item.specs.declared.call_event.CallEvent.TheVariants.{Answered, Asked, Crawled, Juggled, Limits}
use Rattle.mc_item.specs.declared.stripe_event.StripeEvent.TheVariants as events

-- a caller's history as the board has it
abbrev pub calls_told : List CallEvent → List Event
calls_told calls = map Call calls

-- the callers' events among these
abbrev pub call_events : List Event → List CallEvent
call_events [] = []
call_events (Stripe e ∷ es) = call_events es
call_events (Class e ∷ es) = call_events es
call_events (Call e ∷ es) = e ∷ call_events es

-- the event that a caller asked for this command at this moment
abbrev pub asked_for : Command → ℕ → CallEvent
asked_for command moment = Asked (record { command = command; moment = moment })

-- the event that a caller juggled this class at this moment
abbrev pub juggling_of : ClassNo → ℕ → CallEvent
juggling_of class moment = Juggled (record { class = class; moment = moment })

-- the event that a caller crawled this class at this moment
abbrev pub crawling_of : ClassNo → ℕ → CallEvent
crawling_of class moment = Crawled (record { class = class; moment = moment })

-- the event that a caller set this class's limit of chunks to this number; the call has no moment
abbrev pub limits_of : ClassNo → ℕ → CallEvent
limits_of class chunks = Limits (record { class = class; chunks = chunks })

-- the event that a caller's last command was answered, by the event at this place of this stripe's history
abbrev pub answered_at : ℕ → ℕ → CallEvent
answered_at stripe place = Answered (record { stripe = record { 0 = stripe }; place = place })

-- the calls of a caller's history, one for each turn: all events but the answers
abbrev pub turns_of : List CallEvent → List CallEvent
turns_of [] = []
turns_of (Asked asked ∷ calls) = Asked asked ∷ turns_of calls
turns_of (Juggled worked ∷ calls) = Juggled worked ∷ turns_of calls
turns_of (Crawled worked ∷ calls) = Crawled worked ∷ turns_of calls
turns_of (Answered answered ∷ calls) = turns_of calls
turns_of (Limits limits ∷ calls) = Limits limits ∷ turns_of calls

-- the moment of a call; an answer and a call that sets a limit have none
abbrev pub moment_of : CallEvent → Option ℕ
moment_of (Asked asked) = Some asked.moment
moment_of (Juggled worked) = Some worked.moment
moment_of (Crawled worked) = Some worked.moment
moment_of (Answered answered) = None
moment_of (Limits limits) = None

-- the answers among these events of a caller that has had so many turns before them: the turn that was answered, and where
abbrev pub placed_from : ℕ → List CallEvent → List Placed
placed_from turns [] = []
placed_from turns (Asked asked ∷ calls) = placed_from (turns + 1) calls
placed_from turns (Juggled worked ∷ calls) = placed_from (turns + 1) calls
placed_from turns (Crawled worked ∷ calls) = placed_from (turns + 1) calls
placed_from turns (Answered answered ∷ calls) = record { turn = turns - 1; stripe = answered.stripe; place = answered.place } ∷ placed_from turns calls
placed_from turns (Limits limits ∷ calls) = placed_from (turns + 1) calls

-- where a caller's commands were answered, in their order
abbrev pub placed_in : List CallEvent → List Placed
placed_in calls = placed_from 0 calls

-- a caller's command was answered here, as the caller's history says
abbrev pub IsPlace : List CallEvent → Placed → Type 0
IsPlace calls placed = (k : ℕ) × (slice_get (placed_in calls) k ≡ Some placed)

-- a caller's last event is a call that has a moment: it isn't answered yet
pub record IsUnanswered (calls : List CallEvent) : Type 0 where
  pub before : List CallEvent
  pub call : CallEvent
  pub moment : ℕ
  pub last : calls ≡ before ++ call ∷ []
  pub is_call : moment_of call ≡ Some moment

-- the first of these events isn't an answer
abbrev pub HasNoAnswer : List CallEvent → Type 0
HasNoAnswer [] = Unit {0}
HasNoAnswer (Answered answered ∷ calls) = ⊥
HasNoAnswer (Asked asked ∷ calls) = Unit {0}
HasNoAnswer (Juggled worked ∷ calls) = Unit {0}
HasNoAnswer (Crawled worked ∷ calls) = Unit {0}
HasNoAnswer (Limits limits ∷ calls) = Unit {0}

-- the event is the first of these
abbrev pub IsNext : CallEvent → List CallEvent → Type 0
IsNext call [] = ⊥
IsNext call (e ∷ es) = e ≡ call

-- a caller's history has a call in this turn, made at this moment
pub record IsBegun (calls : List CallEvent) (turn moment : ℕ) : Type 0 where
  pub before : List CallEvent
  pub call : CallEvent
  pub behind : List CallEvent
  pub split : calls ≡ before ++ call ∷ behind
  pub turn_is : length (turns_of before) ≡ turn
  pub handed : moment_of call ≡ Some moment

-- a caller's history has just this call in this turn, made at this moment
pub record IsBegunAs (calls : List CallEvent) (turn moment : ℕ) (call : CallEvent) : Type 0 where
  pub begun : IsBegun calls turn moment
  pub call_is : begun.call ≡ call

-- no event of this history of a stripe is of this call
pub record HasNoneOf (who : Who) (history : List StripeEvent) : Type 0 where
  pub each : (place : ℕ) (event : StripeEvent) → slice_get history place ≡ Some event → who_of event ≢ who

-- if the cause of a loss is that the item was dead, it was so at this moment
abbrev pub IsMomentOf : Cause → ℕ → Type 0
IsMomentOf (Expired dead) moment = dead ≡ moment
IsMomentOf (Taken class place) moment = Unit {0}

-- the event at a place of a stripe's history is of this call at this moment, which these events of its caller follow: an answered
-- command is the one that was asked for, and the caller's next event gives its place; an item lost as dead was so then
abbrev pub IsOf : ℕ → ℕ → StripeEvent → CallEvent → List CallEvent → ℕ → Type 0
IsOf stripe place (events.Did did) call behind moment = (call ≡ asked_for did.command did.moment) × IsNext (answered_at stripe place) behind
IsOf stripe place (events.Lost lost) call behind moment = IsMomentOf lost.cause moment
IsOf stripe place (events.Cooled cooled) call behind moment = Unit {0}

-- the event at a place of a stripe's history was called: its caller's history has, in its turn, the call that made it
pub record IsCalled (calls : List CallEvent) (stripe place : ℕ) (event : StripeEvent) : Type 0 where
  pub moment : ℕ
  pub begun : IsBegun calls (who_of event).turn moment
  pub own : IsOf stripe place event begun.call begun.behind moment

-- each event of a stripe's history was called by one of so many callers, in what was seen of that caller's history; on the board
-- the callers' histories come after so many others
pub record AreCalled (others callers stripe : ℕ) (history : List StripeEvent) (seen : ℕ → List Event) : Type 0 where
  pub each : (place : ℕ) (event : StripeEvent) → slice_get history place ≡ Some event
      → ((who_of event).caller < callers) × IsCalled (call_events (seen (others + (who_of event).caller))) stripe place event
