-- Events of slab classes: which are of a call, at which moment, and that its caller's history has the call that made it (own).
use Rattle.std.specs.Prelude.{◌≡◌, ◌≢◌, ◌<◌, ◌+◌, ◌++◌, ℕ, List, [], ◌∷◌, Some, length, slice_get}
use Rattle.mc_item.specs.declared.{call_event.CallEvent.CallEvent, class_event.ClassEvent.ClassEvent, class_event.Limited.Limited, event.Event.Event}
use Rattle.mc_item.specs.declared.{item.ClassNo.ClassNo, item.Who.Who}
use Rattle.mc_item.specs.declared.call_event.CallEvent.TheVariants.{Answered, Asked, Crawled, Juggled, Limits}
use Rattle.mc_item.specs.declared.class_event.ClassEvent.TheVariants as events
use Rattle.mc_board.specs.{Accounts.maker_of, Histories.Grows}
use Rattle.mc_board.specs.declared.rule.Sight.{Sight}
use Rattle.mc_item.specs.declared.command.Command.{Command}
use Rattle.mc_pull.specs.{Growth.SuitsUpkeep, Suited.MayNeedChunk, Suited.SuitsCommand}
use Rattle.mc_store.specs.Callers.{IsBegun, IsBegunAs, asked_for, call_events, limits_of, turns_of}

-- no event of this history of a class is of this call
pub record HasNoneMadeBy (who : Who) (history : List ClassEvent) : Type 0 where
  pub each : (place : ℕ) (event : ClassEvent) → slice_get history place ≡ Some event → maker_of event ≢ who

-- if an event of a class has a moment, it is this one; a new limit is of a call that has no moment
abbrev pub IsTimed : ClassEvent → ℕ → Type 0
IsTimed (events.Linked e) moment = e.moment ≡ moment
IsTimed (events.Unlinked e) moment = Unit {0}
IsTimed (events.Shifted e) moment = e.moment ≡ moment
IsTimed (events.Evicted e) moment = Unit {0}
IsTimed (events.Reclaimed e) moment = e.moment ≡ moment
IsTimed (events.Surveyed e) moment = e.moment ≡ moment
IsTimed (events.Refused e) moment = Unit {0}
IsTimed (events.Limited e) moment = ⊥

-- an event of a class was made by this call, at this moment if it has one
abbrev pub IsOwnEvent : Who → ℕ → ClassEvent → Type 0
IsOwnEvent who moment e = (maker_of e ≡ who) × IsTimed e moment

-- each of these events was made by this call, at this moment if it has one
abbrev pub AreOwnEvents : Who → ℕ → List ClassEvent → Type 0
AreOwnEvents who moment [] = Unit {0}
AreOwnEvents who moment (e ∷ es) = IsOwnEvent who moment e × AreOwnEvents who moment es

-- a class's history gained only events of this call, at its end
pub record GainsOwn (who : Who) (moment : ℕ) (before after : List ClassEvent) : Type 0 where
  pub events : List ClassEvent
  pub history_is : after ≡ before ++ events
  pub each : AreOwnEvents who moment events

-- in a walk of this call what was seen only grew, and the class's history gained only events of the call
pub record WalksOwn (who : Who) (moment : ℕ) (before after : Sight) (history history_new : List ClassEvent) : Type 0 where
  pub sees : Grows before after
  pub gains : GainsOwn who moment history history_new

-- the event reclaims an entry
abbrev pub IsReclaimed : ClassEvent → Type 0
IsReclaimed (events.Reclaimed e) = Unit {0}
IsReclaimed (events.Linked e) = ⊥
IsReclaimed (events.Unlinked e) = ⊥
IsReclaimed (events.Shifted e) = ⊥
IsReclaimed (events.Evicted e) = ⊥
IsReclaimed (events.Surveyed e) = ⊥
IsReclaimed (events.Refused e) = ⊥
IsReclaimed (events.Limited e) = ⊥

-- a call may make this event of a class: a command in any class; juggling in its own class, as upkeep may; a crawl in its own class,
-- if the event reclaims an entry; an answer makes none; a call that sets a limit makes that alone (`IsLimitCalled`)
abbrev pub SuitsCall : ClassNo → ClassEvent → CallEvent → Type 0
SuitsCall class event (Asked asked) = SuitsCommand asked.command event
SuitsCall class event (Juggled worked) = (worked.class ≡ class) × SuitsUpkeep event
SuitsCall class event (Crawled worked) = (worked.class ≡ class) × IsReclaimed event
SuitsCall class event (Answered answered) = ⊥
SuitsCall class event (Limits limits) = ⊥

-- an event of a class was called: its caller's history has, in its turn, a call that may make it, at the event's moment (if any)
pub record IsClassCalled (calls : List CallEvent) (class : ClassNo) (event : ClassEvent) : Type 0 where
  pub moment : ℕ
  pub begun : IsBegun calls (maker_of event).turn moment
  pub timed : IsTimed event moment
  pub own : SuitsCall class event begun.call

-- a new limit of a class was called: its caller's history has, in its turn, the call that sets this limit of this class
pub record IsLimitCalled (calls : List CallEvent) (class : ClassNo) (e : Limited) : Type 0 where
  pub before : List CallEvent
  pub behind : List CallEvent
  pub split : calls ≡ before ++ limits_of class e.chunks ∷ behind
  pub turn_is : length (turns_of before) ≡ e.who.turn

-- an event of a class was called: a new limit as `IsLimitCalled` says, and each other event as `IsClassCalled` says
abbrev pub WasCalled : List CallEvent → ClassNo → ClassEvent → Type 0
WasCalled calls class (events.Linked e) = IsClassCalled calls class (events.Linked e)
WasCalled calls class (events.Unlinked e) = IsClassCalled calls class (events.Unlinked e)
WasCalled calls class (events.Shifted e) = IsClassCalled calls class (events.Shifted e)
WasCalled calls class (events.Evicted e) = IsClassCalled calls class (events.Evicted e)
WasCalled calls class (events.Reclaimed e) = IsClassCalled calls class (events.Reclaimed e)
WasCalled calls class (events.Surveyed e) = IsClassCalled calls class (events.Surveyed e)
WasCalled calls class (events.Refused e) = IsClassCalled calls class (events.Refused e)
WasCalled calls class (events.Limited e) = IsLimitCalled calls class e

-- a caller's history has, in this turn, the call for a command that may need a chunk
pub record IsBegunForChunk (calls : List CallEvent) (turn : ℕ) : Type 0 where
  pub command : Command
  pub needs : MayNeedChunk command
  pub moment : ℕ
  pub begun : IsBegunAs calls turn moment (asked_for command moment)

-- each event of a class's history was called by one of so many callers, in what was seen of that caller's history; on the board
-- the callers' histories come after so many others
pub record AreCalledInClass (others callers : ℕ) (class : ClassNo) (history : List ClassEvent) (seen : ℕ → List Event) : Type 0 where
  pub each : (place : ℕ) (event : ClassEvent) → slice_get history place ≡ Some event
      → ((maker_of event).caller < callers) × WasCalled (call_events (seen (others + (maker_of event).caller))) class event
