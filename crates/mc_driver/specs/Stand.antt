-- A caller's calls in the histories of a store (own). Each is there after all that the caller had seen by then, with all events that
-- it made, and the stripes have no other commands of that caller. The last one may have broken off.
use Rattle.std.specs.Prelude.{ℕ, ◌≡◌, ◌<◌, ◌≤◌, ◌+◌, ◌++◌, Bool, false, List, [], ◌∷◌, Option, Some, None, length, nat_eq, slice_get}
use Rattle.std.specs.List.{filter}
use mathlib.Core.List.{IsPrefix}
use Rattle.mc_item.specs.{Command.key_of, Measure.stripe_of}
use Rattle.mc_item.specs.declared.{class_event.ClassEvent.ClassEvent, command.Command.Command, config.Config.Config, item.ClassNo.ClassNo, item.Who.Who}
use Rattle.mc_item.specs.declared.{fault.Fault.Fault, fault.Fault.TheVariants.HistoryFull}
use Rattle.mc_item.specs.declared.{event.Event.Event, event.Event.TheVariants.Class, event.Event.TheVariants.Stripe, stripe_event.StripeEvent.StripeEvent}
use Rattle.mc_board.specs.Accounts.{maker_of, who_of}
use Rattle.mc_board.specs.{Histories.list_at}
use Rattle.mc_board.specs.declared.rule.Sight.{Sight}
use Rattle.mc_evidence.specs.{Locks.ClassKeeps, Locks.StripeKeeps, Seen.classes_seen, Seen.stripes_seen, Setting.IsClass}
use Rattle.mc_proto.specs.Answers.{Answer, Counted, Limited, Moved, Replied}
use Rattle.mc_script.specs.Exchanges.{Asks, Begun, Crawls, Exchange, Failure, Juggles, Limits, ScriptCall, Unbegun}
use Rattle.mc_store.specs.{Accounts.IsOfStretch, Accounts.IsOfStretches, Full.IsFullFor, Full.LacksPlaces, Locked.class_lock, Locked.setting_of}
use Rattle.mc_store.specs.{Serving.IsShortFor, Sides.class_told, Sides.stripe_told}
use Rattle.mc_driver.specs.Cut.{NotesCommandCut, NotesCrawlingCut, NotesJugglingCut}
use Rattle.mc_driver.specs.Noted.{IsOfPart, NotesCommand, NotesCrawling, NotesJuggling, NotesLimit, exchanges_in, stripe_with}

-- the histories of a store: of its stripes, numbered from 0, and of its slab classes, numbered from 1
pub record Histories : Type 0 where
  pub stripes : ℕ → List StripeEvent
  pub classes : ClassNo → List ClassEvent

-- the histories that a caller has seen before its first call: all are empty
abbrev pub nothing_seen : Histories
nothing_seen = record { stripes = λ number. []; classes = λ class. [] }

-- the histories of a store, as far as a token has seen them
abbrev pub histories_seen : Config → Sight → Histories
histories_seen config sight =
    record { stripes = stripes_seen (list_at sight.seen); classes = classes_seen config.stripes (list_at sight.seen) }

-- each stripe's and each class's old history is a beginning of its new one
pub record Grow (config : Config) (old new : Histories) : Type 0 where
  pub stripes : (number : ℕ) → number < config.stripes → IsPrefix (old.stripes number) (new.stripes number)
  pub classes : (number : ClassNo) → IsClass (setting_of config) number → IsPrefix (old.classes number) (new.classes number)

-- what a token has seen of each stripe and each class is a beginning of its history
pub record HasSeen (config : Config) (histories : Histories) (sight : Sight) : Type 0 where
  pub stripes : (number : ℕ) → number < config.stripes → IsPrefix (list_at sight.seen number) (stripe_told (histories.stripes number))
  pub classes : (class : ClassNo) → IsClass (setting_of config) class
      → IsPrefix (list_at sight.seen (class_lock config class)) (class_told (histories.classes class))

-- the number of the stripe that has a command's key, among so many stripes
abbrev pub stripe_number : ℕ → Command → ℕ
stripe_number stripes command = (stripe_of (key_of command) stripes).0

-- the stripe or slab class that a call works on exists
abbrev pub IsPlaced : Config → ScriptCall → Type 0
IsPlaced config (Asks command) = stripe_number config.stripes command < config.stripes
IsPlaced config (Juggles class) = IsClass (setting_of config) class
IsPlaced config (Crawls class) = IsClass (setting_of config) class
IsPlaced config (Limits class n) = IsClass (setting_of config) class

-- each event of this call in the histories suits, at its place under its lock: a stripe's number, or for a class one after those
pub record MakesOnly (config : Config) (histories : Histories) (who : Who) (Suits : (lock place : ℕ) → Event → Type 0) : Type 0 where
  pub stripes : (number place : ℕ) (event : StripeEvent) → number < config.stripes → slice_get (histories.stripes number) place ≡ Some event
      → who_of event ≡ who → Suits number place (Stripe event)
  pub classes : (class : ClassNo) (place : ℕ) (event : ClassEvent) → IsClass (setting_of config) class
      → slice_get (histories.classes class) place ≡ Some event → maker_of event ≡ who → Suits (class_lock config class) place (Class event)

-- the history that this call is in is legal or lawful, and the other histories have the partner of each of its events
abbrev pub HasEvidence : Config → Histories → ScriptCall → Type 0
HasEvidence config reached (Asks command) =
    let number = stripe_number config.stripes command in
    StripeKeeps (setting_of config) number (reached.stripes number) reached.classes
HasEvidence config reached (Juggles class) = ClassKeeps (setting_of config) class (reached.classes class) reached.stripes
HasEvidence config reached (Crawls class) = ClassKeeps (setting_of config) class (reached.classes class) reached.stripes
HasEvidence config reached (Limits class n) = ClassKeeps (setting_of config) class (reached.classes class) reached.stripes

-- `makes` says of a call that it makes only such events
module _ (makes : Who → ((lock place : ℕ) → Event → Type 0) → Type 0) where
  -- the histories have this call with its answer after what was seen: a command in its stripe's, other calls in their class's. The
  -- call makes only such events: juggling those of its stretch of the class, a crawl those of its links, both others of stripes
  abbrev pub StandsAs : Config → Histories → Histories → Who → ℕ → ScriptCall → Answer → Type 0
  StandsAs config seen histories who moment (Asks command) (Replied reply) =
      let number = stripe_number config.stripes command in
      (noted : NotesCommand config number seen.stripes histories.stripes histories.classes who command moment reply)
      × makes who (IsOfPart config number command moment noted.older (length (noted.older ++ noted.made) + 1) noted.stretch)
  StandsAs config seen histories who moment (Juggles class) (Moved moves) =
      (noted : NotesJuggling config seen.stripes histories.stripes (seen.classes class) (histories.classes class) who class moment moves)
      × makes who (IsOfStretch config class (record { from = length noted.before; until = length ((noted.before ++ noted.advances) ++ noted.own) }))
  StandsAs config seen histories who moment (Crawls class) (Counted histogram) =
      (noted : NotesCrawling config seen.stripes histories.stripes (seen.classes class) (histories.classes class) who class moment histogram)
      × makes who (IsOfStretches config class noted.stretches)
  StandsAs config seen histories who moment (Limits class n) Limited =
      (noted : NotesLimit (seen.classes class) (histories.classes class) who n)
      × makes who (λ lock place event. (lock ≡ class_lock config class) × (place ≡ length noted.before))
  StandsAs config seen histories who moment call answer = ⊥

  -- the histories have this exchange after what was seen: with its caller and turn, its call, its moment and its answer (for a new
  -- limit no moment is noted)
  abbrev pub StandsBehind : Config → Histories → Histories → Exchange → Type 0
  StandsBehind config seen histories call = StandsAs config seen histories call.who call.moment call.call call.answer

  -- this call took its caller from the histories seen to those reached, which have it after what was seen, and the evidence for it
  pub record StandsBetween (config : Config) (seen reached : Histories) (call : Exchange) : Type 0 where
    pub grew : Grow config seen reached
    pub placed : IsPlaced config call.call
    pub stands : StandsBehind config seen reached call
    pub evidence : HasEvidence config reached call.call

  -- a call comes next after what was seen, and the later calls come after what its caller has reached by it
  pub record StandsNext (config : Config) (seen : Histories) (call : Exchange) (later : Histories → Type 0) : Type 0 where
    pub reached : Histories
    pub between : StandsBetween config seen reached call
    pub behind : later reached

  -- these calls stand in turn: the first after what was seen, each other after all that the caller reached before it, and then `end`
  -- holds of what the last one reached
  abbrev pub StandFrom : Config → Histories → List Exchange → (Histories → Type 0) → Type 0
  StandFrom config seen [] end = end seen
  StandFrom config seen (call ∷ calls) end = StandsNext config seen call (λ reached. StandFrom config reached calls end)

-- and `Saw` of a token that its caller had it
module _ (makes : Who → ((lock place : ℕ) → Event → Type 0) → Type 0) (Saw : Sight → Type 0) where
  -- the histories have the beginning of this call after what was seen: of a command in its stripe's, of juggling and a crawl in their
  -- class's. The call makes only events of that beginning, and one that sets a limit makes none. If this fault is `HistoryFull`, a history
  -- was too full for the call, by what its caller had seen of it
  abbrev pub BreaksOffAs : Config → Histories → Histories → Who → ℕ → ScriptCall → Fault → Type 0
  BreaksOffAs config seen histories who moment (Asks command) fault =
      let number = stripe_number config.stripes command in
      (noted : NotesCommandCut config number seen.stripes histories.stripes histories.classes who command moment)
      × makes who (IsOfPart config number command moment noted.older (length (noted.older ++ noted.made)) noted.stretch)
      × (fault ≡ HistoryFull → (sight : Sight) × Saw sight
      × IsFullFor config (stripe_with config number noted.older) (stripe_with config number (noted.older ++ noted.made)) sight command moment)
  BreaksOffAs config seen histories who moment (Juggles class) fault =
      (noted : NotesJugglingCut config seen.stripes histories.stripes (seen.classes class) (histories.classes class) who class moment)
      × makes who (IsOfStretch config class (record { from = 0; until = length noted.after }))
      × (fault ≡ HistoryFull → (sight : Sight) × Saw sight × IsShortFor config class sight)
  BreaksOffAs config seen histories who moment (Crawls class) fault =
      (noted : NotesCrawlingCut config seen.stripes histories.stripes (seen.classes class) (histories.classes class) who class moment)
      × makes who (IsOfStretches config class noted.stretches)
      × (fault ≡ HistoryFull → (sight : Sight) × Saw sight × IsShortFor config class sight)
  BreaksOffAs config seen histories who moment (Limits class n) fault =
      makes who (λ lock place event. ⊥) × (fault ≡ HistoryFull → (sight : Sight) × Saw sight × LacksPlaces config sight class 1)

  -- a call was begun after what was seen, and this fault broke it off: the histories have grown since, and have its beginning
  pub record BreaksOffAfter (config : Config) (seen histories : Histories) (who : Who) (call : ScriptCall) (moment : ℕ) (fault : Fault) : Type 0 where
    pub grew : Grow config seen histories
    pub placed : IsPlaced config call
    pub left : BreaksOffAs config seen histories who moment call fault

  -- what the histories have after a caller's answered calls, by what these have reached: they have grown since, and have the call of
  -- the next turn that failed, if one did. One that failed with `HistoryFull` before it began came after as many calls as a caller may make
  abbrev pub StandsLast : Config → Histories → Who → Option Failure → Histories → Type 0
  StandsLast config histories who None reached = Grow config reached histories
  StandsLast config histories who (Some (Unbegun fault)) reached = Grow config reached histories × (fault ≡ HistoryFull → config.max_events ≤ who.turn)
  StandsLast config histories who (Some (Begun call moment fault)) reached = BreaksOffAfter config reached histories who call moment fault

  -- the histories have these calls of this caller in turn, and then the one that failed, if one did
  abbrev pub Stand : Config → Histories → ℕ → List Exchange → Option Failure → Type 0
  Stand config histories caller calls end =
      StandFrom makes config nothing_seen calls (StandsLast config histories (record { caller = caller; turn = length calls }) end)

-- the histories have this exchange at any place, and no other events of its call
abbrev pub StandsAnywhere : Config → Histories → Exchange → Type 0
StandsAnywhere config histories call = StandsBehind (MakesOnly config histories) config nothing_seen histories call

-- whether a call is a command on this stripe, among so many stripes
abbrev pub is_command_at : ℕ → ℕ → ScriptCall → Bool
is_command_at stripes number (Asks command) = nat_eq (stripe_number stripes command) number
is_command_at stripes number (Juggles class) = false
is_command_at stripes number (Crawls class) = false
is_command_at stripes number (Limits class n) = false

-- the calls among these that are commands on one stripe, among so many stripes, in order
abbrev pub calls_at : ℕ → ℕ → List Exchange → List Exchange
calls_at stripes number calls = filter (λ call. is_command_at stripes number call.call) calls

-- the calls of one caller that a stripe's history notes, oldest first
abbrev pub calls_by : ℕ → List StripeEvent → List Exchange
calls_by caller history = filter (λ call. nat_eq call.who.caller caller) (exchanges_in history)

-- each stripe's history notes, of this caller, just those of these calls that are commands on that stripe
pub record AreOnly (stripes caller : ℕ) (histories : Histories) (calls : List Exchange) : Type 0 where
  pub at : (number : ℕ) → number < stripes → calls_by caller (histories.stripes number) ≡ calls_at stripes number calls
