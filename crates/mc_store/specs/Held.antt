-- The classes that a command has locked, and one try on them (own).
use Rattle.std.specs.Prelude.{ℕ, ◌≡◌, ◌≤◌, ◌^◌, ◌++◌, List, Option, Some, None, IfSome, Result, IfOk, OnOk, OnErr, IsErrOf, length}
use Rattle.std.specs.{Sync.Mutex.mutex_guard_value, declared.sync.MutexGuard.MutexGuard}
use Rattle.mc_item.specs.{Command.key_of, Measure.stripe_of, Stripe.IsAlive}
use Rattle.mc_item.specs.declared.answer.Need.TheVariants as needs
use Rattle.mc_item.specs.declared.{command.Command.Command, config.Config.Config, fault.Fault.Fault, fault.Fault.TheVariants.HistoryFull, item.ClassNo.ClassNo}
use Rattle.mc_item.specs.declared.{reply.Room.Room, stripe_event.StripeEvent.StripeEvent}
use Rattle.mc_rule.specs.Lists.{IsFull}
use Rattle.mc_segment.specs.ClassState.{ClassView}
use Rattle.mc_board.specs.Histories.{Grows}
use Rattle.mc_board.specs.declared.rule.Sight.{Sight}
use Rattle.mc_stripe.specs.{StripeCalls.KeepsSite, StripeState.Stripe, StripeState.cache_now, Trying.item_of, Trying.row_at, Wanting.Holds, Wanting.IsWanting}
use Rattle.mc_stripe.specs.{Plan.visible_row, Wanting.classes_for}
use Rattle.mc_stripe.specs.declared.{wanting.Given.Given, wanting.Want.Want, trying.Turn.Turn}
use Rattle.mc_stripe.specs.declared.wanting.Want.TheVariants as wants
use Rattle.mc_pull.specs.declared.attempting.Tried.{Tried}
use Rattle.mc_pull.specs.declared.attempting.Tried.TheVariants as tried
use Rattle.mc_pull.specs.{Lone.AreMadeBy, Perform.call}
use Rattle.mc_store.specs.{Accounts.Enters, Accounts.IsOfCommand, Accounts.Stretch, Searches.IsSearchFor, Searches.IsSearchUpTo, Searches.searcher_at}
use Rattle.mc_store.specs.{Calls.IsRepliedAs, Commands.IsCut, Commands.walker_in, Earned.HasGivenUp, Earned.IsEarnedAt, Earned.IsEarnedIn}
use Rattle.mc_store.specs.{
  Full.HasSeenFull,
  Full.IsFullFor,
  Full.LacksEntries,
  Passes.CallerView,
  Passes.HasAsked,
  Performing.IsMadeOnStripe,
  Serving.IsShortFor,
}
use Rattle.mc_store.specs.{Sides.ClassSide, Sides.StripeSide, Sides.stripe_sight, Trying.StillTries, Trying.noted_on}
use Rattle.mc_pull.specs.declared.attempting.Replied.{Replied}

-- the number of a class
abbrev pub class_number : ClassSide → ClassNo
class_number c = c.class.number

-- the number of the class that a slot has locked, if it has one
abbrev pub class_held : Option (MutexGuard ClassSide) → Option ClassNo
class_held None = None
class_held (Some guard) = Some (class_number (mutex_guard_value guard))

-- a command's caller asked for it in this turn, at a moment of at most 2^62 seconds, and its key is of this stripe
pub record IsCallOn (config : Config) (s : Stripe) (caller : CallerView) (command : Command) (turn : Turn) : Type 0 where
  pub own : stripe_of (key_of command) config.stripes ≡ record { 0 = s.site.stripe }
  pub asked : HasAsked caller turn.who command turn.moment
  pub early : turn.moment ≤ 2 ^ 62

-- the item of a command's key isn't dead, and the command needs no other classes than these, for its new version and for its item
pub record Suffice (home other : Option ClassNo) (s : Stripe) (command : Command) (moment : ℕ) : Type 0 where
  pub alive : IsAlive (item_of s command) moment
  pub for_version : Holds home (classes_for (key_of command) (item_of s command) (row_at s command moment)).home
  pub for_item : Holds other (classes_for (key_of command) (item_of s command) (row_at s command moment)).other

-- a class is full with an unchanged history, as was seen, and no refusal is known; if that has no place left, this was seen
pub record IsStillFull (config : Config) (sight : Sight) (refused : Option ℕ) (v v_new : ClassView) : Type 0 where
  pub none : refused ≡ None
  pub was_full : IsFull v.chunks v.history
  pub full : IsFull v_new.chunks v_new.history
  pub history_is : v_new.history ≡ v.history
  pub number_is : v_new.number ≡ v.number
  pub seen : HasSeenFull config sight v_new.number
  pub short : v_new.max_events ≤ length v_new.history → IsShortFor config v_new.number sight

-- a command needs a new chunk of this class, and needs no other class than this and the one for its key's item
pub record WantsChunk (class : ClassNo) (other : Option ClassNo) (s : Stripe) (command : Command) (moment : ℕ) : Type 0 where
  pub suffice : Suffice (Some class) other s command moment
  pub fresh : (row_at s command moment).need ≡ needs.Fresh class

-- if the class of a new version noted a refusal, that was made after a search by this call that found no chunk
abbrev pub IsRefusedAt : Config → Stripe → Turn → List ℕ → ClassView → Option ℕ → Type 0
IsRefusedAt config s turn key v refused =
    IfSome refused (λ place. IsEarnedAt config (record { 0 = s.site.stripe }) v.number turn.who turn.moment key place v.history)

-- a command whose item isn't dead was made in a room, earned if it is a refusal, and its caller has noted the answer's place, and
-- entered its events
pub record IsMadeIn (config : Config) (own own_new : StripeSide) (caller caller_new : CallerView) (made : Command) (turn : Turn)
    (replied : Replied) : Type 0 where
  pub alive : IsAlive (item_of own.stripe made) turn.moment
  pub room : Room
  pub made_is : IsMadeOnStripe own.stripe own_new.stripe (call turn.who made turn.moment room) replied
  pub noted : StillTries config turn own own_new (noted_on own.stripe caller) caller_new
  pub earned : IsEarnedIn config own.stripe.site.stripe turn.who turn.moment (key_of made) own_new.sight room

-- what a command is given that has locked no class
abbrev pub nothing : Given
nothing = record { home = None; other = None }

-- what a command wants that has locked no class
abbrev pub WantsAlone : Stripe → Command → ℕ → Want → Type 0
WantsAlone s command moment want = IsWanting nothing (key_of command) (item_of s command) moment (row_at s command moment) want

module _ (config : Config) (s : Stripe) (own_new : StripeSide) (command : Command) (moment : ℕ) (home other : Option ClassNo) (AnyFull : Type 0) where
  -- what a command may still want that has locked these classes: the removal of its dead item, classes if these don't suffice, a
  -- chunk if `AnyFull`, or a place if a class's history lacks one for it
  abbrev pub MayWant : Want → Type 0
  MayWant wants.Room = AnyFull
  MayWant (wants.Place class) = LacksEntries config s own_new.sight command moment
  MayWant (wants.Burial link) = WantsAlone s command moment (wants.Burial link)
  MayWant (wants.Classes classes) = WantsAlone s command moment (wants.Classes classes) × (Suffice home other s command moment → ⊥)

-- the outcome of a try on the locked classes: the command was made, or nothing happened and it may want this
abbrev pub IsTriedOn : Config → (own own_new : StripeSide) (caller caller_new : CallerView) → Command → Turn → (home other : Option ClassNo) → Type 0
    → Tried → Type 0
IsTriedOn config own own_new caller caller_new command turn home other AnyFull (tried.Made replied) =
    IsMadeIn config own own_new caller caller_new command turn replied
IsTriedOn config own own_new caller caller_new command turn home other AnyFull (tried.Wants want) =
    (own_new.stripe.history ≡ own.stripe.history) × StillTries config turn own own_new caller caller_new
    × MayWant config own.stripe own_new command turn.moment home other AnyFull want

-- a stripe gained only events of the call's walker in this class
pub record IsWalked (config : Config) (turn : Turn) (class : ClassNo) (s s_new : Stripe) : Type 0 where
  pub walked : List StripeEvent
  pub each : AreMadeBy (walker_in config turn.who turn.moment class) walked
  pub history_is : s_new.history ≡ s.history ++ walked

-- a call has searched a class and found no chunk, for each key of the stripe whose item isn't dead
abbrev pub HasGivenUpAny : Config → Stripe → Turn → ClassView → Type 0
HasGivenUpAny config s turn v =
    (key : List ℕ) → stripe_of key config.stripes ≡ record { 0 = s.site.stripe } → IsAlive ((cache_now s).items key) turn.moment
    → HasGivenUp config (record { 0 = s.site.stripe }) v.number turn.who turn.moment key v.history

-- how a command ends under the lock of its stripe: it was answered, or it was broken off with at most what leads up to it;
-- `HistoryFull` means that a history lacks places for it; what the stripe saw only grew, and its caller's account gained only what
-- the command may make, with one search at most, by states after all that the stripe had and saw, which was whole if it was answered
pub record Ends (config : Config) (own own_new : StripeSide) (caller caller_new : CallerView) (command : Command) (turn : Turn)
    (result : Result Replied Fault) : Type 0 where
  pub replied : IfOk result (IsRepliedAs config turn.who command turn.moment own.stripe own_new.stripe own_new.sight caller.calls caller_new.calls)
  pub cut : OnErr result (IsCut config turn.who command turn.moment own.stripe own_new.stripe)
  pub unnoted : OnErr result (caller_new.calls ≡ caller.calls)
  pub number : caller_new.number ≡ caller.number
  pub sees : Grows (stripe_sight own) (stripe_sight own_new)
  pub stretch : Stretch
  pub enters : Enters (IsOfCommand config own.stripe command turn.moment stretch) turn.who.turn (stripe_sight own_new) caller.made caller_new.made
  pub search : OnOk result (IsSearchFor (searcher_at config own.stripe turn) (visible_row own.stripe command turn.moment).need (stripe_sight own) own_new.sight
      stretch)
  pub cut_search : OnErr result (IsSearchUpTo (searcher_at config own.stripe turn) (visible_row own.stripe command turn.moment).need (stripe_sight own)
      own_new.sight stretch)
  pub site : KeepsSite own.stripe own_new.stripe
  pub full : IsErrOf result HistoryFull → IsFullFor config own.stripe own_new.stripe own_new.sight command turn.moment
