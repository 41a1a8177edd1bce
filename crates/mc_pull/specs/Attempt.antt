-- One try of a command on a stripe and the classes that it is lent (own).
use Rattle.std.specs.Prelude.{ℕ, ◌≡◌, ◌<◌, ◌≤◌, ◌+◌, ◌^◌, ◌⊎◌, true, List, [], ◌∷◌, Option, Some, None, IfSome, IsSomeAnd, length, slice_get}
use Rattle.mc_item.specs.{Command.key_of, Measure.stripe_of}
use Rattle.mc_item.specs.declared.class_event.ClassEvent.TheVariants as class_events
use Rattle.mc_item.specs.declared.{command.Command.Command, config.Config.Config, reply.Room.Room, item.Who.Who}
use Rattle.mc_item.specs.declared.reply.Room.TheVariants as rooms
use Rattle.mc_rule.specs.Lists as rules
use Rattle.mc_rule.specs.Lists.{entries_linked}
use Rattle.mc_segment.specs.ClassState.{ClassView, HasPlaces as ClassHasPlaces}
use Rattle.mc_stripe.specs.{Plan.woken_of, StripeState.Stripe, Trying.item_of, Trying.row_at, Wanting.IsWanting, Wanting.Uses}
use Rattle.mc_stripe.specs.declared.{fate.Fate.Fate, wanting.Given.Given, wanting.Home.Home, wanting.Other.Other, trying.Turn.Turn}
use Rattle.mc_stripe.specs.declared.fate.Fate.TheVariants as fates
use Rattle.mc_pull.specs.declared.{attempting.Replied.Replied, attempting.Tried.Tried}
use Rattle.mc_pull.specs.declared.attempting.Tried.TheVariants as tried
use Rattle.mc_pull.specs.{Agreeing.AgreeNow, Agreeing.KeepsAgreements, Lent.AreDistinct, Lent.OfEachClass, Perform.MayPerform, Perform.answer_to, Perform.call}
use Rattle.mc_pull.specs.{Parts.is_here, Parts.part_for, Parts.places_of, Performed.IsPerformed, Performed.IsUntouched, Sight.KeepsSights}

-- the class has a free chunk
abbrev pub HasFree : ClassView → Type 0
HasFree v = rules.HasFree v.chunks v.history

-- a class gives this room: its next link if a chunk is free, else the refusal that it noted of this call, or nothing if there is none
abbrev pub GivesHome : ClassView → Option ℕ → Who → Room → Type 0
GivesHome v refused who (rooms.At link) = (link ≡ record { class = v.number; number = entries_linked v.history }) × HasFree v
GivesHome v refused who (rooms.Refused class place) =
    (class ≡ v.number) × (refused ≡ Some place) × (slice_get v.history place ≡ Some (class_events.Refused (record { who = who }))) × (HasFree v → ⊥)
GivesHome v refused who rooms.Keep = (refused ≡ None) × (HasFree v → ⊥)

-- the class's history has places for this many more events: at most `most`, and fewer only if there are no more
pub record LeavesPlaces (most : ℕ) (v : ClassView) (places : ℕ) : Type 0 where
  pub fits : ClassHasPlaces v places
  pub few : places ≤ most
  pub all : places < most → v.max_events ≤ length v.history + places

-- what the class of a new version offers: a room, and places for at most two events
pub record OffersHome (v : ClassView) (refused : Option ℕ) (who : Who) (home : Home) : Type 0 where
  pub class_is : home.class ≡ v.number
  pub room : GivesHome v refused who home.room
  pub places : LeavesPlaces 2 v home.places

-- what the class of an item offers: places for at most one event
pub record OffersOther (v : ClassView) (other : Other) : Type 0 where
  pub class_is : other.class ≡ v.number
  pub places : LeavesPlaces 1 v other.places

-- the fact holds of one of these classes
abbrev pub IsAny : (ClassView → Type 0) → List ClassView → Type 0
IsAny P [] = ⊥
IsAny P (v ∷ vs) = P v ⊎ IsAny P vs

-- what a command is given is offered by these classes, and each of them offers some of it
pub record IsOffered (given : Given) (refused : Option ℕ) (who : Who) (vs : List ClassView) : Type 0 where
  pub home : IfSome given.home (λ h. IsAny (λ v. OffersHome v refused who h) vs)
  pub other : IfSome given.other (λ o. IsAny (λ v. OffersOther v o) vs)
  pub each : OfEachClass (λ v. IsSomeAnd given.home (OffersHome v refused who) ⊎ IsSomeAnd given.other (OffersOther v)) vs

-- if a place is given, the class's history has a refusal of this call there
abbrev pub IsNoted : Option ℕ → Who → ClassView → Type 0
IsNoted refused who v = IfSome refused (λ place. slice_get v.history place ≡ Some (class_events.Refused (record { who = who })))

-- the class has room for up to two more events, as far as its history has places for them
abbrev pub IsReady : ClassView → Type 0
IsReady v = (n : ℕ) → n ≤ 2 → ClassHasPlaces v n → n ≤ v.room

-- a command may be tried: its key is of this stripe, and the classes differ, agree with the stripe and offer what it is given
pub record MayTryOn (s : Stripe) (vs : List ClassView) (command : Command) (turn : Turn) (given : Given) : Type 0 where
  pub stripe : stripe_of (key_of command) s.site.stripes ≡ record { 0 = s.site.stripe }
  pub moment : turn.moment ≤ 2 ^ 62
  pub distinct : AreDistinct vs
  pub met : OfEachClass (λ v. AgreeNow v s) vs
  pub refused : Option ℕ
  pub offered : IsOffered given refused turn.who vs

-- the cost of a new version, if there is one, is at most 2^20, which a class can hold
abbrev pub IsSmallFate : Fate → Type 0
IsSmallFate fates.Untouched = Unit {0}
IsSmallFate (fates.Renewed cost expiry old) = cost ≤ 2 ^ 20
IsSmallFate (fates.Goes link) = Unit {0}
IsSmallFate (fates.Woken link) = Unit {0}

-- the class has room for as many events as it offers
abbrev pub HasRoomFor : Given → ClassView → Type 0
HasRoomFor given v =
    IfSome given.home (λ h. h.class ≡ v.number → h.places ≤ v.room) × IfSome given.other (λ o. o.class ≡ v.number → o.places ≤ v.room)

-- a class may make its part of a command: a new entry finds a free chunk and isn't too large, and its events have places and room
pub record MayMakePart (v : ClassView) (key : List ℕ) (room : Room) (fate : Fate) : Type 0 where
  pub free : is_here v room ≡ true → HasFree v
  pub small : is_here v room ≡ true → IsSmallFate fate
  pub space : places_of (part_for v key room fate) ≤ v.room
  pub place : ClassHasPlaces v (places_of (part_for v key room fate))

-- a command was made in a room, of what it was given, as it may be made on these classes, with this reply and this link of the item
-- that its hit made ACTIVE, if it did
pub record IsMadeOn (config : Config) (s s_new : Stripe) (command : Command) (turn : Turn) (given : Given) (vs ws : List ClassView) (replied : Replied)
    : Type 0 where
  pub room : Room
  pub fate : Fate
  pub uses : Uses given (key_of command) (item_of s command) turn.moment (row_at s command turn.moment) room fate
  pub may : MayPerform config s (call turn.who command turn.moment room) vs
  pub reply_is : replied.reply ≡ (answer_to s (call turn.who command turn.moment room)).reply
  pub woken_is : replied.woken ≡ woken_of fate
  pub performed : IsPerformed s s_new (call turn.who command turn.moment room) vs ws
  pub agreement : KeepsAgreements (call turn.who command turn.moment room) s s_new vs ws
  pub sight : KeepsSights (call turn.who command turn.moment room) s s_new vs ws

-- what a try came to: the command was made, or it wants something and nothing happened
abbrev pub IsTriedBy : Config → (s s_new : Stripe) → Command → Turn → Given → (vs ws : List ClassView) → Tried → Type 0
IsTriedBy config s s_new command turn given vs ws (tried.Made replied) = IsMadeOn config s s_new command turn given vs ws replied
IsTriedBy config s s_new command turn given vs ws (tried.Wants want) =
    IsUntouched s s_new vs ws × IsWanting given (key_of command) (item_of s command) turn.moment (row_at s command turn.moment) want
