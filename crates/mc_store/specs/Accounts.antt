-- What a call enters in its caller's account: events of its own turn, which were seen, where the call may make them (own).
use Rattle.std.specs.Prelude.{◌≡◌, ◌<◌, ◌≤◌, ◌++◌, ◌⊎◌, ℕ, List, Some, IsSomeAnd, length, slice_get, true}
use Rattle.mc_item.specs.declared.{answer.Need.Need, class_event.ClassEvent.ClassEvent, command.Command.Command, config.Config.Config, event.Event.Event}
use Rattle.mc_item.specs.declared.{event.Event.TheVariants.Call, event.Event.TheVariants.Class, event.Event.TheVariants.Stripe, item.ClassNo.ClassNo}
use Rattle.mc_item.specs.declared.{item.Link.Link}
use Rattle.mc_item.specs.declared.answer.Need.TheVariants as needs
use Rattle.mc_item.specs.declared.class_event.ClassEvent.TheVariants as events
use Rattle.mc_board.specs.{Accounts.IsEntered, Histories.Grows, Histories.list_at}
use Rattle.mc_board.specs.declared.{rule.Sight.Sight, rule.Span.Span}
use Rattle.mc_rule.specs.Lawful.{names}
use Rattle.mc_segment.specs.ClassState.{ClassView}
use Rattle.mc_stripe.specs.{Plan.dead_link, Plan.visible_row, Trying.item_of}
use Rattle.mc_stripe.specs.StripeState as states
use Rattle.mc_store.specs.{Locked.class_lock, Locked.locks_for, Made.IsReclaimed, Passes.CallerView}

-- a caller's account gained only events of this turn; each was seen by now, and is one that the call may make at its place
pub record Enters (Suits : (lock place : ℕ) → Event → Type 0) (turn : ℕ) (after : Sight) (made made_new : List Span) : Type 0 where
  pub spans : List Span
  pub made_is : made_new ≡ made ++ spans
  pub turns : (i : ℕ) (span : Span) → slice_get spans i ≡ Some span → span.turn ≡ turn
  pub each : (lock place : ℕ) → IsEntered spans turn lock place → IsSomeAnd (slice_get (list_at after.seen lock) place) (Suits lock place)

-- the lock is a class's
abbrev pub IsClassLock : Config → ℕ → Type 0
IsClassLock config lock = (config.stripes ≤ lock) × (lock < locks_for config)

-- a class's event follows its item: the entry came or left as the item did
abbrev pub FollowsItem : ClassEvent → Type 0
FollowsItem (events.Linked e) = Unit {0}
FollowsItem (events.Unlinked e) = Unit {0}
FollowsItem (events.Reclaimed e) = ⊥
FollowsItem (events.Shifted e) = ⊥
FollowsItem (events.Evicted e) = ⊥
FollowsItem (events.Surveyed e) = ⊥
FollowsItem (events.Refused e) = ⊥
FollowsItem (events.Limited e) = ⊥

-- a class's event removed the entry of this number, whose item was dead
abbrev pub RemovesDead : ℕ → ClassEvent → Type 0
RemovesDead number e = IsReclaimed e × (names number e ≡ true)

-- the event is a class's, of which `P` holds
abbrev pub IsInClass : (ClassEvent → Type 0) → Event → Type 0
IsInClass P (Class e) = P e
IsInClass P (Stripe e) = ⊥
IsInClass P (Call e) = ⊥

-- what a walk in a class may make: events of the class, and of any stripe
abbrev pub IsOfWalk : Config → ClassNo → (lock place : ℕ) → Event → Type 0
IsOfWalk config class lock place event = (lock ≡ class_lock config class) ⊎ (lock < config.stripes)

-- places of a class's history, from one up to another
pub record Stretch : Type 0 where
  pub from : ℕ
  pub until : ℕ

-- the place is in the stretch
abbrev pub IsWithin : Stretch → ℕ → Type 0
IsWithin stretch place = (stretch.from ≤ place) × (place < stretch.until)

-- the places that a class's history gained
abbrev pub stretch_of : (c c_new : ClassView) → Stretch
stretch_of c c_new = record { from = length c.history; until = length c_new.history }

-- what a search in a class may make: events of the class in this stretch of its history, and of any stripe
abbrev pub IsOfStretch : Config → ClassNo → Stretch → (lock place : ℕ) → Event → Type 0
IsOfStretch config class stretch lock place event =
    ((lock ≡ class_lock config class) × IsWithin stretch place) ⊎ (lock < config.stripes)

-- what the crawls of links may make: events of the class in these stretches of its history, and of any stripe
abbrev pub IsOfStretches : Config → ClassNo → List Stretch → (lock place : ℕ) → Event → Type 0
IsOfStretches config class stretches lock place event =
    ((lock ≡ class_lock config class) × ((k : ℕ) × IsSomeAnd (slice_get stretches k) (λ stretch. IsWithin stretch place))) ⊎ (lock < config.stripes)

-- what a command may make beside a burial and a search: events of its stripe, and of classes only those that follow their items
abbrev pub IsOfTry : Config → ℕ → (lock place : ℕ) → Event → Type 0
IsOfTry config number lock place event = (lock ≡ number) ⊎ (IsClassLock config lock × IsInClass FollowsItem event)

-- what the burial of a dead item may make, given its link: events of its stripe, and in its class that its entry is removed
abbrev pub IsOfBurial : Config → ℕ → Link → (lock place : ℕ) → Event → Type 0
IsOfBurial config number link lock place event =
    (lock ≡ number) ⊎ ((lock ≡ class_lock config link.class) × IsInClass (RemovesDead link.number) event)

-- what a search for a chunk may make: if a new chunk of a class is needed, what a search in this stretch may make, and else nothing
abbrev pub IsOfSearch : Config → Need → Stretch → (lock place : ℕ) → Event → Type 0
IsOfSearch config (needs.Fresh class) stretch lock place event = IsOfStretch config class stretch lock place event
IsOfSearch config needs.Nothing stretch lock place event = ⊥
IsOfSearch config needs.Same stretch lock place event = ⊥
IsOfSearch config needs.TooLarge stretch lock place event = ⊥

-- what a command on a stripe may make: its own, the burial of its key's item if that is dead, and a search in this stretch for
-- its chunk
abbrev pub IsOfCommand : Config → states.Stripe → Command → ℕ → Stretch → (lock place : ℕ) → Event → Type 0
IsOfCommand config s command moment stretch lock place event =
    IsOfTry config s.site.stripe lock place event
    ⊎ (IsSomeAnd (dead_link (item_of s command) moment) (λ link. IsOfBurial config s.site.stripe link lock place event)
    ⊎ IsOfSearch config (visible_row s command moment).need stretch lock place event)

-- a call of this caller goes on: its number and calls are as they were, what was seen only grew, and its account gained only such
-- events
pub record StillCalls (Suits : (lock place : ℕ) → Event → Type 0) (turn : ℕ) (before after : Sight) (caller caller_new : CallerView) : Type 0 where
  pub number_is : caller_new.number ≡ caller.number
  pub calls_are : caller_new.calls ≡ caller.calls
  pub sees : Grows before after
  pub enters : Enters Suits turn after caller.made caller_new.made
