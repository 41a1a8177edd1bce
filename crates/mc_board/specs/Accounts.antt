-- Accounts: which events each caller made on the locks of stripes and classes, in proofs alone (own).
use Rattle.std.specs.Prelude.{◌≡◌, ◌==◌, ℕ, ◌+◌, ◌≤◌, ◌<◌, List, [], ◌∷◌, ◌++◌, Option, Some, None, length, slice_get, if◌then◌else◌}
use mathlib.Core.List.{IsPrefix}
use Rattle.mc_item.specs.declared.{class_event.ClassEvent.ClassEvent, event.Event.Event, item.Who.Who, stripe_event.StripeEvent.StripeEvent}
use Rattle.mc_item.specs.declared.class_event.ClassEvent.TheVariants as classes
use Rattle.mc_item.specs.declared.event.Event.TheVariants.{Call, Class, Stripe}
use Rattle.mc_item.specs.declared.stripe_event.StripeEvent.TheVariants as stripes
use Rattle.mc_board.specs.declared.{rule.Account.Account, rule.Counts.Counts, rule.Owned.Owned, rule.Span.Span}

-- the lock of the first caller's history: those of callers come after those of stripes and classes
abbrev pub first_caller : Counts → ℕ
first_caller counts = counts.stripes + counts.classes

-- who made an event of a stripe
abbrev pub who_of : StripeEvent → Who
who_of (stripes.Did did) = did.who
who_of (stripes.Lost lost) = lost.who
who_of (stripes.Cooled cooled) = cooled.who

-- who made an event of a class
abbrev pub maker_of : ClassEvent → Who
maker_of (classes.Linked e) = e.who
maker_of (classes.Unlinked e) = e.who
maker_of (classes.Shifted e) = e.who
maker_of (classes.Evicted e) = e.who
maker_of (classes.Reclaimed e) = e.who
maker_of (classes.Surveyed e) = e.who
maker_of (classes.Refused e) = e.who
maker_of (classes.Limited e) = e.who

-- who made an event of a stripe or a class; an event of a caller's own history says nobody
abbrev pub maker_in : Event → Option Who
maker_in (Stripe e) = Some (who_of e)
maker_in (Class e) = Some (maker_of e)
maker_in (Call e) = None

-- each of these events is of this call
pub record AreBy (who : Who) (events : List Event) : Type 0 where
  pub each : (place : ℕ) (event : Event) → slice_get events place ≡ Some event → maker_in event ≡ Some who

-- the account has the event at this place of a lock's history, as made in this turn
pub record IsEntered (made : List Span) (turn lock place : ℕ) : Type 0 where
  pub index : ℕ
  pub span : Span
  pub there : slice_get made index ≡ Some span
  pub turn_is : span.turn ≡ turn
  pub lock_is : span.lock ≡ lock
  pub within : (span.from ≤ place) × (place < span.until)

-- a caller's account is whole: it has each event of these histories that the caller with its history on this lock made
pub record IsAccount (first lock : ℕ) (made : List Span) (histories : ℕ → List Event) : Type 0 where
  pub has : (at place : ℕ) (event : Event) (who : Who) → slice_get (histories at) place ≡ Some event → maker_in event ≡ Some who
      → first + who.caller ≡ lock → IsEntered made who.turn at place

-- an owner may add these events: the account that it was shown is their maker's, and has them
pub record AreShown (owned : Owned) (entries : List Event) : Type 0 where
  pub each : (place : ℕ) (event : Event) (who : Who) → slice_get entries place ≡ Some event → maker_in event ≡ Some who
      → (owned.shown.first + who.caller ≡ owned.shown.lock) × IsEntered owned.shown.made who.turn owned.lock (length owned.history + place)

-- a copy of an account is a beginning of what the account has become
pub record IsCopy (first : ℕ) (made : ℕ → List Span) (account : Account) : Type 0 where
  pub first_is : account.first ≡ first
  pub behind : IsPrefix account.made (made account.lock)

-- what a caller made, with one span more
abbrev pub with_span : List Span → Span → List Span
with_span made span = made ++ span ∷ []

-- what a caller made, with the events of a lock's history from one place up to another, if there are any
abbrev pub with_new : List Span → (turn lock from until : ℕ) → List Span
with_new made turn lock from until =
    if from == until then made else with_span made (record { turn = turn; lock = lock; from = from; until = until })
