-- A reply for want of a chunk is earned: the refusal that it names comes after a search by the same call (own).
use Rattle.std.specs.Prelude.{◌≡◌, ◌⊎◌, ℕ, List, false, length}
use Rattle.mc_item.specs.{Measure.stripe_of, Stripe.IsAlive}
use Rattle.mc_item.specs.declared.{answer.Site.Site, class_event.ClassEvent.ClassEvent, config.Config.Config, item.ClassNo.ClassNo, item.StripeNo.StripeNo}
use Rattle.mc_item.specs.declared.{item.Who.Who, lists.Seg.TheVariants.Hot, lists.Seg.TheVariants.Cold, reply.Room.Room, stripe_event.Did.Did}
use Rattle.mc_item.specs.declared.reply.Room.TheVariants as rooms
use Rattle.mc_rule.specs.Places.{Stands}
use Rattle.mc_evidence.specs.{Refusals.HasTried, Refusals.WasTried, Seen.classes_seen}
use Rattle.mc_board.specs.Histories.{list_at}
use Rattle.mc_board.specs.declared.rule.Sight.{Sight}
use Rattle.mc_segment.specs.{ClassCalls.refused_event, ClassState.opened}
use Rattle.mc_stripe.specs.StripeState.{Stripe, cache_now}
use Rattle.mc_pull.specs.{Rounds.rounds, Tried.IsNoneNear}
use Rattle.mc_store.specs.Searches.{IsSearchedWith}

-- a call for a key of a stripe has searched a class for a chunk: it evicted or moved an entry, or reclaimed one of another key;
-- or no key of the stripe is among the five entries nearest COLD's tail or the five nearest HOT's
abbrev pub HasSearched : ℕ → StripeNo → Who → List ℕ → List ClassEvent → Type 0
HasSearched stripes number who key history = HasTried history who key ⊎ (IsNoneNear stripes number Cold history × IsNoneNear stripes number Hot history)

-- a call has searched a class in this way for each key of a stripe whose item isn't dead at a moment
abbrev pub HasSearchedForAny : ℕ → Stripe → Who → ℕ → List ClassEvent → Type 0
HasSearchedForAny stripes s who moment history =
    (key : List ℕ) → stripe_of key stripes ≡ record { 0 = s.site.stripe } → IsAlive ((cache_now s).items key) moment
    → HasSearched stripes (record { 0 = s.site.stripe }) who key history

-- a call has gone through all rounds of a search for a chunk of a class, found none, and left this history. By which states of
-- stripes it judged isn't said here
pub record HasGoneThrough (config : Config) (number : StripeNo) (class : ClassNo) (who : Who) (moment : ℕ) (history : List ClassEvent) : Type 0 where
  pub before : List ClassEvent
  pub in_vain : IsSearchedWith (rounds (opened config class) who moment config) number (λ s. Unit {0}) before history false

-- a call for a key of a stripe has found no chunk of a class: it has searched, and gone through all rounds
abbrev pub HasGivenUp : Config → StripeNo → ClassNo → Who → ℕ → List ℕ → List ClassEvent → Type 0
HasGivenUp config number class who moment key history = HasSearched config.stripes number who key history
    × HasGoneThrough config number class who moment history

-- the event at a place of what is seen of a class's history is a refusal of this call, made after a search that found no chunk
pub record IsEarnedAt (config : Config) (number : StripeNo) (class : ClassNo) (who : Who) (moment : ℕ) (key : List ℕ) (place : ℕ) (seen : List ClassEvent) :
    Type 0 where
  pub before : List ClassEvent
  pub refused : Stands seen before (refused_event who)
  pub place_is : place ≡ length before
  pub searched : HasGivenUp config number class who moment key before

-- if a room is a refusal, its place has such an event, by what is seen of its class
abbrev pub IsEarnedIn : Config → ℕ → Who → ℕ → List ℕ → Sight → Room → Type 0
IsEarnedIn config number who moment key sight (rooms.Refused class place) =
    IsEarnedAt config (record { 0 = number }) class who moment key place (classes_seen config.stripes (list_at sight.seen) class)
IsEarnedIn config number who moment key sight (rooms.At link) = Unit {0}
IsEarnedIn config number who moment key sight rooms.Keep = Unit {0}

-- the event at a place of a class's history is a refusal of a command's call, made after all rounds of a search
pub record IsLastResort (config : Config) (number : StripeNo) (class : ClassNo) (place : ℕ) (history : List ClassEvent) (did : Did) : Type 0 where
  pub before : List ClassEvent
  pub refused : Stands history before (refused_event did.who)
  pub place_is : place ≡ length before
  pub through : HasGoneThrough config number class did.who did.moment before

-- a refusal that a command of a stripe names was made after its call had searched for a chunk and gone through all rounds, by
-- what is seen of its class
pub record IsEarned (config : Config) (site : Site) (sight : Sight) (did : Did) : Type 0 where
  pub tried : (class : ClassNo) → WasTried site class (classes_seen config.stripes (list_at sight.seen) class) did
  pub last : (class : ClassNo) (place : ℕ) → did.room ≡ rooms.Refused class place
      → IsLastResort config (record { 0 = site.stripe }) class place (classes_seen config.stripes (list_at sight.seen) class) did
