-- A stripe as contracts see it, and what its fields keep.
use Rattle.std.specs.Prelude.{ℕ, ◌≡◌, ◌<◌, ◌≤◌, ◌^◌, Bool, List, Option, length}
use Rattle.std.specs.List.{All}
use Rattle.mc_item.specs.{Cache.Cache, Stripe.cache_of, Stripe.IsLegal}
use Rattle.mc_item.specs.declared.{answer.Site.Site, item.Item.Item, stripe_event.StripeEvent.StripeEvent}

-- a stripe: its site (number, number of stripes, class sizes), its limit of events, whether it keeps them in memory, its history
-- and its room. The history is oldest first, and the room is how many more events take no memory
pub record Stripe : Type 0 where
  pub site : Site
  pub limit : ℕ
  pub keeps_events : Bool
  pub history : List StripeEvent
  pub room : ℕ

-- a stripe of these parts
abbrev pub stripe : Site → ℕ → Bool → List StripeEvent → ℕ → Stripe
stripe site limit keeps_events history room = record { site = site; limit = limit; keeps_events = keeps_events; history = history; room = room }

-- the cache that a stripe's history leaves
abbrev pub cache_now : Stripe → Cache
cache_now s = cache_of s.site s.history

-- the bounds of a stripe: its number is below the number of stripes (at most
-- 64), each class size is at most 2^20, and the limit of events at most 2^32
pub record HasBounds (site : Site) (limit : ℕ) : Type 0 where
  pub one_of : site.stripe < site.stripes
  pub few_stripes : site.stripes ≤ 64
  pub small_sizes : All (λ size. size ≤ 2 ^ 20) site.sizes
  pub few_events : limit ≤ 2 ^ 32

-- what a stripe's fields keep: the history is legal and within its limit, and
-- the items and the count of versions are those of the cache that it leaves
pub record IsKept (site : Site) (limit : ℕ) (history : List StripeEvent) (versions : ℕ) (items : List ℕ → Option Item) : Type 0 where
  pub legal : IsLegal site history
  pub items_are : (key : List ℕ) → items key ≡ (cache_of site history).items key
  pub versions_are : versions ≡ (cache_of site history).versions
  pub few_versions : versions ≤ length history
  pub within : length history ≤ limit
  pub bounds : HasBounds site limit
