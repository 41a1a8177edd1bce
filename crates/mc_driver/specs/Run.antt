-- Which runs are accepted, and the store that a run leaves.
use Rattle.std.specs.Prelude.{ℕ, ◌≡◌, ◌≤◌, ◌+◌, ◌-◌, List, [], ◌∷◌, Some, None, length, slice_get, slice_index}
use Rattle.mc_item.specs.{Config.fault_of, Stripe.IsLegal}
use Rattle.mc_item.specs.declared.{config.Config.Config, item.ClassNo.ClassNo}
use Rattle.mc_evidence.specs.{Setting.site_in, Sound.IsSoundStore}
use Rattle.mc_segment.specs.ClassState.{ClassView}
use Rattle.mc_stripe.specs.StripeState.{Stripe}
use Rattle.mc_pull.specs.Question.{IsClassOf}
use Rattle.mc_proto.specs.declared.request.Limits.{Limits}
use Rattle.mc_store.specs.Finals.{AreExactlyEntries, FinalView, class_histories, stripe_histories}
use Rattle.mc_store.specs.{Locked.setting_of, Sides.ClassSide, Sides.StripeSide}
use Rattle.mc_driver.specs.declared.fault.RunFault.{RunFault}
use Rattle.mc_driver.specs.declared.fault.RunFault.TheVariants as refusals
use Rattle.mc_driver.specs.Stand.{Histories}

-- what a reader of requests needs of a configuration: the size of the last slab class, and the number of classes
abbrev pub limits_of : Config → Limits
limits_of config = record { largest = slice_index config.sizes (length config.sizes - 1); classes = length config.sizes }

-- the configuration for so many scripts: a caller for each, one for the maintainer, and one for the crawler
abbrev pub with_callers : ℕ → Config → Config
with_callers scripts config = record config { callers = scripts + 2 }

-- so many scripts can run at once: 1 to 62
abbrev pub CanRunAtOnce : ℕ → Type 0
CanRunAtOnce scripts = (1 ≤ scripts) × (scripts ≤ 62)

-- the configuration is sound with the callers for so many scripts
abbrev pub IsRunnable : ℕ → Config → Type 0
IsRunnable scripts config = fault_of (with_callers scripts config) ≡ None

-- so many scripts can run at once, and the configuration is sound for them
abbrev pub IsAccepted : ℕ → Config → Type 0
IsAccepted scripts config = CanRunAtOnce scripts × IsRunnable scripts config

-- why a run is refused: the number of scripts comes first, then the configuration, then memory
abbrev pub IsRefused : RunFault → ℕ → Config → Type 0
IsRefused refusals.Scripts scripts config = CanRunAtOnce scripts → ⊥
IsRefused refusals.Configuration scripts config = CanRunAtOnce scripts × (IsRunnable scripts config → ⊥)
IsRefused refusals.NoMemory scripts config = IsAccepted scripts config

-- how many callers make calls: one for each script, and with upkeep the maintainer and the crawler
abbrev pub callers_at_work : ℕ → List ℕ → ℕ
callers_at_work scripts [] = scripts
callers_at_work scripts (moment ∷ moments) = scripts + 2

-- this is the stripe with this number in a configuration, and its history is legal
pub record IsStripe (config : Config) (number : ℕ) (s : Stripe) : Type 0 where
  pub site : s.site ≡ site_in (setting_of config) number
  pub limit : s.limit ≡ config.max_events
  pub keeps_events : s.keeps_events ≡ config.keeps_events
  pub legal : IsLegal s.site s.history

-- this is the slab class with this number in a configuration
pub record IsClassNumbered (config : Config) (number : ClassNo) (c : ClassView) : Type 0 where
  pub number_is : c.number ≡ number
  pub made_with : IsClassOf config c

-- the histories that a run leaves
abbrev pub histories_left : FinalView → Histories
histories_left final = record { stripes = stripe_histories final.stripes; classes = class_histories final.classes }

-- a store of a configuration as a run leaves it: all stripes and classes in the order of their numbers, sound together. Each
-- history is legal or lawful, a stripe's and a class's are evidence of each other, and the items are exactly the entries
pub record IsStore (config : Config) (final : FinalView) : Type 0 where
  pub count : length final.stripes ≡ config.stripes
  pub each : (number : ℕ) (s : StripeSide) → slice_get final.stripes number ≡ Some s → IsStripe config number s.stripe
  pub classes : length final.classes ≡ length config.sizes
  pub each_class : (place : ℕ) (c : ClassSide) → slice_get final.classes place ≡ Some c → IsClassNumbered config (record { 0 = place + 1 }) c.class
  pub sound : IsSoundStore (setting_of config) (stripe_histories final.stripes) (class_histories final.classes)
  pub entries : AreExactlyEntries (setting_of config) (stripe_histories final.stripes) (class_histories final.classes)
