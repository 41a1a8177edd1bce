-- When the histories of all stripes and of all classes of a store are sound together.
use Rattle.std.specs.Prelude.{ℕ, ◌<◌, List, Option}
use Rattle.mc_item.specs.{Measure.stripe_of, Stripe.IsLegal}
use Rattle.mc_item.specs.declared.{class_event.ClassEvent.ClassEvent, item.ClassNo.ClassNo, item.Item.Item, stripe_event.StripeEvent.StripeEvent}
use Rattle.mc_rule.specs.{Cited.cited_in, Evidence.AreEvidence, Lawful.IsLawfulHistory, Partners.ClearsOnce, Places.Each}
use Rattle.mc_evidence.specs.Setting.{IsClass, Setting, site_in}

-- the item that a key's stripe held under the key when its history had this many events
abbrev pub cited_of : Setting → (ℕ → List StripeEvent) → List ℕ → ℕ → Option Item
cited_of setting stripes key at = cited_in (site_in setting (stripe_of key setting.stripes).0) (stripes (stripe_of key setting.stripes).0) key at

-- a store is sound: each stripe's history is legal, and each class's is lawful with the items that it cites and clears no mark
-- twice. A stripe's and a class's are always evidence of each other
pub record IsSoundStore (setting : Setting) (stripes : ℕ → List StripeEvent) (classes : ClassNo → List ClassEvent) : Type 0 where
  pub some : 0 < setting.stripes
  pub legal : (s : ℕ) → s < setting.stripes → IsLegal (site_in setting s) (stripes s)
  pub lawful : (class : ClassNo) → IsClass setting class → IsLawfulHistory class (setting.chunks class) setting.rule (cited_of setting stripes) (classes class)
  pub once : (class : ClassNo) → IsClass setting class → Each ClearsOnce (classes class)
  pub evidence : (s : ℕ) (class : ClassNo) → s < setting.stripes → IsClass setting class
      → AreEvidence (site_in setting s) setting.rule class (stripes s) (classes class)
