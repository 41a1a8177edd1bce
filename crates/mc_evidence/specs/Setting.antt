-- What is fixed for a store: its stripes, its classes, and their rule.
use Rattle.std.specs.Prelude.{ℕ, ◌<◌, ◌≤◌, List, length}
use Rattle.mc_item.specs.declared.{answer.Site.Site, item.ClassNo.ClassNo}
use Rattle.mc_rule.specs.Segment.{Rule}

-- a store's number of stripes, the sizes of its classes, the rule of its segments, and the limit of chunks with which each class
-- opens
pub record Setting : Type 0 where
  pub stripes : ℕ
  pub sizes : List ℕ
  pub rule : Rule
  pub chunks : ClassNo → ℕ

-- the site of a stripe: its number, the number of stripes, and the sizes of the classes
abbrev pub site_in : Setting → ℕ → Site
site_in setting s = record { stripe = s; stripes = setting.stripes; sizes = setting.sizes }

-- this is the number of one of the store's classes, which count from 1
abbrev pub IsClass : Setting → ClassNo → Type 0
IsClass setting class = (0 < class.0) × (class.0 ≤ length setting.sizes)
