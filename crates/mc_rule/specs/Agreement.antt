-- When the whole histories of a stripe and of a slab class agree (this project's own).
use Rattle.std.specs.Prelude.{List}
use Rattle.mc_item.specs.declared.{answer.Site.Site, class_event.ClassEvent.ClassEvent, item.ClassNo.ClassNo, stripe_event.StripeEvent.StripeEvent}
use Rattle.mc_rule.specs.{Cited.IsSuited, Evidence.AreEvidence, Partners.ClearsOnce, Places.Each, Segment.Rule}

-- the histories of a stripe and of a class agree: they are evidence of each other, the items that the class's events refer to
-- suit them, and no mark is cleared twice
pub record Agree (site : Site) (rule : Rule) (class : ClassNo) (stripe : List StripeEvent) (history : List ClassEvent) : Type 0 where
  pub evidence : AreEvidence site rule class stripe history
  pub suited : Each (IsSuited site class stripe) history
  pub once : Each ClearsOnce history
