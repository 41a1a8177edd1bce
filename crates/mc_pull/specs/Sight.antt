-- How steps on a class and a stripe keep the evidence in what is seen of other histories, which is a beginning of each. Other
-- classes still have the partners of the stripe's events. Other stripes still have the partners of the class's events, and the
-- items that those refer to.
use Rattle.std.specs.Prelude.{◌≡◌, ◌≢◌, List}
use Rattle.mc_item.specs.declared.{answer.Site.Site, class_event.ClassEvent.ClassEvent, item.ClassNo.ClassNo, stripe_event.StripeEvent.StripeEvent}
use Rattle.mc_rule.specs.{Cited.IsSuited, Evidence.IsBacked, Evidence.HasTrace, Places.Each, Segment.Rule}
use Rattle.mc_segment.specs.ClassState.{ClassView}
use Rattle.mc_stripe.specs.{StripeCalls.KeepsSite, StripeState.Stripe}
use Rattle.mc_pull.specs.{Agreeing.HasRefusal, Agreeing.IsApart, Agreeing.KeepsAgreement, Lent.EachPair, Perform.Call}

-- a class, as it is seen, still has the partners of all the stripe's events, if it had them before
abbrev pub TellsStill : Stripe → Stripe → Rule → ClassNo → List ClassEvent → Type 0
TellsStill s s_new rule class seen = Each (HasTrace s.site rule class seen) s.history → Each (HasTrace s.site rule class seen) s_new.history

-- any stripe but this one, as it is seen, still has the partners of all the class's events, if it had them before
abbrev pub BacksStill : Site → ClassView → ClassView → Type 0
BacksStill but c c_new =
    (site : Site) (seen : List StripeEvent) → site.stripes ≡ but.stripes → site.stripe ≢ but.stripe
    → Each (IsBacked site c.rule c.number seen) c.history → Each (IsBacked site c.rule c.number seen) c_new.history

-- any stripe but this one, as it is seen, still has the items that the class's events refer to, if it had them before
abbrev pub SuitsStill : Site → ClassView → ClassView → Type 0
SuitsStill but c c_new =
    (site : Site) (seen : List StripeEvent) → site.stripes ≡ but.stripes → site.stripe ≢ but.stripe
    → Each (IsSuited site c.number seen) c.history → Each (IsSuited site c.number seen) c_new.history

-- a step on a class and a stripe keeps the evidence in all other classes and stripes, as they are seen
pub record KeepsSight (c c_new : ClassView) (s s_new : Stripe) : Type 0 where
  pub told : (other : ClassNo) (rule : Rule) (seen : List ClassEvent) → other ≢ c.number → TellsStill s s_new rule other seen
  pub backed : BacksStill s.site c c_new
  pub suited : SuitsStill s.site c c_new

-- a step on a class and a stripe leaves the stripe's site as it is, and keeps agreement and evidence
pub record KeepsPartners (c c_new : ClassView) (s s_new : Stripe) : Type 0 where
  pub site : KeepsSite s s_new
  pub agreement : KeepsAgreement c c_new s s_new
  pub sight : KeepsSight c c_new s s_new

-- a call keeps the evidence in all other stripes, and in each class not lent to it that has the refusal its room may name
pub record KeepsSights (c : Call) (s s_new : Stripe) (vs ws : List ClassView) : Type 0 where
  pub told : (other : ClassNo) (rule : Rule) (seen : List ClassEvent) → IsApart other vs → HasRefusal c.who c.room other seen
      → TellsStill s s_new rule other seen
  pub backed : EachPair (BacksStill s.site) vs ws
  pub suited : EachPair (SuitsStill s.site) vs ws
