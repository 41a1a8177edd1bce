-- A world after a step that a gate's stripe took part in.
use Rattle.std.proofs.Common.{◌∙◌, ap}
use Rattle.mc_item.specs.declared.config.Config.{Config}
use Rattle.mc_segment.specs.ClassState.{ClassView}
use Rattle.mc_stripe.specs.StripeState.{Stripe}
use Rattle.mc_pull.specs.{Growth.GainsEvents, Lone.Walked, Question.IsStripeOf, Walker.Walker}
use Rattle.mc_pull.proofs.GrowthLemmas.{class_later}
use Rattle.mc_testing.specs.World.{IsWorld}

-- the class has only grown, and the stripe was walked and is of the same configuration
pub world_later : (config : Config) (c d : ClassView) (s t : Stripe) (w : Walker) → IsWorld config c s → GainsEvents c d → Walked w s c.history t d.history
    → IsStripeOf config t → IsWorld config d t
world_later config c d s t w world grows walked made = record {
  class = class_later config c d world.class grows;
  stripe = record { number_is = ap (λ site. site.stripe) walked.grows.site.site ∙ world.stripe.number_is; made_with = made };
}
