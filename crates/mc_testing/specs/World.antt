-- A store of one stripe and one class, which tests lend to walks, commands and crawls.
use Rattle.mc_item.specs.declared.config.Config.{Config}
use Rattle.mc_segment.specs.ClassState.{ClassView}
use Rattle.mc_stripe.specs.StripeState.{Stripe}
use Rattle.mc_pull.specs.{Lone.Serves, Question.IsClassOf}

-- the class and the stripe were made with this configuration, and the stripe is the first
pub record IsWorld (config : Config) (c : ClassView) (s : Stripe) : Type 0 where
  pub class : IsClassOf config c
  pub stripe : Serves 0 s config
