-- A stripe and two classes whose histories agree, as commands are tried on them.
use Rattle.std.specs.Prelude.{◌≢◌}
use Rattle.mc_item.specs.declared.config.Config.{Config}
use Rattle.mc_segment.specs.ClassState.{ClassView}
use Rattle.mc_stripe.specs.StripeState.{Stripe}
use Rattle.mc_pull.specs.{Agreeing.AgreeNow, Lone.Serves, Question.IsClassOf}

-- all were made with this configuration, the stripe is the first, and each class agrees with it
pub record AreMet (config : Config) (s : Stripe) (first second : ClassView) : Type 0 where
  pub stripe : Serves 0 s config
  pub first_is : IsClassOf config first
  pub second_is : IsClassOf config second
  pub apart : first.number ≢ second.number
  pub first_agrees : AgreeNow first s
  pub second_agrees : AgreeNow second s
