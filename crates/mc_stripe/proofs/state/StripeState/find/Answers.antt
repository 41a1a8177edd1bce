use Rattle.std.proofs.Common.{ap, ◌∙◌}
use Rattle.mc_stripe.specs.StripeState.{Stripe, cache_now}
use Rattle.mc_stripe.proofs.state.StripeState.find.Goals as goal

pub returns : goal.returns
returns c =
    c.get.ensures.value ∙ c.self.invariant.items_are c.args.key.now ∙ ap (λ (s : Stripe). (cache_now s).items c.args.key.now) c.self.view_is
