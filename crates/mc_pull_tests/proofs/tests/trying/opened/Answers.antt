use Rattle.std.proofs.Common.{ap}
use Rattle.mc_item.specs.declared.answer.Site.{Site}
use Rattle.mc_pull_tests.proofs.MetLemmas.{met_opened}
use Rattle.mc_pull_tests.proofs.tests.trying.opened.Goals as goal

pub returns : goal.returns
returns g c =
    let stripe = c.new-stripe.ensures in
    record {
      met = met_opened c.in_ok-config.config c.in_ok-config.ensures.bounded c.new-stripe.result c.new-first.result c.new-second.result
          (record {
            number_is = ap (λ (t : Site). t.stripe) stripe.site;
            made_with = record { stripes = ap (λ (t : Site). t.stripes) stripe.site; sizes = ap (λ (t : Site). t.sizes) stripe.site; limit = stripe.limit; keeps_events = stripe.kept };
          })
          stripe.history c.new-first.ensures c.new-second.ensures;
    }
