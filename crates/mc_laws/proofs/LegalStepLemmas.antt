-- A legal history with one event more, as a step.
use Rattle.std.proofs.Common.{List, [], ◌∷◌, ◌++◌}
use Rattle.mc_item.proofs.StripeLemmas.{IsLegal-push, cache_of-push}
use Rattle.mc_item.specs.{Cache.empty_cache, Stripe.IsLegal, Stripe.Steps, Stripe.cache_of}
use Rattle.mc_item.specs.declared.{answer.Site.Site, stripe_event.StripeEvent.StripeEvent}
use Rattle.mc_laws.proofs.EventLemmas.{legal_before, legal_on}

-- the last event of a legal history is a step
pub last_step : (site : Site) (history : List StripeEvent) (event : StripeEvent) → IsLegal site (history ++ event ∷ [])
    → IsLegal site history × Steps site history (cache_of site history) event (cache_of site (history ++ event ∷ []))
last_step site history event legal = (
  legal_before site empty_cache [] history (event ∷ []) legal,
  record { may = (legal_on site empty_cache [] history (event ∷ []) legal).0; leaves = cache_of-push site history event },
)

-- a step keeps a history legal
pub one_step_more : (site : Site) (history : List StripeEvent) (event : StripeEvent) → IsLegal site history
    → Steps site history (cache_of site history) event (cache_of site (history ++ event ∷ [])) → IsLegal site (history ++ event ∷ [])
one_step_more site history event legal step = IsLegal-push site history event legal step.may
