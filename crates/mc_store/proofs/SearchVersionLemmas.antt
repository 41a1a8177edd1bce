-- A search adds no version.
use Rattle.std.proofs.Common.{◌≡◌, ◌++◌, ◌∷◌, [], ◌+◌, List, refl, sym, ap, ◌∙◌, arith, append-nil, append_assoc}
use Rattle.std.specs.Prelude.{Option, Some, None}
use Rattle.mc_item.specs.{Cache.Cache, Cache.versions_of, Stripe.cache_of, Stripe.cooled_change}
use Rattle.mc_item.specs.declared.{answer.Site.Site, item.Item.Item, stripe_event.StripeEvent.StripeEvent}
use Rattle.mc_item.specs.declared.stripe_event.StripeEvent.TheVariants as events
use Rattle.mc_item.proofs.StripeLemmas.{cache_of-push}
use Rattle.mc_evidence.specs.Losses.{AreNoCommands}

-- clearing a mark adds no version
cooled_adds : (found : Option Item) → versions_of (cooled_change found) ≡ 0
cooled_adds None = refl
cooled_adds (Some item) = refl

module _ (site : Site) where
  -- events without a command add no version
  pub versions_behind : (pre es : List StripeEvent) → AreNoCommands es → (cache_of site (pre ++ es)).versions ≡ (cache_of site pre).versions
  versions_behind pre [] none = ap (λ (h : List StripeEvent). (cache_of site h).versions) (append-nil pre)
  versions_behind pre (events.Did did ∷ es) none = absurd none
  versions_behind pre (events.Lost lost ∷ es) none =
      let later = versions_behind (pre ++ events.Lost lost ∷ []) es none in
      let one : (cache_of site pre).versions + 0 ≡ (cache_of site pre).versions = omega arith in
      sym (ap (λ (h : List StripeEvent). (cache_of site h).versions) (append_assoc pre (events.Lost lost ∷ []) es)) ∙ (later ∙ (ap (λ (c : Cache). c.versions) (cache_of-push site pre (events.Lost lost)) ∙ one))
  versions_behind pre (events.Cooled cooled ∷ es) none =
      let later = versions_behind (pre ++ events.Cooled cooled ∷ []) es none in
      let added = cooled_adds ((cache_of site pre).items cooled.key) in
      let one : (cache_of site pre).versions + versions_of (cooled_change ((cache_of site pre).items cooled.key)) ≡ (cache_of site pre).versions = omega (arith, added) in
      sym (ap (λ (h : List StripeEvent). (cache_of site h).versions) (append_assoc pre (events.Cooled cooled ∷ []) es)) ∙ (later ∙ (ap (λ (c : Cache). c.versions) (cache_of-push site pre (events.Cooled cooled)) ∙ one))
