-- A stripe's history with one event more, and beginnings of it.
use Rattle.std.proofs.Common.{◌≡◌, ◌≤◌, List, [], ◌∷◌, ◌++◌, refl, sym, subst, append_assoc, append-nil, arith}
use Rattle.mc_item.specs.Cache.{Cache, empty_cache, versions_of}
use Rattle.mc_item.specs.Stripe.{cache_after, cache_from, cache_of, IsLegalFrom, IsLegal, MayHappen}
use Rattle.mc_item.specs.declared.{answer.Change.Change, answer.Site.Site, stripe_event.StripeEvent.StripeEvent}
use Rattle.mc_item.specs.declared.answer.Change.TheVariants.{Stays, Goes, Hit, Touched, Counted, Renewed}

-- one event more is applied last
pub cache_from-push : (site : Site) (cache : Cache) (es : List StripeEvent) (e : StripeEvent) → cache_from site cache (es ++ e ∷ []) ≡ cache_after site (cache_from site cache es) e
cache_from-push site cache [] e = refl
cache_from-push site cache (x ∷ es) e = cache_from-push site (cache_after site cache x) es e

-- the cache of a history with one event more
pub cache_of-push : (site : Site) (es : List StripeEvent) (e : StripeEvent) → cache_of site (es ++ e ∷ []) ≡ cache_after site (cache_of site es) e
cache_of-push site es e = cache_from-push site empty_cache es e

-- an event that may happen keeps events legal
pub IsLegalFrom-push : (site : Site) (cache : Cache) (before es : List StripeEvent) (e : StripeEvent) → IsLegalFrom site cache before es → MayHappen site (cache_from site cache es) (before ++ es) e
    → IsLegalFrom site cache before (es ++ e ∷ [])
IsLegalFrom-push site cache before [] e legal may =
    (subst (λ (b : List StripeEvent). MayHappen site cache b e) (append-nil before) may, tt)
IsLegalFrom-push site cache before (x ∷ es) e legal may =
    let here = subst (λ (b : List StripeEvent). MayHappen site (cache_from site (cache_after site cache x) es) b e) (sym (append_assoc before (x ∷ []) es)) may in
    (legal.0, IsLegalFrom-push site (cache_after site cache x) (before ++ x ∷ []) es e legal.1 here)

-- an event that may happen keeps a history legal
pub IsLegal-push : (site : Site) (es : List StripeEvent) (e : StripeEvent) → IsLegal site es → MayHappen site (cache_of site es) es e → IsLegal site (es ++ e ∷ [])
IsLegal-push site es e legal may = IsLegalFrom-push site empty_cache [] es e legal may

-- a change adds a version at the most
pub versions_of-few : (change : Change) → versions_of change ≤ 1
versions_of-few Stays = omega arith
versions_of-few Goes = omega arith
versions_of-few (Hit marks) = omega arith
versions_of-few (Touched expiry marks) = omega arith
versions_of-few (Counted value cas) = omega arith
versions_of-few (Renewed item) = omega arith
