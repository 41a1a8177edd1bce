-- Evidence stays while the other history grows.
use Rattle.std.proofs.Common.{List, [], ◌∷◌, ◌++◌}
use Rattle.mc_item.specs.declared.{answer.Site.Site, class_event.ClassEvent.ClassEvent, item.ClassNo.ClassNo, stripe_event.Cause.Cause}
use Rattle.mc_item.specs.declared.{stripe_event.Cause.TheVariants.Expired, stripe_event.Cause.TheVariants.Taken, stripe_event.Did.Did, stripe_event.Lost.Lost}
use Rattle.mc_item.specs.declared.{stripe_event.StripeEvent.StripeEvent}
use Rattle.mc_item.specs.declared.class_event.ClassEvent.TheVariants as entries
use Rattle.mc_item.specs.declared.stripe_event.StripeEvent.TheVariants as items
use Rattle.mc_rule.proofs.EventPlaceLemmas.{each_push, each_weaker, still_stands}
use Rattle.mc_rule.specs.{Evidence.AreEvidence, Evidence.IsBacked, Evidence.HasLossTrace, Evidence.HasTrace, Places.Each, Places.Has, Segment.Rule}
use Rattle.mc_evidence.specs.Refusals.{WasTried}

-- what a history has a longer one has
pub still_has : {E F : Type 0} (kind : F → E) (h xs : List E) (P : List E → F → Type 0) → Has kind h P → Has kind (h ++ xs) P
still_has {E = E} {F = F} kind h xs P has = (has.0, has.1, still_stands h xs has.0 (kind has.1) has.2, has.3)

-- a refusal that wasn't made at once wasn't, when more is seen
pub tried_later : (site : Site) (class : ClassNo) (seen xs : List ClassEvent) (did : Did) → WasTried site class seen did → WasTried site class (seen ++ xs) did
tried_later site class seen xs did tried place room = still_has entries.Refused seen xs _ (tried place room)

module _ (site : Site) (rule : Rule) (class : ClassNo) where
  loss_later : (seen xs : List ClassEvent) (before : List StripeEvent) (lost : Lost) (cause : Cause) → HasLossTrace site class seen before lost cause → HasLossTrace site class (seen ++ xs) before lost cause
  loss_later seen xs before lost (Taken other place) h = still_has entries.Evicted seen xs _ h
  loss_later seen xs before lost (Expired moment) h = still_has entries.Reclaimed seen xs _ h

  -- what a class has told a stripe's event it tells later too
  pub told_later : (seen xs : List ClassEvent) (before : List StripeEvent) (e : StripeEvent) → HasTrace site rule class seen before e → HasTrace site rule class (seen ++ xs) before e
  told_later seen xs before (items.Did did) h = record {
    linked = λ number room. still_has entries.Linked seen xs _ (h.linked number room);
    unlinked = λ number goes. still_has entries.Unlinked seen xs _ (h.unlinked number goes);
    refused = λ place room. still_has entries.Refused seen xs _ (h.refused place room);
  }
  told_later seen xs before (items.Lost lost) h = λ number has. loss_later seen xs before lost lost.cause (h number has)
  told_later seen xs before (items.Cooled cooled) h = λ number has. still_has entries.Shifted seen xs _ (h number has)

  -- what a stripe has backed of a class it backs later too
  pub backed_later : (seen xs : List StripeEvent) (behind : List ClassEvent) (e : ClassEvent) → IsBacked site rule class seen behind e → IsBacked site rule class (seen ++ xs) behind e
  backed_later seen xs behind (entries.Linked e) h = λ of. still_has items.Did seen xs _ (h of)
  backed_later seen xs behind (entries.Unlinked e) h = λ s x at of. still_has items.Did seen xs _ (h s x at of)
  backed_later seen xs behind (entries.Shifted e) h = λ active s x at of. still_has items.Cooled seen xs _ (h active s x at of)
  backed_later seen xs behind (entries.Evicted e) h = λ s x at of. still_has items.Lost seen xs _ (h s x at of)
  backed_later seen xs behind (entries.Reclaimed e) h = λ s x at of. still_has items.Lost seen xs _ (h s x at of)
  backed_later seen xs behind (entries.Surveyed e) h = tt
  backed_later seen xs behind (entries.Refused e) h = tt
  backed_later seen xs behind (entries.Limited e) h = tt

  -- a stripe's events keep what they were told while the class's history grows
  pub all_told_later : (seen xs : List ClassEvent) (own : List StripeEvent) → Each (HasTrace site rule class seen) own → Each (HasTrace site rule class (seen ++ xs)) own
  all_told_later seen xs own each = each_weaker (HasTrace site rule class seen) (HasTrace site rule class (seen ++ xs)) own (told_later seen xs) each

  -- a class's events stay backed while the stripe's history grows
  pub all_backed_later : (seen xs : List StripeEvent) (own : List ClassEvent) → Each (IsBacked site rule class seen) own → Each (IsBacked site rule class (seen ++ xs)) own
  all_backed_later seen xs own each = each_weaker (IsBacked site rule class seen) (IsBacked site rule class (seen ++ xs)) own (backed_later seen xs) each

  -- ---- one event more, on one side or on both

  module _ (stripe : List StripeEvent) (history : List ClassEvent) (both : AreEvidence site rule class stripe history) where
    -- an event of the stripe that the class has told already
    pub stripe_push : (e : StripeEvent) → HasTrace site rule class history stripe e → AreEvidence site rule class (stripe ++ e ∷ []) history
    stripe_push e told = record {
      told = each_push (HasTrace site rule class history) stripe e both.told told;
      backed = all_backed_later stripe (e ∷ []) history both.backed;
    }

    -- an event of the class that the stripe has backed already
    pub class_push : (x : ClassEvent) → IsBacked site rule class stripe history x → AreEvidence site rule class stripe (history ++ x ∷ [])
    class_push x backed = record {
      told = all_told_later history (x ∷ []) stripe both.told;
      backed = each_push (IsBacked site rule class stripe) history x both.backed backed;
    }

    -- an event of each, by each other
    pub pair_push : (e : StripeEvent) (x : ClassEvent) → HasTrace site rule class (history ++ x ∷ []) stripe e → IsBacked site rule class (stripe ++ e ∷ []) history x
        → AreEvidence site rule class (stripe ++ e ∷ []) (history ++ x ∷ [])
    pair_push e x told backed = record {
      told = each_push (HasTrace site rule class (history ++ x ∷ [])) stripe e (all_told_later history (x ∷ []) stripe both.told) told;
      backed = each_push (IsBacked site rule class (stripe ++ e ∷ [])) history x (all_backed_later stripe (e ∷ []) history both.backed) backed;
    }

    -- an event of the stripe and two of the class, by each other
    pub triple_push : (e : StripeEvent) (x y : ClassEvent) → HasTrace site rule class ((history ++ x ∷ []) ++ y ∷ []) stripe e → IsBacked site rule class (stripe ++ e ∷ []) history x
        → IsBacked site rule class (stripe ++ e ∷ []) (history ++ x ∷ []) y → AreEvidence site rule class (stripe ++ e ∷ []) ((history ++ x ∷ []) ++ y ∷ [])
    triple_push e x y told first second =
        let stripes = each_push (HasTrace site rule class ((history ++ x ∷ []) ++ y ∷ [])) stripe e
        (all_told_later (history ++ x ∷ []) (y ∷ []) stripe (all_told_later history (x ∷ []) stripe both.told)) told in
        let one = each_push (IsBacked site rule class (stripe ++ e ∷ [])) history x (all_backed_later stripe (e ∷ []) history both.backed) first in
        record { told = stripes; backed = each_push (IsBacked site rule class (stripe ++ e ∷ [])) (history ++ x ∷ []) y one second }
