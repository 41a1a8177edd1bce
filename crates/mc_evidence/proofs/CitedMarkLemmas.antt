-- What evidence tells of cited items by itself: a reclaimed entry's item was dead, and a hit's was ACTIVE.
use Rattle.std.proofs.Common.{◌≡◌, ℕ, List, ◌∷◌, true, sym, ap, ◌∙◌, subst, length, arith, take, ◌+◌, length-append}
use Rattle.std.specs.Prelude.{Option, Some, None, IsSomeAnd}
use Rattle.std.proofs.lemmas.List.{take_all, take-append-le}
use Rattle.mc_item.specs.{Item.is_dead, Item.link_of_item, Stripe.IsLegal, Stripe.IsDead, Stripe.MayLose}
use Rattle.mc_item.specs.declared.{answer.Site.Site, class_event.ClassEvent.ClassEvent, class_event.Reclaimed.Reclaimed, class_event.Shifted.Shifted}
use Rattle.mc_item.specs.declared.{item.ClassNo.ClassNo, item.Item.Item, item.Link.Link, stripe_event.StripeEvent.StripeEvent}
use Rattle.mc_item.specs.declared.class_event.ClassEvent.TheVariants as entries
use Rattle.mc_item.specs.declared.class_event.Why.TheVariants as whys
use Rattle.mc_item.specs.declared.stripe_event.StripeEvent.TheVariants as items
use Rattle.mc_rule.proofs.{HistoryLemmas.legal_at, TestLemmas.some_same}
use Rattle.mc_rule.specs.{Cited.IsSuited, Cited.cited_in, Evidence.IsBacked, Lawful.SuitsMove, Pairs.ClearsMark, Pairs.item_after, Pairs.link_to, Places.Stands}
use Rattle.mc_rule.specs.{Segment.Rule}
use Rattle.mc_evidence.proofs.CitedItemLemmas.{cited_seen}

-- what is cited at the place of an event is what its stripe held before it
cited_there : (site : Site) (stripe before : List StripeEvent) (e : StripeEvent) (key : List ℕ) → Stands stripe before e → cited_in site stripe key (length before) ≡ item_after site before key
cited_there site stripe before e key s =
    let long : length stripe ≡ length before + length (e ∷ s.later) = ap length s.is ∙ length-append before (e ∷ s.later) in
    cited_seen site stripe key (length before) (omega arith)
    ∙ ap (λ (h : List StripeEvent). item_after site h key) (ap (take (length before)) s.is ∙ (take-append-le (length before) before (e ∷ s.later) (omega arith) ∙ take_all (length before) before (omega arith)))

pub with_link : (o : Option Item) (link : Link) (P : Item → Type 0) → link_of_item o ≡ Some link → IsSomeAnd o P → IsSomeAnd o (λ item. (item.link ≡ link) × P item)
with_link None link P has is = absurd is
with_link (Some item) link P has is = (some_same item.link link has, is)

module _ (site : Site) (rule : Rule) (class : ClassNo) (stripe : List StripeEvent) (legal : IsLegal site stripe) (behind : List ClassEvent) where
  -- a reclaimed entry's item was dead
  pub reclaimed_suits : (e : Reclaimed) → IsBacked site rule class stripe behind (entries.Reclaimed e) → IsSuited site class stripe behind (entries.Reclaimed e)
  reclaimed_suits e backed s x at of =
      let partner = backed s x at of in
      let lost = partner.1 in
      let pair = partner.3.1 in
      let dead : IsDead (item_after site partner.0 lost.key) e.moment = subst (MayLose (item_after site partner.0 lost.key)) pair.cause (legal_at site stripe partner.0 (items.Lost lost) legal partner.2) in
      let there = with_link (item_after site partner.0 lost.key) (link_to class e.number) (λ item. is_dead item e.moment ≡ true) pair.item dead in
      subst (λ (o : Option Item). IsSomeAnd o (λ item. (item.link ≡ link_to class e.number) × (is_dead item e.moment ≡ true)))
      (sym (ap (cited_in site stripe x.key) pair.at ∙ (cited_there site stripe partner.0 (items.Lost lost) x.key partner.2 ∙ ap (item_after site partner.0) (sym partner.3.0)))) there

  -- a hit's item was ACTIVE
  pub hit_suits : (e : Shifted) → e.why ≡ whys.Hit → IsBacked site rule class stripe behind (entries.Shifted e) → IsSuited site class stripe behind (entries.Shifted e)
  hit_suits e hit backed s x at of =
      let partner = backed (subst ClearsMark (sym hit) tt) s x at of in
      let cooled = partner.1 in
      let pair = partner.3.1 in
      let there = with_link (item_after site partner.0 cooled.key) (link_to class e.number) (λ item. item.marks.active ≡ true) pair.item (legal_at site stripe partner.0 (items.Cooled cooled) legal partner.2) in
      subst (λ (o : Option Item). IsSomeAnd o (λ item. (item.link ≡ link_to class e.number) × SuitsMove e.why e.moment item))
      (sym (ap (cited_in site stripe x.key) pair.at ∙ (cited_there site stripe partner.0 (items.Cooled cooled) x.key partner.2 ∙ ap (item_after site partner.0) (sym partner.3.0))))
      (subst (λ w. IsSomeAnd (item_after site partner.0 cooled.key) (λ item. (item.link ≡ link_to class e.number) × SuitsMove w e.moment item)) (sym hit) there)
