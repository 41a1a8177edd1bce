-- No eviction is cited by two losses.
use Rattle.std.proofs.Common.{◌≡◌, ℕ, List, sym, ap, ◌∙◌, subst, length}
use Rattle.std.specs.Prelude.{Some}
use Rattle.mc_item.specs.Item.{link_of_item}
use Rattle.mc_item.specs.declared.{answer.Site.Site, class_event.ClassEvent.ClassEvent, class_event.Evicted.Evicted, item.ClassNo.ClassNo}
use Rattle.mc_item.specs.declared.{stripe_event.Cause.TheVariants.Taken, stripe_event.Lost.Lost, stripe_event.StripeEvent.StripeEvent}
use Rattle.mc_item.specs.declared.class_event.ClassEvent.TheVariants as entries
use Rattle.mc_item.specs.declared.stripe_event.StripeEvent.TheVariants as items
use Rattle.mc_rule.proofs.EventPlaceLemmas.{one_stands}
use Rattle.mc_rule.specs.{Evidence.AreEvidence, Evidence.HasLossTrace, Pairs.IsEviction, Pairs.item_after, Pairs.link_to, Places.Has, Places.Stands, Segment.Rule}

same_place : (c d : ClassNo) (p q : ℕ) → Taken c p ≡ Taken d q → p ≡ q
same_place c d p q h = cc

same_evicted : (e x : Evicted) → entries.Evicted e ≡ entries.Evicted x → e.at ≡ x.at
same_evicted e x h = ap at_of h
  where
    at_of : ClassEvent → ℕ
    at_of (entries.Evicted y) = y.at
    at_of (entries.Linked y) = 0
    at_of (entries.Unlinked y) = 0
    at_of (entries.Shifted y) = 0
    at_of (entries.Reclaimed y) = 0
    at_of (entries.Surveyed y) = 0
    at_of (entries.Refused y) = 0
    at_of (entries.Limited y) = 0

module _ (site : Site) (rule : Rule) (class : ClassNo) (stripe : List StripeEvent) (history : List ClassEvent) (both : AreEvidence site rule class stripe history) where
  eviction_of : (before : List StripeEvent) (lost : Lost) (n place : ℕ) → Stands stripe before (items.Lost lost) → lost.cause ≡ Taken class place → link_of_item (item_after site before lost.key) ≡ Some (link_to class n)
      → Has entries.Evicted history (λ behind e. IsEviction site class before lost behind e)
  eviction_of before lost n place s cause has = subst (HasLossTrace site class history before lost) cause (both.told before (items.Lost lost) s n has)

  -- two losses that cite one place of the class are one
  pub cited_once : (b1 b2 : List StripeEvent) (l1 l2 : Lost) (n1 n2 place : ℕ) → Stands stripe b1 (items.Lost l1) → Stands stripe b2 (items.Lost l2) → l1.cause ≡ Taken class place → l2.cause ≡ Taken class place
      → link_of_item (item_after site b1 l1.key) ≡ Some (link_to class n1) → link_of_item (item_after site b2 l2.key) ≡ Some (link_to class n2) → b1 ≡ b2
  cited_once b1 b2 l1 l2 n1 n2 place s1 s2 c1 c2 h1 h2 =
      let e1 = eviction_of b1 l1 n1 place s1 c1 h1 in
      let e2 = eviction_of b2 l2 n2 place s2 c2 h2 in
      let p1 : length e1.0 ≡ place = same_place class class (length e1.0) place (sym e1.3.cause ∙ c1) in
      let p2 : length e2.0 ≡ place = same_place class class (length e2.0) place (sym e2.3.cause ∙ c2) in
      let one = one_stands history e1.0 e2.0 (entries.Evicted e1.1) (entries.Evicted e2.1) e1.2 e2.2 (p1 ∙ sym p2) in
      let at : length b1 ≡ length b2 = sym e1.3.at ∙ (same_evicted e1.1 e2.1 one.1 ∙ e2.3.at) in
      (one_stands stripe b1 b2 (items.Lost l1) (items.Lost l2) s1 s2 at).0
