-- What an event of a class is to another stripe than its key's: nothing is asked of that.
use Rattle.std.proofs.Common.{◌≡◌, ◌≢◌, ℕ, List, [], ◌∷◌, ◌++◌, sym, ap, ◌∙◌, subst}
use Rattle.std.specs.Prelude.{Some}
use Rattle.mc_item.specs.Measure.{stripe_of}
use Rattle.mc_item.specs.declared.{answer.Site.Site, class_event.ClassEvent.ClassEvent, class_event.Limited.Limited, class_event.Refused.Refused}
use Rattle.mc_item.specs.declared.{item.ClassNo.ClassNo, item.StripeNo.StripeNo, lists.Entry.Entry, lists.Seg.Seg, stripe_event.StripeEvent.StripeEvent}
use Rattle.mc_item.specs.declared.class_event.ClassEvent.TheVariants as entries
use Rattle.mc_rule.specs.{Cited.IsSuited, Evidence.IsBacked, Lists.found, Lists.lists_of, Pairs.IsKeyOf, Places.Each, Segment.Rule}
use Rattle.mc_rule.proofs.{EventPlaceLemmas.each_push, TestLemmas.some_same}
use Rattle.mc_evidence.specs.Made.{IsOfOthers}

-- a key is of one stripe alone
pub of_one_stripe : (site other : Site) → other.stripes ≡ site.stripes → other.stripe ≢ site.stripe → (key : List ℕ) → IsKeyOf site key → IsKeyOf other key → ⊥
of_one_stripe site other same apart key here there =
    apart (ap (λ (n : StripeNo). n.0) (sym there ∙ (ap (stripe_of key) same ∙ here)))

-- an entry of this key is no other stripe's
pub entry_of_others : (site : Site) (history : List ClassEvent) (number : ℕ) (seg : Seg) (e : Entry) → found number (lists_of history) ≡ Some (seg, e) → (IsKeyOf site e.key → ⊥)
    → IsOfOthers site history number
entry_of_others site history number seg e there away s x here of =
    let both : (seg, e) ≡ (s, x) = some_same _ _ (sym there ∙ here) in
    away (subst (λ (p : Seg × Entry). IsKeyOf site p.1.key) (sym both) of)

-- an event of a class is for no entry with a key of this stripe
abbrev pub IsElsewhere : Site → List ClassEvent → ClassEvent → Type 0
IsElsewhere site behind (entries.Linked e) = IsKeyOf site e.key → ⊥
IsElsewhere site behind (entries.Unlinked e) = IsOfOthers site behind e.number
IsElsewhere site behind (entries.Shifted e) = IsOfOthers site behind e.number
IsElsewhere site behind (entries.Evicted e) = IsOfOthers site behind e.number
IsElsewhere site behind (entries.Reclaimed e) = IsOfOthers site behind e.number
IsElsewhere site behind (entries.Surveyed e) = Unit {0}
IsElsewhere site behind (entries.Refused e) = Unit {0}
IsElsewhere site behind (entries.Limited e) = Unit {0}

module _ (site : Site) (class : ClassNo) (seen : List StripeEvent) where
  backed_elsewhere : (rule : Rule) (behind : List ClassEvent) (x : ClassEvent) → IsElsewhere site behind x → IsBacked site rule class seen behind x
  backed_elsewhere rule behind (entries.Linked e) away = λ of. absurd (away of)
  backed_elsewhere rule behind (entries.Unlinked e) away = λ s x at of. absurd (away s x at of)
  backed_elsewhere rule behind (entries.Shifted e) away = λ why s x at of. absurd (away s x at of)
  backed_elsewhere rule behind (entries.Evicted e) away = λ s x at of. absurd (away s x at of)
  backed_elsewhere rule behind (entries.Reclaimed e) away = λ s x at of. absurd (away s x at of)
  backed_elsewhere rule behind (entries.Surveyed e) away = tt
  backed_elsewhere rule behind (entries.Refused e) away = tt
  backed_elsewhere rule behind (entries.Limited e) away = tt

  suited_elsewhere : (behind : List ClassEvent) (x : ClassEvent) → IsElsewhere site behind x → IsSuited site class seen behind x
  suited_elsewhere behind (entries.Linked e) away = tt
  suited_elsewhere behind (entries.Unlinked e) away = tt
  suited_elsewhere behind (entries.Shifted e) away = λ s x at of. absurd (away s x at of)
  suited_elsewhere behind (entries.Evicted e) away = tt
  suited_elsewhere behind (entries.Reclaimed e) away = λ s x at of. absurd (away s x at of)
  suited_elsewhere behind (entries.Surveyed e) away = tt
  suited_elsewhere behind (entries.Refused e) away = tt
  suited_elsewhere behind (entries.Limited e) away = tt

  -- an event for no entry of this stripe needs nothing in its history
  pub backed_on : (rule : Rule) (history : List ClassEvent) → Each (IsBacked site rule class seen) history → (x : ClassEvent) → IsElsewhere site history x
      → Each (IsBacked site rule class seen) (history ++ x ∷ [])
  backed_on rule history each x away = each_push (IsBacked site rule class seen) history x each (backed_elsewhere rule history x away)

  pub suited_on : (history : List ClassEvent) → Each (IsSuited site class seen) history → (x : ClassEvent) → IsElsewhere site history x → Each (IsSuited site class seen) (history ++ x ∷ [])
  suited_on history each x away = each_push (IsSuited site class seen) history x each (suited_elsewhere history x away)

  -- ---- a class's own events need nothing of any stripe

  pub refusal_backed : (rule : Rule) (history : List ClassEvent) (e : Refused) → Each (IsBacked site rule class seen) history → Each (IsBacked site rule class seen) (history ++ entries.Refused e ∷ [])
  refusal_backed rule history e each = backed_on rule history each (entries.Refused e) tt

  pub refusal_suited : (history : List ClassEvent) (e : Refused) → Each (IsSuited site class seen) history → Each (IsSuited site class seen) (history ++ entries.Refused e ∷ [])
  refusal_suited history e each = suited_on history each (entries.Refused e) tt

  pub limit_backed : (rule : Rule) (history : List ClassEvent) (e : Limited) → Each (IsBacked site rule class seen) history → Each (IsBacked site rule class seen) (history ++ entries.Limited e ∷ [])
  limit_backed rule history e each = backed_on rule history each (entries.Limited e) tt

  pub limit_suited : (history : List ClassEvent) (e : Limited) → Each (IsSuited site class seen) history → Each (IsSuited site class seen) (history ++ entries.Limited e ∷ [])
  limit_suited history e each = suited_on history each (entries.Limited e) tt
