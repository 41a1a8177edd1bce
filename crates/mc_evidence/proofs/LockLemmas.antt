-- What locks keep stays while more is seen, and states that are lent together are evidence of each other.
use Rattle.std.proofs.Common.{List, [], subst, ℕ, ◌≡◌}
use Rattle.std.specs.Prelude.{Some}
use mathlib.Core.List.{IsPrefix}
use Rattle.mc_item.specs.declared.{class_event.ClassEvent.ClassEvent, item.ClassNo.ClassNo, lists.Entry.Entry, lists.Seg.Seg}
use Rattle.mc_item.specs.declared.{stripe_event.StripeEvent.StripeEvent}
use Rattle.mc_rule.proofs.EventPlaceLemmas.{none_stands}
use Rattle.mc_rule.specs.{Belonging.HasItem, Cited.IsSuited, Evidence.AreEvidence, Evidence.IsBacked, Evidence.HasTrace, Lists.found, Lists.lists_of}
use Rattle.mc_rule.specs.{Pairs.IsKeyOf, Places.Each}
use Rattle.mc_evidence.proofs.{CitedItemLemmas.all_suited_later, ItemsAreEntriesLemmas.item_of_entry, EvidenceGrowthLemmas.all_backed_later, EvidenceGrowthLemmas.all_told_later}
use Rattle.mc_evidence.specs.{Locks.AreLentTogether, Locks.ClassKeeps, Locks.StripeKeeps, Setting.Setting, Setting.site_in}

-- a stripe's lock keeps what it keeps when more of the classes is seen
pub stripe_sees_more : (setting : Setting) (s : ℕ) (own : List StripeEvent) (seen more : ClassNo → List ClassEvent)
    → ((class : ClassNo) → IsPrefix (seen class) (more class)) → StripeKeeps setting s own seen → StripeKeeps setting s own more
stripe_sees_more setting s own seen more grows keeps = record {
  legal = keeps.legal;
  told = λ class is.
      subst (λ (h : List ClassEvent). Each (HasTrace (site_in setting s) setting.rule class h) own) (grows class).1
      (all_told_later (site_in setting s) setting.rule class (seen class) (grows class).0 own (keeps.told class is));
}

-- a class's lock keeps what it keeps when more of the stripes is seen
pub class_sees_more : (setting : Setting) (class : ClassNo) (own : List ClassEvent) (seen more : ℕ → List StripeEvent) → ((s : ℕ) → IsPrefix (seen s) (more s))
    → ClassKeeps setting class own seen → ClassKeeps setting class own more
class_sees_more setting class own seen more grows keeps = record {
  lawful = keeps.lawful;
  once = keeps.once;
  backed = λ s of.
      subst (λ (h : List StripeEvent). Each (IsBacked (site_in setting s) setting.rule class h) own) (grows s).1 (all_backed_later (site_in setting s) setting.rule class (seen s) (grows s).0 own (keeps.backed s of));
  suited = λ s of.
      subst (λ (h : List StripeEvent). Each (IsSuited (site_in setting s) class h) own) (grows s).1 (all_suited_later (site_in setting s) class (seen s) (grows s).0 own (keeps.suited s of));
}

-- without events each lock keeps what it keeps
pub stripe_begins : (setting : Setting) (s : ℕ) (seen : ClassNo → List ClassEvent) → StripeKeeps setting s [] seen
stripe_begins setting s seen = record { legal = tt; told = λ class is before e s. absurd (none_stands before e s) }

pub class_begins : (setting : Setting) (class : ClassNo) (seen : ℕ → List StripeEvent) → ClassKeeps setting class [] seen
class_begins setting class seen = record {
  lawful = tt;
  once = λ before e s. absurd (none_stands before e s);
  backed = λ s of before e t. absurd (none_stands before e t);
  suited = λ s of before e t. absurd (none_stands before e t);
}

module _ (setting : Setting) (s : ℕ) (class : ClassNo) (stripe : List StripeEvent) (history : List ClassEvent) (seen : ClassNo → List ClassEvent) (seen_of : ℕ
    → List StripeEvent) (lent : AreLentTogether setting s class stripe history seen seen_of) where
  -- what the two locks keep between them, each told the other's whole history
  pub between : AreEvidence (site_in setting s) setting.rule class stripe history
  between = record {
    told = subst (λ (h : List ClassEvent). Each (HasTrace (site_in setting s) setting.rule class h) stripe) lent.saw.1
        (all_told_later (site_in setting s) setting.rule class (seen class) lent.saw.0 stripe (lent.stripe_keeps.told class lent.is));
    backed = subst (λ (h : List StripeEvent). Each (IsBacked (site_in setting s) setting.rule class h) history) lent.saw_of.1
        (all_backed_later (site_in setting s) setting.rule class (seen_of s) lent.saw_of.0 history (lent.class_keeps.backed s lent.of));
  }

-- an entry that is lent with its key's stripe is no stranger
pub no_stranger : (setting : Setting) (s : ℕ) (class : ClassNo) (stripe : List StripeEvent) (history : List ClassEvent) (seen : ClassNo → List ClassEvent) (seen_of : ℕ → List StripeEvent)
    → AreLentTogether setting s class stripe history seen seen_of → (number : ℕ) (seg : Seg) (entry : Entry) → found number (lists_of history) ≡ Some (seg, entry) → IsKeyOf (site_in setting s) entry.key
    → HasItem (site_in setting s) class stripe number entry
no_stranger setting s class stripe history seen seen_of lent number seg entry is of =
    item_of_entry (site_in setting s) setting.rule class (setting.chunks class) stripe history number seg entry lent.stripe_keeps.legal lent.class_keeps.lawful
    (between setting s class stripe history seen seen_of lent) is of
