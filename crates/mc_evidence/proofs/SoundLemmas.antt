-- All stripes and all classes of a store together.
use Rattle.std.proofs.Common.{List, [], ap, append_assoc, arith, refl, subst, sym, true, ℕ, ◌++◌, ◌<◌, ◌∷◌, ◌≡◌, ◌≤◌}
use Rattle.std.specs.Prelude.{IsSome, IsSomeAnd, None, Option, Some}
use Rattle.mc_item.specs.{Item.is_dead, Measure.cost_of, Measure.stripe_of, Stripe.IsLegal}
use Rattle.mc_item.specs.declared.{class_event.ClassEvent.ClassEvent, item.ClassNo.ClassNo, item.Item.Item, lists.Entry.Entry, lists.Seg.Seg}
use Rattle.mc_item.specs.declared.{stripe_event.StripeEvent.StripeEvent}
use Rattle.mc_item.specs.declared.class_event.ClassEvent.TheVariants as entries
use Rattle.mc_rule.proofs.HistoryLemmas.{by_lists, lawful_at, lawful_before, legal_first}
use Rattle.mc_rule.proofs.{ListLemmas.found_there, OnceLemmas.IsNumbered, OnceLemmas.numbered, TestLemmas.is_some_of}
use Rattle.mc_rule.specs.{Belonging.HasEntry, Belonging.HasItem, Cited.IsSuited, Evidence.AreEvidence, Evidence.IsBacked, Evidence.HasTrace, Pairs.item_after}
use Rattle.mc_rule.specs.{Pairs.link_to, Places.Each, Places.Stands}
use Rattle.mc_rule.specs.Lawful.{IsLawfulByLists, IsLawfulByListsFrom, IsLawfulFrom, IsLawfulHistoryByLists, SuitsItem, SuitsMove}
use Rattle.mc_rule.specs.Lists.{Lists, find, found, list_of, lists_of, times_in}
use Rattle.mc_evidence.proofs.{CitedItemLemmas.all_suited_later, ItemsAreEntriesLemmas.entry_of_item, ItemsAreEntriesLemmas.item_of_entry, EvidenceGrowthLemmas.all_backed_later}
use Rattle.mc_evidence.proofs.{EvidenceGrowthLemmas.all_told_later, LossLemmas.lost_between, RowLemmas.held, SizedItemLemmas.link_sized}
use Rattle.mc_evidence.specs.{Locks.ClassKeeps, Locks.HaveSeen, Locks.StripeKeeps, Losses.AreNoCommands, Losses.WasLost, Setting.IsClass, Setting.Setting}
use Rattle.mc_evidence.specs.{Setting.site_in, Sound.IsSoundStore, Sound.cited_of}

-- ---- the items that a class's events cite, in the whole store

-- the stripe of a key is one of the store
pub below_stripes : (key : List ℕ) (stripes : ℕ) → 0 < stripes → (stripe_of key stripes).0 < stripes
below_stripes key stripes some = grind (arith)

listed : (n : ℕ) (l : Lists) (P : List ℕ → Type 0) → IsSome (found n l) → ((s : Seg) (x : Entry) → found n l ≡ Some (s, x) → P x.key) → IsSomeAnd (found n l) (λ p. P p.1.key)
listed n l P some each = by (found n l) refl some
  where
    by : (o : Option (Seg × Entry)) → found n l ≡ o → IsSome o → IsSomeAnd o (λ p. P p.1.key)
    by None is h = absurd (cc)
    by (Some p) is h = each p.0 p.1 is

module _ (setting : Setting) (stripes : ℕ → List StripeEvent) (some : 0 < setting.stripes) (class : ClassNo) where
  -- what each stripe tells of a class's event the store tells
  suits : (behind : List ClassEvent) (e : ClassEvent) → ((s : ℕ) → s < setting.stripes → IsSuited (site_in setting s) class (stripes s) behind e)
      → IsNumbered behind → IsLawfulByLists (setting.chunks class) setting.rule behind e
      → SuitsItem class (cited_of setting stripes) behind e
  suits behind (entries.Linked e) each inv may = tt
  suits behind (entries.Unlinked e) each inv may = tt
  suits behind (entries.Shifted e) each inv may =
      let there = is_some_of (find e.number (list_of (lists_of behind) e.from_seg)) may.0 in
      let at = found_there e.number (lists_of behind) e.from_seg there.0 there.1 (inv.once e.number) in
      listed e.number (lists_of behind) (λ key. IsSomeAnd (cited_of setting stripes key e.at) (λ item. (item.link ≡ link_to class e.number) × SuitsMove e.why e.moment item)) (subst IsSome (sym at) refl)
      (λ s x is. each (stripe_of x.key setting.stripes).0 (below_stripes x.key setting.stripes some) s x is refl)
  suits behind (entries.Evicted e) each inv may = tt
  suits behind (entries.Reclaimed e) each inv may =
      listed e.number (lists_of behind) (λ key. IsSomeAnd (cited_of setting stripes key e.at) (λ item. (item.link ≡ link_to class e.number) × (is_dead item e.moment ≡ true))) may
      (λ s x is. each (stripe_of x.key setting.stripes).0 (below_stripes x.key setting.stripes some) s x is refl)
  suits behind (entries.Surveyed e) each inv may = tt
  suits behind (entries.Refused e) each inv may = tt
  suits behind (entries.Limited e) each inv may = tt

  lawful_whole : (pre es : List ClassEvent) → ((before : List ClassEvent) (e : ClassEvent) → Stands (pre ++ es) before e → SuitsItem class (cited_of setting stripes) before e)
      → IsLawfulByListsFrom (setting.chunks class) setting.rule pre es → IsLawfulFrom class (setting.chunks class) setting.rule (cited_of setting stripes) pre es
  lawful_whole pre [] each lawful = tt
  lawful_whole pre (e ∷ es) each lawful = (
    (lawful.0, each pre e record { later = es; is = refl }),
    lawful_whole (pre ++ e ∷ []) es (λ before x s. each before x (subst (λ (h : List ClassEvent). Stands h before x) (append_assoc pre (e ∷ []) es) s)) lawful.1,
  )

-- ---- what locks keep is what the store promises

-- locks of which each has seen a beginning of each other's history keep a sound store
pub locks_sound : (setting : Setting) (stripes : ℕ → List StripeEvent) (classes : ClassNo → List ClassEvent) (seen : ℕ → ClassNo → List ClassEvent) (seen_of : ClassNo → ℕ → List StripeEvent) → 0 < setting.stripes
    → ((s : ℕ) → s < setting.stripes → StripeKeeps setting s (stripes s) (seen s)) → ((class : ClassNo) → IsClass setting class → ClassKeeps setting class (classes class) (seen_of class))
    → ((s : ℕ) (class : ClassNo) → s < setting.stripes → IsClass setting class → HaveSeen (seen s class) (classes class) (seen_of class s) (stripes s))
    → IsSoundStore setting stripes classes
locks_sound setting stripes classes seen seen_of some stripes_keep classes_keep saw = record {
  some = some;
  legal = λ s of. (stripes_keep s of).legal;
  lawful = λ class is.
      let lawful = (classes_keep class is).lawful in
      lawful_whole setting stripes some class [] (classes class)
      (λ before e there. suits setting stripes some class before e (λ s of. suited s class of is before e there)
      (numbered (setting.chunks class) setting.rule before (lawful_before (setting.chunks class) setting.rule (classes class) before e lawful there))
      (lawful_at (setting.chunks class) setting.rule (classes class) before e lawful there))
      lawful;
  once = λ class is. (classes_keep class is).once;
  evidence = λ s class of is. record {
    told =
        subst (λ (h : List ClassEvent). Each (HasTrace (site_in setting s) setting.rule class h) (stripes s)) (saw s class of is).class.1
        (all_told_later (site_in setting s) setting.rule class (seen s class) (saw s class of is).class.0 (stripes s) ((stripes_keep s of).told class is));
    backed =
        subst (λ (h : List StripeEvent). Each (IsBacked (site_in setting s) setting.rule class h) (classes class)) (saw s class of is).stripe.1
        (all_backed_later (site_in setting s) setting.rule class (seen_of class s) (saw s class of is).stripe.0 (classes class) ((classes_keep class is).backed s of));
  };
}
  where
    suited : (s : ℕ) (class : ClassNo) → s < setting.stripes → IsClass setting class → Each (IsSuited (site_in setting s) class (stripes s)) (classes class)
    suited s class of is =
        subst (λ (h : List StripeEvent). Each (IsSuited (site_in setting s) class h) (classes class)) (saw s class of is).stripe.1
        (all_suited_later (site_in setting s) class (seen_of class s) (saw s class of is).stripe.0 (classes class) ((classes_keep class is).suited s of))

-- ---- what follows in a sound store

module _ (setting : Setting) (stripes : ℕ → List StripeEvent) (classes : ClassNo → List ClassEvent) (sound : IsSoundStore setting stripes classes) where
  -- a class's history is lawful as far as its lists tell
  lawful_lists : (class : ClassNo) → IsClass setting class → IsLawfulHistoryByLists (setting.chunks class) setting.rule (classes class)
  lawful_lists class is = by_lists class (setting.chunks class) setting.rule (cited_of setting stripes) (classes class) (sound.lawful class is)

  -- an item has its entry, in a class of the store
  pub entry_in : (s : ℕ) (key : List ℕ) (item : Item) → s < setting.stripes → item_after (site_in setting s) (stripes s) key ≡ Some item
      → IsClass setting item.link.class × HasEntry (classes item.link.class) key item
  entry_in s key item of is =
      let class = item.link.class in
      let sized = link_sized (site_in setting s) (stripes s) key item.link (cost_of key item.value) (sound.legal s of) (ap (held key) is) in
      (sized, entry_of_item (site_in setting s) setting.rule class (setting.chunks class) (stripes s) (classes class) key item (sound.legal s of) (lawful_lists class sized) (sound.evidence s class of sized) is refl)

  -- an entry has its item, in a stripe of the store
  pub item_in : (class : ClassNo) (n : ℕ) (seg : Seg) (x : Entry) → IsClass setting class → found n (lists_of (classes class)) ≡ Some (seg, x)
      → ((stripe_of x.key setting.stripes).0 < setting.stripes) × HasItem (site_in setting (stripe_of x.key setting.stripes).0) class (stripes (stripe_of x.key setting.stripes).0) n x
  item_in class n seg x sized is =
      let s = (stripe_of x.key setting.stripes).0 in
      let of = below_stripes x.key setting.stripes sound.some in
      (of, item_of_entry (site_in setting s) setting.rule class (setting.chunks class) (stripes s) (classes class) n seg x (sound.legal s of) (lawful_lists class sized) (sound.evidence s class of sized) is refl)

  -- a number stands in its class once
  pub once_in : (class : ClassNo) (n : ℕ) → IsClass setting class → times_in n (lists_of (classes class)) ≤ 1
  once_in class n is = (numbered (setting.chunks class) setting.rule (classes class) (lawful_lists class is)).once n

  -- a loss had its cause
  pub loss_in : (s : ℕ) (before middle later : List StripeEvent) (key : List ℕ) (item : Item) → s < setting.stripes
      → stripes s ≡ before ++ (middle ++ later) → AreNoCommands middle
      → item_after (site_in setting s) before key ≡ Some item → item_after (site_in setting s) (before ++ middle) key ≡ None
      → WasLost setting.chunks classes middle key item
  loss_in s before middle later key item of whole none was gone =
      let legal = subst (IsLegal (site_in setting s)) whole (sound.legal s of) in
      let sized = link_sized (site_in setting s) before key item.link (cost_of key item.value) (legal_first (site_in setting s) before (middle ++ later) legal) (ap (held key) was) in
      lost_between (site_in setting s) setting.rule setting.chunks classes before middle later key item legal none
      (subst (λ (h : List StripeEvent). AreEvidence (site_in setting s) setting.rule item.link.class h (classes item.link.class)) whole (sound.evidence s item.link.class of sized))
      (lawful_lists item.link.class sized) was gone
