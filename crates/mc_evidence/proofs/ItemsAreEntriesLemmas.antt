-- A stripe's items with a link of a class, and the class's entries with keys of the stripe.
use Rattle.std.proofs.Common.{◌≡◌, ℕ, List, refl, sym, ap, ◌∙◌, subst}
use Rattle.std.specs.Prelude.{Option, Some, None, IsSomeAnd}
use Rattle.mc_item.specs.{Measure.cost_of, Stripe.IsLegal}
use Rattle.mc_item.specs.declared.{answer.Site.Site, class_event.ClassEvent.ClassEvent, item.ClassNo.ClassNo, item.Item.Item, item.Link.Link, lists.Entry.Entry}
use Rattle.mc_item.specs.declared.{lists.Seg.Seg, lists.Seg.TheVariants.Hot, lists.Seg.TheVariants.Warm, lists.Seg.TheVariants.Cold, lists.Seg.TheVariants.Temp}
use Rattle.mc_item.specs.declared.{stripe_event.StripeEvent.StripeEvent}
use Rattle.mc_rule.proofs.{ListLemmas.find_number, TestLemmas.none_some, TestLemmas.some_same}
use Rattle.mc_rule.specs.{Belonging.HasEntry, Belonging.HasItem, Belonging.IsEntryFor, Belonging.IsItemFor, Evidence.AreEvidence, Lawful.IsLawfulHistoryByLists}
use Rattle.mc_rule.specs.{Lists.Lists, Lists.find, Lists.found, Lists.found_in, Lists.lists_of, Pairs.IsKeyOf, Pairs.item_after, Pairs.link_to, Segment.Rule}
use Rattle.mc_evidence.proofs.{EntryLifeLemmas.found_by_kept, EntryLifeLemmas.kept_by, LinkLifeLemmas.holds, MutualLemmas.held_is_kept, MutualLemmas.kept_is_held}
use Rattle.mc_evidence.proofs.{RowLemmas.held, SizedItemLemmas.key_of_stripe}

-- an entry that is found has its number
found_number : (n : ℕ) (l : Lists) (s : Seg) (x : Entry) → found n l ≡ Some (s, x) → x.number ≡ n
found_number n l s x is = by (find n l.hot) (find n l.warm) (find n l.cold) (find n l.temp) (λ y h. find_number n l.hot y h) (λ y h. find_number n l.warm y h)
    (λ y h. find_number n l.cold y h) (λ y h. find_number n l.temp y h) is
  where
    same : (t : Seg) (y : Entry) → ◌≡◌ {A = Option (Seg × Entry)} (Some (t, y)) (Some (s, x)) → y.number ≡ n → x.number ≡ n
    same t y h is = ap (λ (p : Seg × Entry). p.1.number) (sym (some_same (t, y) (s, x) h)) ∙ is

    by : (a b c d : Option Entry) → ((y : Entry) → a ≡ Some y → y.number ≡ n) → ((y : Entry) → b ≡ Some y → y.number ≡ n) → ((y : Entry) → c ≡ Some y → y.number ≡ n) → ((y : Entry) → d ≡ Some y → y.number ≡ n)
        → found_in Hot a (found_in Warm b (found_in Cold c (found_in Temp d None))) ≡ Some (s, x) → x.number ≡ n
    by (Some y) b c d p q r t h = same Hot y h (p y refl)
    by None (Some y) c d p q r t h = same Warm y h (q y refl)
    by None None (Some y) d p q r t h = same Cold y h (r y refl)
    by None None None (Some y) p q r t h = same Temp y h (t y refl)
    by None None None None p q r t h = absurd (none_some h)

link_is : (link : Link) (class : ClassNo) → link.class ≡ class → link ≡ link_to class link.number
link_is link class is = ap (λ (c : ClassNo). link_to c link.number) is

-- an item's entry
pub entry_of_item : (site : Site) (rule : Rule) (class : ClassNo) (chunks : ℕ) (stripe : List StripeEvent) (history : List ClassEvent) (key : List ℕ) (item : Item) → IsLegal site stripe
    → IsLawfulHistoryByLists chunks rule history → AreEvidence site rule class stripe history → item_after site stripe key ≡ Some item → item.link.class ≡ class
    → HasEntry history key item
entry_of_item site rule class chunks stripe history key item legal lawful both is of_class =
    let n = item.link.number in
    let cost = cost_of key item.value in
    let now : holds site key stripe ≡ Some (link_to class n, cost) = ap (held key) is ∙ ap (λ (l : Link). Some (l, cost)) (link_is item.link class of_class) in
    let of = key_of_stripe site stripe key (link_to class n) cost legal now in
    let there = found_by_kept n (lists_of history) (found n (lists_of history)) key cost refl (held_is_kept site rule class chunks stripe history legal lawful both n key cost of now) in
    subst (λ (o : Option (Seg × Entry)). IsSomeAnd o (λ p. IsEntryFor key item p.1)) (sym there.2) record { number = found_number n (lists_of history) there.0 there.1 there.2; key_is = there.3; cost = there.4 }

item_held : (class : ClassNo) (n : ℕ) (x : Entry) (o : Option Item) → held x.key o ≡ Some (link_to class n, x.cost) → IsSomeAnd o (IsItemFor class n x)
item_held class n x None h = absurd (none_some h)
item_held class n x (Some item) h =
    let both : (item.link, cost_of x.key item.value) ≡ (link_to class n, x.cost) = some_same _ _ h in
    record { link = ap (λ (p : Link × ℕ). p.0) both; cost = sym (ap (λ (p : Link × ℕ). p.1) both) }

-- an entry's item
pub item_of_entry : (site : Site) (rule : Rule) (class : ClassNo) (chunks : ℕ) (stripe : List StripeEvent) (history : List ClassEvent) (n : ℕ) (seg : Seg) (x : Entry) → IsLegal site stripe
    → IsLawfulHistoryByLists chunks rule history → AreEvidence site rule class stripe history → found n (lists_of history) ≡ Some (seg, x) → IsKeyOf site x.key
    → HasItem site class stripe n x
item_of_entry site rule class chunks stripe history n seg x legal lawful both is of =
    item_held class n x (item_after site stripe x.key)
    (kept_is_held site rule class chunks stripe history legal lawful both n x.key x.cost of (kept_by n history seg x is))
