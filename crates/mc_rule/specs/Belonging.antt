-- Which item of a stripe and which entry of a slab class belong together (this project's own).
use Rattle.std.specs.Prelude.{ℕ, ◌≡◌, List, Some, IsSomeAnd}
use Rattle.mc_item.specs.{Item.link_of_item, Measure.cost_of}
use Rattle.mc_item.specs.declared.{answer.Site.Site, class_event.ClassEvent.ClassEvent, item.ClassNo.ClassNo, item.Item.Item, lists.Entry.Entry, lists.Seg.Seg}
use Rattle.mc_item.specs.declared.{stripe_event.StripeEvent.StripeEvent}
use Rattle.mc_rule.specs.{Lists.found, Lists.lists_of, Pairs.item_after, Pairs.link_to}

-- a class has an entry with this number and this key
pub record IsEntryOf (history : List ClassEvent) (number : ℕ) (key : List ℕ) : Type 0 where
  pub seg : Seg
  pub entry : Entry
  pub there : found number (lists_of history) ≡ Some (seg, entry)
  pub key_is : entry.key ≡ key

-- the key's item and the entry of this number belong together: the item has the entry's link, and the entry has the key
pub record Belong (site : Site) (class : ClassNo) (stripe : List StripeEvent) (history : List ClassEvent) (key : List ℕ) (number : ℕ) : Type 0 where
  pub item : link_of_item (item_after site stripe key) ≡ Some (link_to class number)
  pub entry : IsEntryOf history number key

-- the entry is that of the key's item: it has the number of the item's link, the key, and the item's cost
pub record IsEntryFor (key : List ℕ) (item : Item) (entry : Entry) : Type 0 where
  pub number : entry.number ≡ item.link.number
  pub key_is : entry.key ≡ key
  pub cost : entry.cost ≡ cost_of key item.value

-- the item is that of the class's entry: its link is to the entry, and its cost is the entry's
pub record IsItemFor (class : ClassNo) (number : ℕ) (entry : Entry) (item : Item) : Type 0 where
  pub link : item.link ≡ link_to class number
  pub cost : entry.cost ≡ cost_of entry.key item.value

-- a class has the entry of the key's item
abbrev pub HasEntry : List ClassEvent → List ℕ → Item → Type 0
HasEntry history key item = IsSomeAnd (found item.link.number (lists_of history)) (λ there. IsEntryFor key item there.1)

-- a stripe has the item of the class's entry
abbrev pub HasItem : Site → ClassNo → List StripeEvent → ℕ → Entry → Type 0
HasItem site class stripe number entry = IsSomeAnd (item_after site stripe entry.key) (IsItemFor class number entry)
