-- The cited item, to which an event of a slab class refers: what its entry's key held when the stripe had a given number of
-- events. `seen` is as much of the stripe's history as has been seen, `behind` are the class's earlier events.
use Rattle.std.specs.Prelude.{ℕ, ◌≡◌, List, true, nat_le, if◌then◌else◌, Option, None, IsSomeAnd, length, take}
use Rattle.mc_item.specs.Item.{is_dead}
use Rattle.mc_item.specs.declared.{answer.Site.Site, class_event.ClassEvent.ClassEvent, item.ClassNo.ClassNo, item.Item.Item}
use Rattle.mc_item.specs.declared.{stripe_event.StripeEvent.StripeEvent}
use Rattle.mc_item.specs.declared.class_event.ClassEvent.TheVariants as entries
use Rattle.mc_rule.specs.{Evidence.OfStripe, Lawful.SuitsMove, Pairs.item_after, Pairs.link_to}

-- the item that a stripe held under a key when it had this many events, or none if fewer have been seen
abbrev pub cited_in : Site → List StripeEvent → List ℕ → ℕ → Option Item
cited_in site seen key at = if nat_le at (length seen) then item_after site (take at seen) key else None

-- there is a cited item, its link is to the entry, and `P` holds of it
abbrev pub IsCitedIn : Site → ClassNo → List StripeEvent → ℕ → ℕ → (Item → Type 0) → List ℕ → Type 0
IsCitedIn site class seen number at P key = IsSomeAnd (cited_in site seen key at) (λ item. (item.link ≡ link_to class number) × P item)

-- the cited item suits a class's event, if its entry has a key of this stripe: as a move's reason asks, or dead for a reclaiming
abbrev pub IsSuited : Site → ClassNo → List StripeEvent → List ClassEvent → ClassEvent → Type 0
IsSuited site class seen behind (entries.Linked e) = Unit {0}
IsSuited site class seen behind (entries.Unlinked e) = Unit {0}
IsSuited site class seen behind (entries.Shifted e) =
    OfStripe site behind e.number (λ key. IsCitedIn site class seen e.number e.at (SuitsMove e.why e.moment) key)
IsSuited site class seen behind (entries.Evicted e) = Unit {0}
IsSuited site class seen behind (entries.Reclaimed e) =
    OfStripe site behind e.number (λ key. IsCitedIn site class seen e.number e.at (λ item. is_dead item e.moment ≡ true) key)
IsSuited site class seen behind (entries.Surveyed e) = Unit {0}
IsSuited site class seen behind (entries.Refused e) = Unit {0}
IsSuited site class seen behind (entries.Limited e) = Unit {0}
