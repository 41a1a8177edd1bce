-- Where an event of a stripe or of a slab class finds its partner in the other history.
use Rattle.std.specs.Prelude.{ℕ, ◌≡◌, List, Some, length}
use Rattle.mc_item.specs.{Command.key_of, Item.link_of_item}
use Rattle.mc_item.specs.declared.{answer.Site.Site, class_event.Shifted.Shifted, class_event.Unlinked.Unlinked, item.ClassNo.ClassNo, item.Who.Who}
use Rattle.mc_item.specs.declared.{stripe_event.Did.Did, stripe_event.StripeEvent.StripeEvent}
use Rattle.mc_rule.specs.{Pairs.ClearsMark, Pairs.LetsGo, Pairs.item_after, Pairs.link_to, Places.Stands}

-- an event is somewhere in a history
abbrev pub Occurs : {E : Type 0} → List E → E → Type 0
Occurs {E = E} history e = (before : List E) × Stands history before e

-- an event is at this place of a history (the number of events before it)
pub record StandsAt {E : Type 0} (history : List E) (place : ℕ) (e : E) : Type 0 where
  pub before : List E
  pub stands : Stands history before e
  pub place_is : length before ≡ place

-- an event is at this place of a stripe's history, and right before it the key's item has the link of this number
pub record StandsFor (site : Site) (class : ClassNo) (stripe : List StripeEvent) (place : ℕ) (key : List ℕ) (number : ℕ) (e : StripeEvent) : Type 0 where
  pub before : List StripeEvent
  pub stands : Stands stripe before e
  pub place_is : length before ≡ place
  pub link : link_of_item (item_after site before key) ≡ Some (link_to class number)

-- a call's move of this entry clears the mark of its item, and cites this place of the item's stripe
pub record ClearsAt (who : Who) (number place : ℕ) (e : Shifted) : Type 0 where
  pub who_is : e.who ≡ who
  pub number_is : e.number ≡ number
  pub why : ClearsMark e.why
  pub place_is : e.at ≡ place

-- a command takes an entry's link away from the item of this key, by the call that unlinked the entry
pub record TakesAway (site : Site) (class : ClassNo) (before : List StripeEvent) (key : List ℕ) (e : Unlinked) (did : Did) : Type 0 where
  pub who : did.who ≡ e.who
  pub key_is : key_of did.command ≡ key
  pub goes : LetsGo site before did (link_to class e.number)
