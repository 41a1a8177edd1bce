-- The events that one call makes in a stripe's and in a slab class's history.
use Rattle.std.specs.Prelude.{ℕ, ◌≡◌, ◌⊎◌, List, Some}
use Rattle.mc_item.specs.{Command.key_of, Measure.cost_of}
use Rattle.mc_item.specs.declared.{answer.Site.Site, class_event.ClassEvent.ClassEvent, class_event.Linked.Linked, item.ClassNo.ClassNo, item.Item.Item}
use Rattle.mc_item.specs.declared.{item.Who.Who, lists.Entry.Entry, lists.Seg.Seg, stripe_event.Cause.TheVariants.Expired, stripe_event.Cause.TheVariants.Taken}
use Rattle.mc_item.specs.declared.{stripe_event.Did.Did, stripe_event.StripeEvent.StripeEvent}
use Rattle.mc_item.specs.declared.class_event.ClassEvent.TheVariants as entries
use Rattle.mc_item.specs.declared.reply.Room.TheVariants as rooms
use Rattle.mc_item.specs.declared.stripe_event.StripeEvent.TheVariants as items
use Rattle.mc_rule.specs.{Lists.found, Lists.lists_of, Places.Has, Segment.Rule, Segment.segment_for}
use Rattle.mc_rule.specs.Pairs.{ClearsMark, IsKeyOf, IsRefusal, LetsGo, link_to}

-- the loss of an item whose chunk was taken, by the event at this place of its class
abbrev pub lost_to : ClassNo → Who → List ℕ → ℕ → StripeEvent
lost_to class who key place = items.Lost (record { who = who; key = key; cause = Taken class place })

-- the loss of an item that was dead at this moment (time in seconds)
abbrev pub lost_at : Who → List ℕ → ℕ → StripeEvent
lost_at who key moment = items.Lost (record { who = who; key = key; cause = Expired moment })

-- the cooling of an item: its ACTIVE mark was cleared
abbrev pub cooled_as : Who → List ℕ → StripeEvent
cooled_as who key = items.Cooled (record { who = who; key = key })

-- the eviction of an entry, which cites this place of its stripe
abbrev pub evicted_as : Who → ℕ → List ℕ → ℕ → ClassEvent
evicted_as who number passed at = entries.Evicted (record { who = who; number = number; passed = passed; at = at })

-- the reclaiming of an entry whose item was dead at this moment, which cites this place of its stripe
abbrev pub reclaimed_as : Who → ℕ → ℕ → ℕ → ClassEvent
reclaimed_as who number moment at = entries.Reclaimed (record { who = who; number = number; moment = moment; at = at })

-- the entry of this number, if there is one, has a key of another stripe
abbrev pub IsOfOthers : Site → List ClassEvent → ℕ → Type 0
IsOfOthers site history number = (s : Seg) (x : Entry) → found number (lists_of history) ≡ Some (s, x) → IsKeyOf site x.key → ⊥

-- a class's event needs no partner in a stripe: it has no entry, another stripe's entry, or is a move that clears no mark
abbrev pub IsAlone : Site → List ClassEvent → ClassEvent → Type 0
IsAlone site history (entries.Linked e) = IsKeyOf site e.key → ⊥
IsAlone site history (entries.Unlinked e) = IsOfOthers site history e.number
IsAlone site history (entries.Shifted e) = (ClearsMark e.why → ⊥) ⊎ IsOfOthers site history e.number
IsAlone site history (entries.Evicted e) = IsOfOthers site history e.number
IsAlone site history (entries.Reclaimed e) = IsOfOthers site history e.number
IsAlone site history (entries.Surveyed e) = Unit {0}
IsAlone site history (entries.Refused e) = Unit {0}
IsAlone site history (entries.Limited e) = Unit {0}

-- a command was given no chunk of a class
abbrev pub IsGivenNone : ClassNo → Did → Type 0
IsGivenNone class did = (n : ℕ) → did.room ≡ rooms.At (link_to class n) → ⊥

-- a command takes no link of a class away
abbrev pub LetsNoneGo : Site → ClassNo → List StripeEvent → Did → Type 0
LetsNoneGo site class before did = (n : ℕ) → LetsGo site before did (link_to class n) → ⊥

-- if a command cites a refusal of a class, the class's history has that refusal
abbrev pub IsRefusedThere : ClassNo → Did → List ClassEvent → Type 0
IsRefusedThere class did seen = (place : ℕ) → did.room ≡ rooms.Refused class place → Has entries.Refused seen (λ behind e. IsRefusal class did behind e)

-- the event of the new entry for a command's new item
abbrev pub linked_for : Rule → ℕ → Did → Item → Linked
linked_for rule number did item =
    record {
      who = did.who;
      number = number;
      key = key_of did.command;
      cost = cost_of (key_of did.command) item.value;
      seg = segment_for rule did.moment item.expiry;
      moment = did.moment;
    }
