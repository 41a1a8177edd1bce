-- Evidence: the partner that an event of a stripe must have in a class's history, and an event of a class in a stripe's. `seen`
-- is as much of the other history as has been seen. `before` and `behind` are earlier events, of the stripe and of the class.
use Rattle.std.specs.Prelude.{ℕ, ◌≡◌, List, Some}
use Rattle.mc_item.specs.{Command.key_of, Item.link_of_item}
use Rattle.mc_item.specs.declared.{answer.Site.Site, class_event.ClassEvent.ClassEvent, item.ClassNo.ClassNo, lists.Entry.Entry, lists.Seg.Seg}
use Rattle.mc_item.specs.declared.{stripe_event.Cause.Cause, stripe_event.Cause.TheVariants.Expired, stripe_event.Cause.TheVariants.Taken, stripe_event.Did.Did}
use Rattle.mc_item.specs.declared.{stripe_event.Lost.Lost, stripe_event.StripeEvent.StripeEvent}
use Rattle.mc_item.specs.declared.class_event.ClassEvent.TheVariants as entries
use Rattle.mc_item.specs.declared.reply.Room.TheVariants as rooms
use Rattle.mc_item.specs.declared.stripe_event.StripeEvent.TheVariants as items
use Rattle.mc_rule.specs.{Lists.found, Lists.lists_of, Places.Each, Places.Has, Segment.Rule}
use Rattle.mc_rule.specs.Pairs.{ClearsMark, IsCooling, IsEviction, IsKeyOf, IsLinking, IsReclaiming, IsRefusal, IsUnlinking, LetsGo, item_after, link_to}

-- a class has the partners of a stripe's command: a chunk that it was given is linked, a link that it took away is unlinked, and
-- a refusal that it names is there
pub record HasCommandTrace (site : Site) (rule : Rule) (class : ClassNo) (seen : List ClassEvent) (before : List StripeEvent) (did : Did) : Type 0 where
  pub linked : (number : ℕ) → did.room ≡ rooms.At (link_to class number) → Has entries.Linked seen (λ behind e. IsLinking site rule class before did e)
  pub unlinked : (number : ℕ) → LetsGo site before did (link_to class number) → Has entries.Unlinked seen (λ behind e. IsUnlinking site class before did e)
  pub refused : (place : ℕ) → did.room ≡ rooms.Refused class place → Has entries.Refused seen (λ behind e. IsRefusal class did behind e)

-- the class of a lost item has the loss's partner: an eviction if the chunk was taken, a reclaiming if the item was dead
abbrev pub HasLossTrace : Site → ClassNo → List ClassEvent → List StripeEvent → Lost → Cause → Type 0
HasLossTrace site class seen before lost (Taken other place) = Has entries.Evicted seen (λ behind e. IsEviction site class before lost behind e)
HasLossTrace site class seen before lost (Expired moment) = Has entries.Reclaimed seen (λ behind e. IsReclaiming site class before lost e)

-- a class's history has the partners of a stripe's event, if the event is about that class
abbrev pub HasTrace : Site → Rule → ClassNo → List ClassEvent → List StripeEvent → StripeEvent → Type 0
HasTrace site rule class seen before (items.Did did) = HasCommandTrace site rule class seen before did
HasTrace site rule class seen before (items.Lost lost) =
    (number : ℕ) → link_of_item (item_after site before lost.key) ≡ Some (link_to class number) → HasLossTrace site class seen before lost lost.cause
HasTrace site rule class seen before (items.Cooled cooled) =
    (number : ℕ) → link_of_item (item_after site before cooled.key) ≡ Some (link_to class number)
    → Has entries.Shifted seen (λ behind e. IsCooling site class before cooled e)

-- if the entry of this number has a key of the stripe, `P` holds of the key
abbrev pub OfStripe : Site → List ClassEvent → ℕ → (List ℕ → Type 0) → Type 0
OfStripe site behind number P = (s : Seg) (entry : Entry) → found number (lists_of behind) ≡ Some (s, entry) → IsKeyOf site entry.key → P entry.key

-- a stripe's history has the partner of a class's event, if the event's entry has a key of that stripe; surveys, refusals,
-- new limits, and moves that clear no mark need none
abbrev pub IsBacked : Site → Rule → ClassNo → List StripeEvent → List ClassEvent → ClassEvent → Type 0
IsBacked site rule class seen behind (entries.Linked e) = IsKeyOf site e.key → Has items.Did seen (λ before did. IsLinking site rule class before did e)
IsBacked site rule class seen behind (entries.Unlinked e) =
    OfStripe site behind e.number (λ key. Has items.Did seen (λ before did. (key_of did.command ≡ key) × IsUnlinking site class before did e))
IsBacked site rule class seen behind (entries.Evicted e) =
    OfStripe site behind e.number (λ key. Has items.Lost seen (λ before lost. (lost.key ≡ key) × IsEviction site class before lost behind e))
IsBacked site rule class seen behind (entries.Reclaimed e) =
    OfStripe site behind e.number (λ key. Has items.Lost seen (λ before lost. (lost.key ≡ key) × IsReclaiming site class before lost e))
IsBacked site rule class seen behind (entries.Shifted e) =
    ClearsMark e.why → OfStripe site behind e.number (λ key. Has items.Cooled seen (λ before cooled. (cooled.key ≡ key) × IsCooling site class before cooled e))
IsBacked site rule class seen behind (entries.Surveyed e) = Unit {0}
IsBacked site rule class seen behind (entries.Refused e) = Unit {0}
IsBacked site rule class seen behind (entries.Limited e) = Unit {0}

-- a stripe's history and a class's are evidence of each other: each has the partners of the other's events
pub record AreEvidence (site : Site) (rule : Rule) (class : ClassNo) (stripe : List StripeEvent) (history : List ClassEvent) : Type 0 where
  pub told : Each (HasTrace site rule class history) stripe
  pub backed : Each (IsBacked site rule class stripe) history
