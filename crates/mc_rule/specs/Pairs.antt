-- Which event of a stripe and which event of a slab class are partners: one call makes both, of an item and of its entry.
-- `before` and `behind` are the earlier events of the stripe and of the class. An event's place is the number of earlier ones.
use Rattle.std.specs.Prelude.{ℕ, ◌≡◌, ◌≢◌, List, [], ◌∷◌, ◌++◌, length, Option, Some, IsSomeAnd}
use Rattle.mc_item.specs.{Command.key_of, Item.link_of_item, Measure.cost_of, Measure.stripe_of, Stripe.cache_of}
use Rattle.mc_item.specs.declared.{answer.Site.Site, class_event.ClassEvent.ClassEvent, class_event.Evicted.Evicted, class_event.Linked.Linked}
use Rattle.mc_item.specs.declared.{class_event.Reclaimed.Reclaimed, class_event.Refused.Refused, class_event.Shifted.Shifted, class_event.Unlinked.Unlinked}
use Rattle.mc_item.specs.declared.{class_event.Why.Why, item.ClassNo.ClassNo, item.Item.Item, item.Link.Link, stripe_event.Cause.TheVariants.Expired}
use Rattle.mc_item.specs.declared.{stripe_event.Cause.TheVariants.Taken, stripe_event.Cooled.Cooled, stripe_event.Did.Did, stripe_event.Lost.Lost}
use Rattle.mc_item.specs.declared.{stripe_event.StripeEvent.StripeEvent}
use Rattle.mc_item.specs.declared.class_event.Why.TheVariants as whys
use Rattle.mc_item.specs.declared.reply.Room.TheVariants as rooms
use Rattle.mc_item.specs.declared.stripe_event.StripeEvent.TheVariants as events
use Rattle.mc_rule.specs.Segment.{Rule, segment_for}

-- the link to a class's entry
abbrev pub link_to : ClassNo → ℕ → Link
link_to class number = record { class = class; number = number }

-- the item that a stripe holds under a key after these events, if it holds one
abbrev pub item_after : Site → List StripeEvent → List ℕ → Option Item
item_after site history key = (cache_of site history).items key

-- the key belongs to the stripe
abbrev pub IsKeyOf : Site → List ℕ → Type 0
IsKeyOf site key = stripe_of key site.stripes ≡ record { 0 = site.stripe }

-- a command takes a link away: its key's item had the link before the command, and doesn't have it after the command
pub record LetsGo (site : Site) (before : List StripeEvent) (did : Did) (link : Link) : Type 0 where
  pub had : link_of_item (item_after site before (key_of did.command)) ≡ Some link
  pub has_not : link_of_item (item_after site (before ++ events.Did did ∷ []) (key_of did.command)) ≢ Some link

-- a command that stores a new item and the new entry are partners: the command was given the entry's chunk; the entry has its key
-- and moment, the cost of the new item, and the segment for the new item's expiry
pub record IsLinking (site : Site) (rule : Rule) (class : ClassNo) (before : List StripeEvent) (did : Did) (e : Linked) : Type 0 where
  pub who : e.who ≡ did.who
  pub room : did.room ≡ rooms.At (link_to class e.number)
  pub key : e.key ≡ key_of did.command
  pub moment : e.moment ≡ did.moment
  pub item : IsSomeAnd (item_after site (before ++ events.Did did ∷ []) (key_of did.command)) (λ item. (e.cost ≡ cost_of (key_of did.command) item.value)
      × (e.seg ≡ segment_for rule did.moment item.expiry))

-- a command that replaces or removes an item and the unlinking of its entry are partners: the command takes the link away
pub record IsUnlinking (site : Site) (class : ClassNo) (before : List StripeEvent) (did : Did) (e : Unlinked) : Type 0 where
  pub who : e.who ≡ did.who
  pub goes : LetsGo site before did (link_to class e.number)

-- the loss of an item whose chunk is taken and the eviction of its entry are partners: each event has the other's place
pub record IsEviction (site : Site) (class : ClassNo) (before : List StripeEvent) (lost : Lost) (behind : List ClassEvent) (e : Evicted) : Type 0 where
  pub who : e.who ≡ lost.who
  pub item : link_of_item (item_after site before lost.key) ≡ Some (link_to class e.number)
  pub cause : lost.cause ≡ Taken class (length behind)
  pub at : e.at ≡ length before

-- the loss of a dead item and the reclaiming of its entry are partners: at one moment, and the latter has the former's place
pub record IsReclaiming (site : Site) (class : ClassNo) (before : List StripeEvent) (lost : Lost) (e : Reclaimed) : Type 0 where
  pub who : e.who ≡ lost.who
  pub item : link_of_item (item_after site before lost.key) ≡ Some (link_to class e.number)
  pub cause : lost.cause ≡ Expired e.moment
  pub at : e.at ≡ length before

-- a move for this reason clears the item's ACTIVE mark
abbrev pub ClearsMark : Why → Type 0
ClearsMark whys.Hit = Unit {0}
ClearsMark whys.Active = Unit {0}
ClearsMark (whys.Over place) = ⊥
ClearsMark (whys.Old place) = ⊥
ClearsMark whys.Forced = ⊥

-- the cooling of an item and the move of its entry are partners: the move clears the mark, and has the place of the cooling
pub record IsCooling (site : Site) (class : ClassNo) (before : List StripeEvent) (cooled : Cooled) (e : Shifted) : Type 0 where
  pub who : e.who ≡ cooled.who
  pub item : link_of_item (item_after site before cooled.key) ≡ Some (link_to class e.number)
  pub why : ClearsMark e.why
  pub at : e.at ≡ length before

-- a command for which no chunk was found and the refusal of the class are partners: the command names the refusal's place
pub record IsRefusal (class : ClassNo) (did : Did) (behind : List ClassEvent) (e : Refused) : Type 0 where
  pub who : e.who ≡ did.who
  pub room : did.room ≡ rooms.Refused class (length behind)
