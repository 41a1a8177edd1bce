-- What becomes of a key's item and its chunk by a command, and the row of a command by the visible item.
use Rattle.std.specs.Prelude.{ℕ, ◌≡◌, ◌&&◌, List, Bool, true, false, not, if◌then◌else◌, Option, Some, None, IsSomeAnd}
use Rattle.mc_item.specs.{Answer.Row, Answer.row_of, Cache.changed, Cache.visible_items, Command.key_of, Item.is_dead, Item.link_of_item, Measure.cost_of}
use Rattle.mc_item.specs.declared.{answer.Change.Change, command.Command.Command, item.Item.Item, item.Link.Link}
use Rattle.mc_item.specs.declared.answer.Change.TheVariants as changes
use Rattle.mc_stripe.specs.StripeState.{Stripe, cache_now}
use Rattle.mc_stripe.specs.declared.fate.Fate.{Fate}
use Rattle.mc_stripe.specs.declared.fate.Fate.TheVariants as fates

-- the link of an item, if it is dead at the moment
abbrev pub dead_link : Option Item → ℕ → Option Link
dead_link None moment = None
dead_link (Some item) moment = if is_dead item moment then Some item.link else None

-- the fate of an item that is removed
abbrev pub gone_fate : Option Item → Fate
gone_fate None = fates.Untouched
gone_fate (Some item) = fates.Goes item.link

-- the fate of an item by a hit that leaves it ACTIVE or not: woken if it is ACTIVE only after the hit, else untouched
abbrev pub hit_fate : Bool → Option Item → Fate
hit_fate active None = fates.Untouched
hit_fate active (Some item) = if active && not item.marks.active then fates.Woken item.link else fates.Untouched

-- what becomes of a key's item and its chunk by a change of the item
abbrev pub fate_of : List ℕ → Option Item → Change → Fate
fate_of key found changes.Stays = fates.Untouched
fate_of key found changes.Goes = gone_fate found
fate_of key found (changes.Hit marks) = hit_fate marks.active found
fate_of key found (changes.Touched expiry marks) = hit_fate marks.active found
fate_of key found (changes.Counted value cas) = fates.Untouched
fate_of key found (changes.Renewed item) = fates.Renewed (cost_of key item.value) item.expiry (link_of_item found)

-- the link of the item that a hit woke
abbrev pub woken_of : Fate → Option Link
woken_of fates.Untouched = None
woken_of (fates.Renewed cost expiry old) = None
woken_of (fates.Goes link) = None
woken_of (fates.Woken link) = Some link

-- a change makes the item of this link ACTIVE: before it the item isn't, after it the item is, with the same link
pub record Wakes (found : Option Item) (change : Change) (link : Link) : Type 0 where
  pub was : IsSomeAnd found (λ item. (item.link ≡ link) × (item.marks.active ≡ false))
  pub is : IsSomeAnd (changed found change) (λ item. (item.link ≡ link) × (item.marks.active ≡ true))

-- the row of a command at a moment, by the item of its key that is visible then
abbrev pub visible_row : Stripe → Command → ℕ → Row
visible_row s command moment = row_of s.site (cache_now s).versions (visible_items (cache_now s) moment (key_of command)) command moment
