-- What happens to items between two commands: they are only removed, each by a loss that has its cause.
use Rattle.std.specs.Prelude.{ℕ, ◌≡◌, List, [], ◌∷◌, true, length}
use Rattle.mc_item.specs.{Cache.marked, Item.is_dead}
use Rattle.mc_item.specs.declared.{class_event.ClassEvent.ClassEvent, class_event.Evicted.Evicted, item.ClassNo.ClassNo, item.Item.Item, item.Marks.Marks}
use Rattle.mc_item.specs.declared.{lists.Seg.TheVariants.Cold, stripe_event.Cause.Cause, stripe_event.Cause.TheVariants.Expired}
use Rattle.mc_item.specs.declared.{stripe_event.Cause.TheVariants.Taken, stripe_event.Lost.Lost, stripe_event.StripeEvent.StripeEvent}
use Rattle.mc_item.specs.declared.class_event.ClassEvent.TheVariants as entries
use Rattle.mc_item.specs.declared.stripe_event.StripeEvent.TheVariants as items
use Rattle.mc_rule.specs.{Lawful.IsIn, Lists.IsFull, Lists.lists_of, Places.Has, Segment.IsNearTail}

-- none of these events is a command
abbrev pub AreNoCommands : List StripeEvent → Type 0
AreNoCommands [] = Unit {0}
AreNoCommands (items.Did did ∷ es) = ⊥
AreNoCommands (items.Lost lost ∷ es) = AreNoCommands es
AreNoCommands (items.Cooled cooled ∷ es) = AreNoCommands es

-- the items are the same, except perhaps for their marks
abbrev pub IsSameItem : Item → Item → Type 0
IsSameItem item other = (marks : Marks) × (other ≡ marked marks item)

-- an eviction took the lost item's chunk: at the cited place, by the same call, of its entry, near COLD's tail, in a full class.
-- `chunks` is the limit with which the class opened
pub record IsTaking (chunks cited : ℕ) (item : Item) (lost : Lost) (behind : List ClassEvent) (e : Evicted) : Type 0 where
  pub place : length behind ≡ cited
  pub who : e.who ≡ lost.who
  pub number : e.number ≡ item.link.number
  pub full : IsFull chunks behind
  pub cold : IsIn Cold e.number (lists_of behind)
  pub near : IsNearTail e.number (lists_of behind).cold e.passed

-- a loss had its cause: the item was dead at the loss's moment, or its class's history has the eviction that took its chunk
abbrev pub HadCause : (ClassNo → ℕ) → (ClassNo → List ClassEvent) → Item → Lost → Cause → Type 0
HadCause chunks classes item lost (Expired moment) = is_dead item moment ≡ true
HadCause chunks classes item lost (Taken class place) =
    (item.link.class ≡ class) × Has entries.Evicted (classes class) (λ behind e. IsTaking (chunks class) place item lost behind e)

-- one of these events is the loss of the key's item, and the loss had its cause
abbrev pub WasLost : (ClassNo → ℕ) → (ClassNo → List ClassEvent) → List StripeEvent → List ℕ → Item → Type 0
WasLost chunks classes between key item = Has items.Lost between (λ before lost. (lost.key ≡ key) × HadCause chunks classes item lost lost.cause)
