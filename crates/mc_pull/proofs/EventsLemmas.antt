-- The events that a command makes in a class: what holds of each kind of them holds of all.
use Rattle.std.proofs.Common.{ℕ, List, [], ◌∷◌}
use Rattle.mc_item.specs.declared.{class_event.ClassEvent.ClassEvent, item.Expiry.Expiry}
use Rattle.mc_segment.specs.{ClassCalls.linked_event, ClassCalls.unlinked_event, ClassState.ClassView}
use Rattle.mc_stripe.specs.StripeState.{Stripe}
use Rattle.mc_pull.specs.declared.parts.Part.{Part}
use Rattle.mc_pull.specs.declared.parts.Part.TheVariants as parts
use Rattle.mc_pull.specs.{Parts.part_events, Perform.Call, Performed.events_in, Performed.part_in}

pub events_so : (P : List ClassEvent → Type 0) (s : Stripe) (c : Call) (v : ClassView) → P []
    → ((key : List ℕ) (cost : ℕ) (expiry : Expiry) → P (linked_event v c.who key cost c.moment expiry ∷ []))
    → ((key : List ℕ) (cost : ℕ) (expiry : Expiry) (number : ℕ) → P (linked_event v c.who key cost c.moment expiry ∷ unlinked_event c.who number ∷ []))
    → ((number : ℕ) → P (unlinked_event c.who number ∷ [])) → P (events_in s c v)
events_so P s c v none links renews unlinks = by (part_in s c v)
  where
    by : (part : Part) → P (part_events v c.who c.moment part)
    by parts.Nothing = none
    by (parts.Links key cost expiry) = links key cost expiry
    by (parts.Renews key cost expiry number) = renews key cost expiry number
    by (parts.Unlinks number) = unlinks number
