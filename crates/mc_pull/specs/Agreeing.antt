-- How steps on a class and a stripe keep histories in agreement.
use Rattle.std.specs.Prelude.{ℕ, ◌≡◌, ◌≢◌, List, Some, slice_get}
use Rattle.mc_item.specs.declared.{class_event.ClassEvent.ClassEvent, item.ClassNo.ClassNo, item.Who.Who, reply.Room.Room}
use Rattle.mc_item.specs.declared.class_event.ClassEvent.TheVariants as events
use Rattle.mc_item.specs.declared.reply.Room.TheVariants as rooms
use Rattle.mc_rule.specs.{Agreement.Agree, Segment.Rule}
use Rattle.mc_segment.specs.ClassState.{ClassView}
use Rattle.mc_stripe.specs.StripeState.{Stripe}
use Rattle.mc_pull.specs.{Lent.OfEachClass, Lent.EachPair, Perform.Call}

-- the histories of a class and of a stripe agree
abbrev pub AgreeNow : ClassView → Stripe → Type 0
AgreeNow c s = Agree s.site c.rule c.number s.history c.history

-- the stripe's history still agrees with this class's, if it did before, and so with the unchanged history of each other class
pub record KeepsAgreement (c c_new : ClassView) (s s_new : Stripe) : Type 0 where
  pub own : AgreeNow c s → AgreeNow c_new s_new
  pub others : (other : ClassNo) (rule : Rule) (history : List ClassEvent) → other ≢ c.number → Agree s.site rule other s.history history
      → Agree s.site rule other s_new.history history

-- if the room names a refusal by this class, the class's history has it at that place, by this caller's call
abbrev pub HasRefusal : Who → Room → ClassNo → List ClassEvent → Type 0
HasRefusal who room class history =
    (place : ℕ) → room ≡ rooms.Refused class place → slice_get history place ≡ Some (events.Refused (record { who = who }))

-- none of these classes has this number
abbrev pub IsApart : ClassNo → List ClassView → Type 0
IsApart number vs = OfEachClass (λ v. number ≢ v.number) vs

-- the stripe's history still agrees, if it did before, with each lent class's, and with other classes' unchanged histories that
-- have the refusal the room may name
pub record KeepsAgreements (c : Call) (s s_new : Stripe) (vs ws : List ClassView) : Type 0 where
  pub own : EachPair (λ v w. AgreeNow v s → AgreeNow w s_new) vs ws
  pub others : (other : ClassNo) (rule : Rule) (history : List ClassEvent) → IsApart other vs → HasRefusal c.who c.room other history
      → Agree s.site rule other s.history history → Agree s.site rule other s_new.history history
