-- A stripe and a slab class, each with its tokens of the board (own).
use Rattle.std.specs.Prelude.{◌≡◌, ℕ, List, Some, map, slice_get}
use Rattle.atomic_table.specs.Seated.{TableId}
use Rattle.mc_item.specs.declared.{class_event.ClassEvent.ClassEvent, event.Event.Event, event.Event.TheVariants.Class, event.Event.TheVariants.Stripe}
use Rattle.mc_item.specs.declared.{stripe_event.StripeEvent.StripeEvent}
use Rattle.mc_board.specs.Histories.{with_seen}
use Rattle.mc_board.specs.declared.rule.Sight.{Sight}
use Rattle.mc_segment.specs.ClassState.{ClassView}
use Rattle.mc_stripe.specs.StripeState as states

-- a stripe's history as the board has it
abbrev pub stripe_told : List StripeEvent → List Event
stripe_told history = map Stripe history

-- a class's history as the board has it
abbrev pub class_told : List ClassEvent → List Event
class_told history = map Class history

-- a stripe on the board: the board's table, its lock there, the stripe itself, and what it has seen of all locks
pub record StripeSide : Type 0 where
  pub board : TableId
  pub lock : ℕ
  pub stripe : states.Stripe
  pub sight : Sight

-- a class on the board: the board's table, its lock there, the class itself, and what it has seen of all locks
pub record ClassSide : Type 0 where
  pub board : TableId
  pub lock : ℕ
  pub class : ClassView
  pub sight : Sight

-- what a stripe has seen of all locks, with all of its own history
abbrev pub stripe_sight : StripeSide → Sight
stripe_sight s = with_seen s.sight s.lock (stripe_told s.stripe.history)

-- the stripes are all of this board
pub record AreStripesOn (board : TableId) (stripes : List StripeSide) : Type 0 where
  pub each : (k : ℕ) (s : StripeSide) → slice_get stripes k ≡ Some s → s.board ≡ board

-- the classes are all of this board
pub record AreClassesOn (board : TableId) (classes : List ClassSide) : Type 0 where
  pub each : (k : ℕ) (s : ClassSide) → slice_get classes k ≡ Some s → s.board ≡ board
