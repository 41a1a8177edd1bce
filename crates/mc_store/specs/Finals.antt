-- A closed store: its stripes and its classes, and what was seen of them before (own).
use Rattle.std.specs.Prelude.{◌≡◌, ◌≢◌, ℕ, ◌+◌, ◌-◌, ◌<◌, ◌≤◌, List, [], Option, Some, None, length, slice_get}
use Rattle.atomic_table.specs.Seated.{TableId}
use Rattle.mc_item.specs.declared.{class_event.ClassEvent.ClassEvent, config.Config.Config, event.Event.Event, item.ClassNo.ClassNo, item.Item.Item}
use Rattle.mc_item.specs.declared.{lists.Entry.Entry, lists.Seg.Seg, item.Who.Who, stripe_event.Did.Did, stripe_event.StripeEvent.StripeEvent}
use Rattle.mc_item.specs.declared.stripe_event.StripeEvent.TheVariants as events
use Rattle.mc_item.specs.Measure.{stripe_of}
use Rattle.mc_board.specs.{Accounts.IsEntered, Accounts.maker_in, Accounts.maker_of, Accounts.who_of}
use Rattle.mc_board.specs.Histories.{HasFigures, HasNoted, HasSeen}
use Rattle.mc_board.specs.declared.rule.Sight.{Sight}
use Rattle.mc_evidence.specs.Setting.{IsClass, Setting, site_in}
use Rattle.mc_rule.specs.{Belonging.HasEntry, Belonging.HasItem, Lists.found, Lists.lists_of, Lists.times_in, Pairs.item_after}
use Rattle.mc_store.specs.{Callers.IsCalled, Locked.IsClassUnder, Locked.IsStripeUnder, Made.WasCalled, Passes.ArePlaced}
use Rattle.mc_store.specs.{Callers.IsPlace, Passes.CallerView, Passes.IsPlacedIn, Passes.PassView, Passes.caller_of, declared.placed.Placed.Placed}
use Rattle.mc_store.specs.Sides.{ClassSide, StripeSide, class_told, stripe_told}

-- a closed store: its board, and all stripes and all classes in the order of their numbers
pub record FinalView : Type 0 where
  pub board : TableId
  pub stripes : List StripeSide
  pub classes : List ClassSide

-- all stripes of a configuration, each as its lock kept it
pub record AreStripes (board : TableId) (config : Config) (stripes : List StripeSide) : Type 0 where
  pub many : length stripes ≡ config.stripes
  pub each : (k : ℕ) (s : StripeSide) → slice_get stripes k ≡ Some s → IsStripeUnder board config k s

-- all classes of a configuration, each as its lock kept it; they are numbered from 1
pub record AreClasses (board : TableId) (config : Config) (classes : List ClassSide) : Type 0 where
  pub many : length classes ≡ length config.sizes
  pub each : (k : ℕ) (s : ClassSide) → slice_get classes k ≡ Some s → IsClassUnder board config (k + 1) s

-- the history of a stripe, or no events if it doesn't exist
abbrev pub stripe_history : Option StripeSide → List StripeEvent
stripe_history None = []
stripe_history (Some s) = s.stripe.history

-- the history of a class, or no events if it doesn't exist
abbrev pub class_history : Option ClassSide → List ClassEvent
class_history None = []
class_history (Some s) = s.class.history

-- the history of the stripe with this number
abbrev pub stripe_histories : List StripeSide → ℕ → List StripeEvent
stripe_histories stripes number = stripe_history (slice_get stripes number)

-- the history of the class with this number; classes are numbered from 1
abbrev pub class_histories : List ClassSide → ClassNo → List ClassEvent
class_histories classes number = class_history (slice_get classes (number.0 - 1))

-- the items are exactly the entries: each item has its entry in the class of its link, which is one of the store's, each entry
-- has its item in its key's stripe, and each number is in its class's lists at most once
pub record AreExactlyEntries (setting : Setting) (stripes : ℕ → List StripeEvent) (classes : ClassNo → List ClassEvent) : Type 0 where
  pub items : (s : ℕ) (key : List ℕ) (item : Item) → s < setting.stripes → item_after (site_in setting s) (stripes s) key ≡ Some item
      → IsClass setting item.link.class × HasEntry (classes item.link.class) key item
  pub entries : (class : ClassNo) (number : ℕ) (seg : Seg) (entry : Entry) → IsClass setting class → found number (lists_of (classes class)) ≡ Some (seg, entry)
      → let s = (stripe_of entry.key setting.stripes).0 in
      (s < setting.stripes) × HasItem (site_in setting s) class (stripes s) number entry
  pub once : (class : ClassNo) (number : ℕ) → IsClass setting class → times_in number (lists_of (classes class)) ≤ 1

-- what was seen of a lock is a beginning of this history, a number that was noted of it is at most its length, and figures that were
-- noted of it are those of its first so many events
pub record IsBehindAt (sight : Sight) (lock : ℕ) (history : List Event) : Type 0 where
  pub seen : HasSeen history sight lock
  pub noted : HasNoted history sight lock
  pub figures : HasFigures history sight lock

-- for each stripe, what was seen and noted is behind its final history
pub record IsBehindStripes (sight : Sight) (stripes : List StripeSide) : Type 0 where
  pub each : (k : ℕ) (s : StripeSide) → slice_get stripes k ≡ Some s → IsBehindAt sight s.lock (stripe_told s.stripe.history)

-- for each class, what was seen and noted is behind its final history
pub record IsBehindClasses (sight : Sight) (classes : List ClassSide) : Type 0 where
  pub each : (k : ℕ) (s : ClassSide) → slice_get classes k ≡ Some s → IsBehindAt sight s.lock (class_told s.class.history)

-- no command in the stripes' final histories is of this call
pub record HasNoDid (who : Who) (stripes : List StripeSide) : Type 0 where
  pub each : (k : ℕ) (s : StripeSide) (place : ℕ) (did : Did) → slice_get stripes k ≡ Some s → slice_get s.stripe.history place ≡ Some (events.Did did)
      → did.who ≢ who

-- each event of the stripes' final histories that names the pass's caller was called: the caller's history has its call
pub record AreItsOwn (pass : PassView) (stripes : List StripeSide) : Type 0 where
  pub each : (k : ℕ) (s : StripeSide) (place : ℕ) (event : StripeEvent) → slice_get stripes k ≡ Some s → slice_get s.stripe.history place ≡ Some event
      → (who_of event).caller ≡ pass.caller → IsCalled pass.calls k place event

-- the commands of the pass's caller in the stripes' final histories are just those at the places that the caller's history gives:
-- each place has the command of its turn, and each of the caller's commands is at one of these places
pub record AreJustPlaced (config : Config) (pass : PassView) (stripes : List StripeSide) : Type 0 where
  pub there : ArePlaced config (caller_of pass) (stripe_histories stripes)
  pub only : (placed : Placed) → IsPlacedIn pass.caller (stripe_histories stripes) placed → IsPlace pass.calls placed

-- each event of the classes' final histories that names the pass's caller was called: the caller's history has its call; the
-- classes come in the order of their numbers, from 1
pub record AreItsOwnInClasses (pass : PassView) (classes : List ClassSide) : Type 0 where
  pub each : (k : ℕ) (s : ClassSide) (place : ℕ) (event : ClassEvent) → slice_get classes k ≡ Some s → slice_get s.class.history place ≡ Some event
      → (maker_of event).caller ≡ pass.caller → WasCalled pass.calls (record { 0 = k + 1 }) event

-- the caller's account has each event of this lock's history that the caller made, as made in the event's turn
pub record AreEntered (caller : CallerView) (lock : ℕ) (history : List Event) : Type 0 where
  pub each : (place : ℕ) (event : Event) (who : Who) → slice_get history place ≡ Some event → maker_in event ≡ Some who
      → who.caller ≡ caller.number → IsEntered caller.made who.turn lock place

-- the account of the pass's caller has each event of the stripes' and the classes' final histories that the caller made, as made in
-- the event's turn
pub record IsAccounted (pass : PassView) (all : List StripeSide) (all_classes : List ClassSide) : Type 0 where
  pub stripes : (k : ℕ) (s : StripeSide) (place : ℕ) (event : StripeEvent) → slice_get all k ≡ Some s → slice_get s.stripe.history place ≡ Some event
      → (who_of event).caller ≡ pass.caller → IsEntered pass.made (who_of event).turn s.lock place
  pub classes : (k : ℕ) (s : ClassSide) (place : ℕ) (event : ClassEvent) → slice_get all_classes k ≡ Some s → slice_get s.class.history place ≡ Some event
      → (maker_of event).caller ≡ pass.caller → IsEntered pass.made (maker_of event).turn s.lock place
