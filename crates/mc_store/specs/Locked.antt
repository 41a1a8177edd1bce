-- What lies under the locks of a store: each state is one of the store's, and its history is sound by what it has seen (own).
use Rattle.std.specs.Prelude.{◌≡◌, ℕ, ◌+◌, ◌-◌, ◌<◌, length}
use Rattle.atomic_table.specs.Seated.{TableId}
use Rattle.mc_item.specs.Config.{IsSound}
use Rattle.mc_item.specs.declared.{call_event.CallEvent.CallEvent, command.Command.Command, config.Config.Config, item.ClassNo.ClassNo, item.Who.Who}
use Rattle.mc_rule.specs.Segment.{rule_of}
use Rattle.mc_board.specs.Histories.{list_at}
use Rattle.mc_board.specs.declared.rule.Sight.{Sight}
use Rattle.mc_segment.specs.ClassState.{chunks_for}
use Rattle.mc_pull.specs.Question as made
use Rattle.mc_evidence.specs.{Locks.ClassKeeps, Locks.StripeKeeps, Seen.classes_seen, Seen.stripes_seen, Setting.IsClass, Setting.Setting}
use Rattle.mc_store.specs.declared.lock_no.LockNo.{LockNo}
use Rattle.mc_store.specs.declared.lock_no.LockNo.TheVariants as locks
use Rattle.mc_store.specs.Callers.{AreCalled, IsBegun, IsBegunAs, asked_for, call_events}
use Rattle.mc_pull.specs.Suited.{MayNeedChunk}
use Rattle.mc_store.specs.{Made.AreCalledInClass, Sides.ClassSide, Sides.StripeSide}

-- what a configuration fixes for a store
abbrev pub setting_of : Config → Setting
setting_of config = record { stripes = config.stripes; sizes = config.sizes; rule = rule_of config; chunks = chunks_for config }

-- how many locks there are: one for each stripe, and one for each class
abbrev pub locks_for : Config → ℕ
locks_for config = config.stripes + length config.sizes

-- how many histories the board has: one for each lock, and one for each caller
abbrev pub histories_for : Config → ℕ
histories_for config = locks_for config + config.callers

-- the place of a caller's history on the board, after those of the locks
abbrev pub caller_place : Config → ℕ → ℕ
caller_place config caller = locks_for config + caller

-- what was seen of a caller's history has a call in this turn, made at this moment
pub record HasBegun (config : Config) (sight : Sight) (who : Who) (moment : ℕ) : Type 0 where
  pub of : who.caller < config.callers
  pub begun : IsBegun (call_events (list_at sight.seen (caller_place config who.caller))) who.turn moment

-- what was seen of a caller's history has just this call in this turn, made at this moment
pub record HasBegunAs (config : Config) (sight : Sight) (who : Who) (moment : ℕ) (call : CallEvent) : Type 0 where
  pub of : who.caller < config.callers
  pub begun : IsBegunAs (call_events (list_at sight.seen (caller_place config who.caller))) who.turn moment call

-- what was seen of a caller's history has, in this turn and at this moment, the call for some command
pub record HasBegunCommand (config : Config) (sight : Sight) (who : Who) (moment : ℕ) : Type 0 where
  pub command : Command
  pub begun : HasBegunAs config sight who moment (asked_for command moment)

-- the same of some command that may need a chunk
pub record HasBegunSearch (config : Config) (sight : Sight) (who : Who) (moment : ℕ) : Type 0 where
  pub command : Command
  pub needs : MayNeedChunk command
  pub begun : HasBegunAs config sight who moment (asked_for command moment)

-- the number of a class's lock: those of the stripes come first, and classes are numbered from 1
abbrev pub class_lock : Config → ClassNo → ℕ
class_lock config class = config.stripes + (class.0 - 1)

-- the number of the lock of a stripe or a class
abbrev pub lock_of : Config → LockNo → ℕ
lock_of config (locks.Stripe number) = number.0
lock_of config (locks.Class number) = class_lock config number

-- the store has this stripe or class
abbrev pub IsLock : Config → LockNo → Type 0
IsLock config (locks.Stripe number) = number.0 < config.stripes
IsLock config (locks.Class number) = IsClass (setting_of config) number

-- what a stripe's lock keeps: the stripe is of this board, under the lock of its number, and made with this checked
-- configuration; its history is legal, each event's partners are in what was seen of the classes, and its call is in what was
-- seen of its caller's history
pub record IsLockedStripe (board : TableId) (config : Config) (s : StripeSide) : Type 0 where
  pub board_is : s.board ≡ board
  pub lock_is : s.lock ≡ s.stripe.site.stripe
  pub of : s.stripe.site.stripe < config.stripes
  pub sound : IsSound config
  pub made_with : made.IsStripeOf config s.stripe
  pub keeps : StripeKeeps (setting_of config) s.stripe.site.stripe s.stripe.history (classes_seen config.stripes (list_at s.sight.seen))
  pub called : AreCalled (locks_for config) config.callers s.stripe.site.stripe s.stripe.history (list_at s.sight.seen)

-- what a class's lock keeps but for calls: the class is of this board, under the lock of its number, and made with this
-- configuration; its history is lawful, and what was seen of the stripes has each event's partner and the item that it refers to
pub record IsHeldClass (board : TableId) (config : Config) (s : ClassSide) : Type 0 where
  pub board_is : s.board ≡ board
  pub lock_is : s.lock ≡ class_lock config s.class.number
  pub is : IsClass (setting_of config) s.class.number
  pub made_with : made.IsClassOf config s.class
  pub keeps : ClassKeeps (setting_of config) s.class.number s.class.history (stripes_seen (list_at s.sight.seen))

-- what a class's lock keeps: all that `IsHeldClass` says, and each event's call is in what was seen of its caller's history
pub record IsLockedClass (board : TableId) (config : Config) (s : ClassSide) : Type 0 where
  pub held : IsHeldClass board config s
  pub called : AreCalledInClass (locks_for config) config.callers s.class.number s.class.history (list_at s.sight.seen)

-- what lies under the lock of the stripe with this number
pub record IsStripeUnder (board : TableId) (config : Config) (number : ℕ) (s : StripeSide) : Type 0 where
  pub kept : IsLockedStripe board config s
  pub number_is : s.stripe.site.stripe ≡ number

-- what lies under the lock of the class with this number
pub record IsClassUnder (board : TableId) (config : Config) (number : ℕ) (s : ClassSide) : Type 0 where
  pub kept : IsLockedClass board config s
  pub number_is : s.class.number.0 ≡ number
