-- A class whose tokens are lent apart from it, as on a walk, and histories that were seen to be nearly full (own).
use Rattle.std.specs.Prelude.{◌≡◌, ◌≢◌, ◌<◌, ◌≤◌, ◌+◌, ◌⊎◌, ℕ, drop, length}
use mathlib.Core.List.{IsPrefix}
use Rattle.atomic_table.specs.Seated.{TableId}
use Rattle.mc_item.specs.declared.{config.Config.Config, fault.Fault.Fault, fault.Fault.TheVariants.HistoryFull, fault.Fault.TheVariants.NoMemory}
use Rattle.mc_item.specs.declared.{item.ClassNo.ClassNo, item.Who.Who}
use Rattle.mc_evidence.specs.Setting.{IsClass}
use Rattle.mc_board.specs.{Accounts.AreBy, Histories.Grows, Histories.NotesStay, Histories.list_at, Views.OwnerView, Views.SeenView}
use Rattle.mc_board.specs.declared.rule.Sight.{Sight}
use Rattle.mc_segment.specs.ClassState.{ClassView}
use Rattle.mc_store.specs.{Locked.IsHeldClass, Locked.class_lock, Locked.locks_for, Locked.setting_of, Sides.ClassSide, Sides.class_told}

-- a class together with its tokens, which are lent apart from it
abbrev pub class_side : OwnerView → SeenView → ClassView → ClassSide
class_side owner seen c = record { board = owner.board; lock = owner.lock; class = c; sight = seen.sight }

-- a class whose tokens are lent apart from it, for this call: together they are as `IsHeldClass` says, but the board may lack the
-- last events, which are of this call
pub record IsServed (board : TableId) (config : Config) (who : Who) (owner : OwnerView) (seen : SeenView) (c : ClassView) : Type 0 where
  pub kept : IsHeldClass board config (class_side owner seen c)
  pub behind : IsPrefix owner.history (class_told c.history)
  pub by : AreBy who (drop (length owner.history) (class_told c.history))
  pub board_is : seen.board ≡ owner.board

-- by what was seen of one of the store's locks, its history has too few places left: a stripe's none, a class's fewer than two
pub record HasSeenShort (config : Config) (sight : Sight) : Type 0 where
  pub lock : ℕ
  pub of : lock < locks_for config
  pub short : config.max_events < length (list_at sight.seen lock) + 2
  pub stripe : lock < config.stripes → config.max_events ≤ length (list_at sight.seen lock)

-- the store has this class, and by what was seen of it or of a stripe, its history has no place left
pub record IsShortFor (config : Config) (class : ClassNo) (sight : Sight) : Type 0 where
  pub is : IsClass (setting_of config) class
  pub lock : ℕ
  pub of : (lock ≡ class_lock config class) ⊎ (lock < config.stripes)
  pub full : config.max_events ≤ length (list_at sight.seen lock)

-- the faults that a walk may return: `HistoryFull` only if the class's history, or a stripe's that was seen, has no place left
abbrev pub MayFailSeen : Config → Sight → ClassView → Fault → Type 0
MayFailSeen config sight c HistoryFull = (c.max_events ≤ length c.history) ⊎ IsShortFor config c.number sight
MayFailSeen config sight c NoMemory = Unit {0}

-- a token later: it has seen no less, and what it has noted stays
pub record IsLater (old new : Sight) : Type 0 where
  pub seen : Grows old new
  pub notes : NotesStay old new

-- for each lock but this one, the old list is a beginning of the new one
pub record GrowsBut (but : ℕ) (old new : Sight) : Type 0 where
  pub at : (lock : ℕ) → lock ≢ but → IsPrefix (list_at old.seen lock) (list_at new.seen lock)
