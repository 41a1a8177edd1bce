-- A command that ends with `HistoryFull`: which history lacks places for it (own).
use Rattle.std.specs.Prelude.{◌≡◌, ◌<◌, ◌≤◌, ◌+◌, ◌⊎◌, ℕ, List, Some, length}
use mathlib.Core.List.{IsPrefix}
use Rattle.mc_item.specs.{Cache.visible_items, Command.key_of}
use Rattle.mc_item.specs.declared.{answer.Need.Need, class_event.ClassEvent.ClassEvent, command.Command.Command, config.Config.Config, item.ClassNo.ClassNo}
use Rattle.mc_item.specs.declared.{item.Link.Link, reply.Room.Room}
use Rattle.mc_item.specs.declared.answer.Need.TheVariants as needs
use Rattle.mc_item.specs.declared.reply.Room.TheVariants as rooms
use Rattle.mc_rule.specs.Lists.{IsFull}
use Rattle.mc_evidence.specs.Setting.{IsClass}
use Rattle.mc_board.specs.Histories.{list_at}
use Rattle.mc_board.specs.declared.rule.Sight.{Sight}
use Rattle.mc_segment.specs.ClassState.{chunks_for}
use Rattle.mc_stripe.specs.{Plan.dead_link, Plan.fate_of, Plan.visible_row, StripeState.Stripe, StripeState.cache_now, Trying.item_of, Wanting.changes_at}
use Rattle.mc_store.specs.{Locked.class_lock, Locked.setting_of, Serving.IsShortFor, Sides.class_told}

-- the store has this class, and by what was seen of it its history lacks places for so many more events
pub record LacksPlaces (config : Config) (sight : Sight) (class : ClassNo) (events : ℕ) : Type 0 where
  pub is : IsClass (setting_of config) class
  pub short : config.max_events < length (list_at sight.seen (class_lock config class)) + events

-- the room is of the class that is needed, or none if no new chunk is needed
abbrev pub IsRoomOf : Need → Room → Type 0
IsRoomOf (needs.Fresh class) (rooms.At link) = link.class ≡ class
IsRoomOf (needs.Fresh class) (rooms.Refused other place) = other ≡ class
IsRoomOf (needs.Fresh class) rooms.Keep = ⊥
IsRoomOf needs.Nothing room = room ≡ rooms.Keep
IsRoomOf needs.Same room = room ≡ rooms.Keep
IsRoomOf needs.TooLarge room = room ≡ rooms.Keep

-- a command's item is dead; to remove it takes a place in its stripe's history and one in its class's, and one of the two is full
pub record LacksBurial (config : Config) (s s_new : Stripe) (sight : Sight) (command : Command) (moment : ℕ) : Type 0 where
  pub link : Link
  pub dead : dead_link (item_of s command) moment ≡ Some link
  pub lacks : (s_new.limit ≤ length s_new.history) ⊎ LacksPlaces config sight link.class 1

-- the history of a class lacks places for the entries that come and leave when the command is made in some room
pub record LacksEntries (config : Config) (s : Stripe) (sight : Sight) (command : Command) (moment : ℕ) : Type 0 where
  pub class : ClassNo
  pub room : Room
  pub fits : IsRoomOf (visible_row s command moment).need room
  pub lacks : LacksPlaces config sight class
      (changes_at class room
      (fate_of (key_of command) (visible_items (cache_now s) moment (key_of command)) ((visible_row s command moment).answer room).change))

-- what was seen of a class begins with a history that left it full
pub record HasSeenFull (config : Config) (sight : Sight) (class : ClassNo) : Type 0 where
  pub before : List ClassEvent
  pub seen : IsPrefix (class_told before) (list_at sight.seen (class_lock config class))
  pub full : IsFull (chunks_for config class) before

-- a command needs a chunk of a class that was full, and the history of this class or of a stripe has no place left for a step of a
-- search, or the history of a class lacks places for the entries that come and leave after it
pub record LacksSearch (config : Config) (s s_new : Stripe) (sight : Sight) (command : Command) (moment : ℕ) : Type 0 where
  pub class : ClassNo
  pub fresh : (visible_row s command moment).need ≡ needs.Fresh class
  pub full : HasSeenFull config sight class
  pub short : IsShortFor config class sight ⊎ LacksEntries config s_new sight command moment

-- a history is too full for a command on this stripe: the stripe's has no place, or there are too few for the removal of a dead
-- item, for the entries that come and leave, or for a search
abbrev pub IsFullFor : Config → (s s_new : Stripe) → Sight → Command → ℕ → Type 0
IsFullFor config s s_new sight command moment =
    (s_new.limit ≤ length s_new.history)
    ⊎ (LacksBurial config s s_new sight command moment ⊎ (LacksEntries config s sight command moment ⊎ LacksSearch config s s_new sight command moment))
