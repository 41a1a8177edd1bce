-- The sequential cache of one stripe: the items under their keys, and how many new versions there were so far. A step changes at
-- most one key, so from the empty cache on only finitely many keys have an item.
use Rattle.std.specs.Prelude.{ℕ, ◌+◌, List, if◌then◌else◌, Option, Some, None, nat_eq}
use Rattle.std.specs.{Cmp.Lexicographic.pointwise, Option.option_map}
use Rattle.mc_item.specs.{Answer.row_of, Command.key_of, Item.is_dead}
use Rattle.mc_item.specs.declared.{answer.Answer.Answer, answer.Change.Change, answer.Site.Site, command.Command.Command, item.Expiry.Expiry, item.Item.Item}
use Rattle.mc_item.specs.declared.{item.Marks.Marks, reply.Room.Room}
use Rattle.mc_item.specs.declared.answer.Change.TheVariants.{Stays, Goes, Hit, Touched, Counted, Renewed}

-- the item under each key, if it has one, and the number of new versions so far
pub record Cache : Type 0 where
  pub items : List ℕ → Option Item
  pub versions : ℕ

-- the cache with no item, and no version yet
abbrev pub empty_cache : Cache
empty_cache = record { items = λ key. None; versions = 0 }

-- the item with these marks, and all else as it was
abbrev pub marked : Marks → Item → Item
marked marks item =
    record { flags = item.flags; value = item.value; expiry = item.expiry; cas = item.cas; link = item.link; marks = marks }

-- the item with this expiry and these marks, and all else as it was
abbrev pub touched : Expiry → Marks → Item → Item
touched expiry marks item =
    record { flags = item.flags; value = item.value; expiry = expiry; cas = item.cas; link = item.link; marks = marks }

-- the item with this value and cas number, and all else as it was
abbrev pub counted : List ℕ → ℕ → Item → Item
counted value cas item =
    record { flags = item.flags; value = value; expiry = item.expiry; cas = cas; link = item.link; marks = item.marks }

-- the item under a key, if it has one, after a change
abbrev pub changed : Option Item → Change → Option Item
changed found Stays = found
changed found Goes = None
changed found (Hit marks) = option_map (marked marks) found
changed found (Touched expiry marks) = option_map (touched expiry marks) found
changed found (Counted value cas) = option_map (counted value cas) found
changed found (Renewed item) = Some item

-- how many new versions a change makes: one if the item gets a new cas number
abbrev pub versions_of : Change → ℕ
versions_of Stays = 0
versions_of Goes = 0
versions_of (Hit marks) = 0
versions_of (Touched expiry marks) = 0
versions_of (Counted value cas) = 1
versions_of (Renewed item) = 1

-- the cache after a change of one key's item; all other keys keep theirs
abbrev pub after_change : Cache → List ℕ → Change → Cache
after_change cache key change =
    record {
      items = λ q. if pointwise nat_eq key q then changed (cache.items key) change else cache.items q;
      versions = cache.versions + versions_of change;
    }

-- the answer to a command at a moment (a time in seconds), by the row for its key's item, with this room
abbrev pub answer_of : Site → Cache → Command → ℕ → Room → Answer
answer_of site cache command moment room = (row_of site cache.versions (cache.items (key_of command)) command moment).answer room

-- the cache after a command at a moment, with this room
abbrev pub after_command : Site → Cache → Command → ℕ → Room → Cache
after_command site cache command moment room = after_change cache (key_of command) (answer_of site cache command moment room).change

-- the item if it is alive at a moment, otherwise none
abbrev pub if_alive : ℕ → Option Item → Option Item
if_alive moment None = None
if_alive moment (Some item) = if is_dead item moment then None else Some item

-- what is visible of a cache at a moment: the items that are alive
abbrev pub visible_items : Cache → ℕ → List ℕ → Option Item
visible_items cache moment key = if_alive moment (cache.items key)
