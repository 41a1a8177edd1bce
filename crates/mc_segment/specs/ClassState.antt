-- A slab class as its callers see it: its history and limits, and how many more events take no memory.
use Rattle.std.specs.Prelude.{ℕ, ◌≡◌, ◌+◌, ◌-◌, ◌^◌, ◌<◌, ◌≤◌, Bool, false, List, [], ◌∷◌, ◌++◌, length, slice_index}
use Rattle.mc_item.specs.declared.{class_event.ClassEvent.ClassEvent, config.Config.Config, fault.Fault.Fault, fault.Fault.TheVariants.NoMemory}
use Rattle.mc_item.specs.declared.{fault.Fault.TheVariants.HistoryFull, item.ClassNo.ClassNo}
use Rattle.mc_rule.specs.Lists.{chunks_from, lists_of, entries_linked}
use Rattle.mc_rule.specs.{Segment.Rule, Segment.rule_of, Lawful.is_named, Lawful.IsLawfulHistoryByLists}
use Rattle.mc_segment.specs.Arena.{Held}

-- a class: its number, the limit of chunks with which it opened, its limit of events, whether it keeps events in memory, its rule,
-- its history and its room. The limit of chunks now is `chunks_from` of `chunks` and `history`. The history is oldest first, and the
-- room is how many more events take no memory
pub record ClassView : Type 0 where
  pub number : ClassNo
  pub chunks : ℕ
  pub max_events : ℕ
  pub keeps_events : Bool
  pub rule : Rule
  pub history : List ClassEvent
  pub room : ℕ

-- a class by its parts
abbrev pub class_view : ClassNo → ℕ → ℕ → Bool → Rule → List ClassEvent → ℕ → ClassView
class_view number chunks max_events keeps_events rule history room =
    record { number = number; chunks = chunks; max_events = max_events; keeps_events = keeps_events; rule = rule; history = history; room = room }

-- a rule by its numbers
abbrev pub rule_with : Bool → ℕ → ℕ → ℕ → ℕ → ℕ → Rule
rule_with temp temp_ttl hot_percent warm_percent hot_factor warm_factor =
    record { temp = temp; temp_ttl = temp_ttl; hot_percent = hot_percent; warm_percent = warm_percent; hot_factor = hot_factor; warm_factor = warm_factor }

-- how many chunks a configuration gives a class at first; classes are numbered from 1
abbrev pub chunks_for : Config → ClassNo → ℕ
chunks_for config class = slice_index config.chunks (class.0 - 1)

-- the class with this number of a configuration, without events
abbrev pub opened : Config → ClassNo → ClassView
opened config class = class_view class (chunks_for config class) config.max_events config.keeps_events (rule_of config) [] 0

-- the class with one event more, and this room
abbrev pub appended : ClassView → ClassEvent → ℕ → ClassView
appended c e room = record c { history = c.history ++ e ∷ []; room = room }

-- the class with another room, and all else unchanged
abbrev pub with_room : ClassView → ℕ → ClassView
with_room c room = record c { room = room }

-- the history has places for this many more events
abbrev pub HasPlaces : ClassView → ℕ → Type 0
HasPlaces c n = length c.history + n ≤ c.max_events

-- this many more events may be refused with this fault: HistoryFull if
-- the history has too few places, else NoMemory if the room is too small
abbrev pub MayRefuse : ClassView → ℕ → Fault → Type 0
MayRefuse c n HistoryFull = c.max_events < length c.history + n
MayRefuse c n NoMemory = HasPlaces c n × (c.room < n)

-- what a class keeps: its lists, its next number and its limit of chunks `now` are those of its history. The history keeps to its
-- limit, names no number from the next one on, and is lawful as far as the lists show
pub record IsReplay (h : Held) (chunks now max_events : ℕ) (rule : Rule) (history : List ClassEvent) : Type 0 where
  pub lists_is : h.lists ≡ lists_of history
  pub next_is : h.next ≡ entries_linked history
  pub now_is : now ≡ chunks_from chunks history
  pub places : length history ≤ max_events
  pub limit : max_events ≤ 2 ^ 32
  pub fresh : (q : ℕ) → h.next ≤ q → is_named q history ≡ false
  pub lawful : IsLawfulHistoryByLists chunks rule history
