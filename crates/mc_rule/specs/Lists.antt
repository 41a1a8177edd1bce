-- The four lists of a slab class, newest first, and how events change them (this project's own, after new_lru.txt and items.c).
use Rattle.std.specs.Prelude.{ℕ, ◌+◌, ◌<◌, ◌≤◌, ◌==◌, List, [], ◌∷◌, if◌then◌else◌, Option, Some, None, length, reverse, slice_get}
use Rattle.std.specs.Option.{option_map}
use Rattle.mc_item.specs.declared.{lists.Entry.Entry, lists.Seg.Seg, class_event.ClassEvent.ClassEvent, class_event.Why.Why}
use Rattle.mc_item.specs.declared.lists.Seg.TheVariants.{Hot, Warm, Cold, Temp}
use Rattle.mc_item.specs.declared.class_event.ClassEvent.TheVariants as events
use Rattle.mc_item.specs.declared.class_event.Why.TheVariants as whys

-- the lists of a class, each with its newest entry first
pub record Lists : Type 0 where
  pub hot : List Entry
  pub warm : List Entry
  pub cold : List Entry
  pub temp : List Entry

-- the lists of a class without entries
abbrev pub no_lists : Lists
no_lists = record { hot = []; warm = []; cold = []; temp = [] }

-- the entry with this number, key, cost in bytes, and time in seconds
abbrev pub entry : ℕ → List ℕ → ℕ → ℕ → Entry
entry number key cost time = record { number = number; key = key; cost = cost; time = time }

-- the list of a segment
abbrev pub list_of : Lists → Seg → List Entry
list_of l Hot = l.hot
list_of l Warm = l.warm
list_of l Cold = l.cold
list_of l Temp = l.temp

-- the lists with this list for one segment
abbrev pub with_list : Lists → Seg → List Entry → Lists
with_list l Hot es = record l { hot = es }
with_list l Warm es = record l { warm = es }
with_list l Cold es = record l { cold = es }
with_list l Temp es = record l { temp = es }

-- the first entry of this number in a list, if there is one
abbrev pub find : ℕ → List Entry → Option Entry
find n [] = None
find n (e ∷ es) = if e.number == n then Some e else find n es

-- a list without its first entry of this number
abbrev pub without : ℕ → List Entry → List Entry
without n [] = []
without n (e ∷ es) = if e.number == n then es else e ∷ without n es

-- the lists with this entry added at the head of one
abbrev pub linked : Seg → Entry → Lists → Lists
linked s e l = with_list l s (e ∷ list_of l s)

-- the lists without the entry of this number
abbrev pub unlinked : ℕ → Lists → Lists
unlinked n l = record { hot = without n l.hot; warm = without n l.warm; cold = without n l.cold; temp = without n l.temp }

-- the time of an entry after a move: moves for a hit or of an active entry set it to the moment, the others keep it (own)
abbrev pub time_after : Why → ℕ → ℕ → ℕ
time_after whys.Hit moment time = moment
time_after whys.Active moment time = moment
time_after (whys.Over place) moment time = time
time_after (whys.Old place) moment time = time
time_after whys.Forced moment time = time

-- the lists after the entry that was found, if one was, has moved from its list to the head of another, or of its own
abbrev pub moved_entry : Option Entry → ℕ → Seg → Seg → Why → ℕ → Lists → Lists
moved_entry None n from_seg to_seg why moment l = l
moved_entry (Some e) n from_seg to_seg why moment l =
    linked to_seg (record e { time = time_after why moment e.time }) (with_list l from_seg (without n (list_of l from_seg)))

-- the lists after the entry of this number has moved from its list to the head of another, or of its own
abbrev pub moved : ℕ → Seg → Seg → Why → ℕ → Lists → Lists
moved n from_seg to_seg why moment l = moved_entry (find n (list_of l from_seg)) n from_seg to_seg why moment l

-- the lists after one event
abbrev pub lists_after : Lists → ClassEvent → Lists
lists_after l (events.Linked e) = linked e.seg (entry e.number e.key e.cost e.moment) l
lists_after l (events.Unlinked e) = unlinked e.number l
lists_after l (events.Shifted e) = moved e.number e.from_seg e.to_seg e.why e.moment l
lists_after l (events.Evicted e) = unlinked e.number l
lists_after l (events.Reclaimed e) = unlinked e.number l
lists_after l (events.Surveyed e) = l
lists_after l (events.Refused e) = l
lists_after l (events.Limited e) = l

-- the lists after these events, from these lists on
abbrev pub lists_from : Lists → List ClassEvent → Lists
lists_from l [] = l
lists_from l (e ∷ es) = lists_from (lists_after l e) es

-- the lists that a history leaves
abbrev pub lists_of : List ClassEvent → Lists
lists_of history = lists_from no_lists history

-- the sum of the costs of these entries
abbrev pub cost_sum : List Entry → ℕ
cost_sum [] = 0
cost_sum (e ∷ es) = e.cost + cost_sum es

-- the bytes of a segment's list: the sum of its costs
abbrev pub bytes_of : Lists → Seg → ℕ
bytes_of l s = cost_sum (list_of l s)

-- how many entries the lists have
abbrev pub count_of : Lists → ℕ
count_of l = length l.hot + length l.warm + length l.cold + length l.temp

-- the limit of chunks after one event
abbrev pub chunks_after : ℕ → ClassEvent → ℕ
chunks_after chunks (events.Linked e) = chunks
chunks_after chunks (events.Unlinked e) = chunks
chunks_after chunks (events.Shifted e) = chunks
chunks_after chunks (events.Evicted e) = chunks
chunks_after chunks (events.Reclaimed e) = chunks
chunks_after chunks (events.Surveyed e) = chunks
chunks_after chunks (events.Refused e) = chunks
chunks_after chunks (events.Limited e) = e.chunks

-- the limit of chunks after these events, from this limit on
abbrev pub chunks_from : ℕ → List ClassEvent → ℕ
chunks_from chunks [] = chunks
chunks_from chunks (e ∷ es) = chunks_from (chunks_after chunks e) es

-- the class is full after this history: it has at least as many entries as its limit. `chunks` is the limit with which it opened
abbrev pub IsFull : ℕ → List ClassEvent → Type 0
IsFull chunks history = chunks_from chunks history ≤ count_of (lists_of history)

-- the class has a free chunk after this history: it has fewer entries than its limit. `chunks` is the limit with which it opened
abbrev pub HasFree : ℕ → List ClassEvent → Type 0
HasFree chunks history = count_of (lists_of history) < chunks_from chunks history

-- the segment with the entry that was found in it, otherwise what was found elsewhere
abbrev pub found_in : Seg → Option Entry → Option (Seg × Entry) → Option (Seg × Entry)
found_in s None other = other
found_in s (Some e) other = Some (s, e)

-- the segment and the entry of this number, if there is one
abbrev pub found : ℕ → Lists → Option (Seg × Entry)
found n l = found_in Hot (find n l.hot) (found_in Warm (find n l.warm) (found_in Cold (find n l.cold) (found_in Temp (find n l.temp) None)))

-- the segment that has the entry of this number, if there is one
abbrev pub segment_of : ℕ → Lists → Option Seg
segment_of n l = option_map (λ p. p.0) (found n l)

-- the entry at a place of a list, counted from 0 at its tail, if there is one
abbrev pub from_tail : List Entry → ℕ → Option Entry
from_tail es place = slice_get (reverse es) place

-- how many entries of a list have this number
abbrev pub times : ℕ → List Entry → ℕ
times n [] = 0
times n (e ∷ es) = (if e.number == n then 1 else 0) + times n es

-- how many entries of all lists have this number
abbrev pub times_in : ℕ → Lists → ℕ
times_in n l = times n l.hot + times n l.warm + times n l.cold + times n l.temp

-- how many entries an event links
abbrev pub entries_linked_by : ClassEvent → ℕ
entries_linked_by (events.Linked e) = 1
entries_linked_by (events.Unlinked e) = 0
entries_linked_by (events.Shifted e) = 0
entries_linked_by (events.Evicted e) = 0
entries_linked_by (events.Reclaimed e) = 0
entries_linked_by (events.Surveyed e) = 0
entries_linked_by (events.Refused e) = 0
entries_linked_by (events.Limited e) = 0

-- how many entries these events linked: as entries are numbered from 0, this is the number of the next one
abbrev pub entries_linked : List ClassEvent → ℕ
entries_linked [] = 0
entries_linked (e ∷ es) = entries_linked_by e + entries_linked es
