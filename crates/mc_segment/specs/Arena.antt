-- Four linked lists in one hash map of places: which lists the places and the ends represent.
use Rattle.std.specs.Prelude.{ℕ, ◌≡◌, ◌==◌, ◌+◌, ◌-◌, ◌*◌, ◌^◌, ◌<◌, ◌≤◌, List, Option, Some, None, true, if◌then◌else◌}
use Rattle.mc_item.specs.declared.{lists.Entry.Entry, lists.Seg.Seg}
use Rattle.mc_item.specs.declared.lists.Seg.TheVariants.{Hot, Warm, Cold, Temp}
use Rattle.mc_rule.specs.Lists.{Lists, list_of, with_list, find, found, without, unlinked, cost_sum, count_of}
use Rattle.mc_segment.specs.declared.{arena.Node.Node, arena.Listed.Listed, ends.Ends.Ends, ends.Heads.Heads}
use Rattle.mc_segment.specs.{Nodes.walk, Nodes.IsChain, Neighbours.end_of, Slots.is_among}

-- an arena as contracts see it: its lists, the next number, how many more entries take no memory, and its slots
pub record Held : Type 0 where
  pub lists : Lists
  pub next : ℕ
  pub room : ℕ
  pub slots : List (ℕ × Option Listed)

-- an arena by its parts
abbrev pub held : Lists → ℕ → ℕ → List (ℕ × Option Listed) → Held
held lists next room slots = record { lists = lists; next = next; room = room; slots = slots }

-- the number has a slot in memory
abbrev pub HasSlot : Held → ℕ → Type 0
HasSlot h q = is_among h.slots q ≡ true

-- the bytes of all four lists
abbrev pub all_bytes : Lists → ℕ
all_bytes l = cost_sum l.hot + cost_sum l.warm + cost_sum l.cold + cost_sum l.temp

-- an entry with this number and cost may be put into a list: its number is below the next one and in no list, and the entries and
-- their bytes stay within their bounds
pub record MayPut (h : Held) (number cost : ℕ) : Type 0 where
  pub absent : found number h.lists ≡ None
  pub inside : number < h.next
  pub count : count_of h.lists < h.next
  pub cost_fits : all_bytes h.lists + cost ≤ 2 ^ 20 * h.next

-- the entry with this number was taken out of the list of its segment, and may be put into a list again
pub record IsTaken (old new : Held) (number : ℕ) (seg : Seg) (e : Entry) : Type 0 where
  pub there : find number (list_of old.lists seg) ≡ Some e
  pub left : with_list old.lists seg (without number (list_of old.lists seg)) ≡ unlinked number old.lists
  pub number_is : e.number ≡ number
  pub inside : number < old.next
  pub count : count_of new.lists + 1 ≡ count_of old.lists
  pub bytes : all_bytes new.lists + e.cost ≡ all_bytes old.lists
  pub may_put : MayPut new number e.cost

-- a number for each segment, its code
abbrev pub code : Seg → ℕ
code Hot = 0
code Warm = 1
code Cold = 2
code Temp = 3

-- the node in a slot, if it is in the list with this code
abbrev pub part : ℕ → Option Listed → Option Node
part k None = None
part k (Some p) = if code p.seg == k then Some p.node else None

-- the nodes of the list with this code, by their numbers
abbrev pub nodes_of : (ℕ → Option Listed) → ℕ → ℕ → Option Node
nodes_of f k q = part k (f q)

-- the ends of a segment's list
abbrev pub ends_of : Heads → Seg → Ends
ends_of h Hot = h.hot
ends_of h Warm = h.warm
ends_of h Cold = h.cold
ends_of h Temp = h.temp

-- the ends of the four lists, with other ends for one segment
abbrev pub with_ends : Heads → Seg → Ends → Heads
with_ends h Hot e = record h { hot = e }
with_ends h Warm e = record h { warm = e }
with_ends h Cold e = record h { cold = e }
with_ends h Temp e = record h { temp = e }

-- the ends of a list after an entry with this number and cost was put at its head
abbrev pub pushed_ends : Ends → ℕ → ℕ → Ends
pushed_ends x n cost = record { newest = Some n; oldest = end_of x.newest (Some n) x.oldest; count = x.count + 1; bytes = x.bytes + cost }

-- the ends of a list after an entry with this cost was taken out from between these neighbours
abbrev pub taken_ends : Ends → Option ℕ → Option ℕ → ℕ → Ends
taken_ends x newer older cost = record {
  newest = end_of newer older x.newest;
  oldest = end_of older newer x.oldest;
  count = x.count - 1;
  bytes =
      x.bytes - cost;
}

-- the entries of the list with this code, as a walk meets them from the newest on
abbrev pub walk_in : (ℕ → Option Listed) → ℕ → Ends → List Entry
walk_in f k e = walk (nodes_of f k) e.count e.newest

-- the four lists that the places and the ends represent
abbrev pub lists_in : (ℕ → Option Listed) → Heads → Lists
lists_in f h = record { hot = walk_in f 0 h.hot; warm = walk_in f 1 h.warm; cold = walk_in f 2 h.cold; temp = walk_in f 3 h.temp }

-- the nodes and the ends of a list represent these entries
abbrev pub AreNodesOf : (ℕ → Option Node) → Ends → List Entry → Type 0
AreNodesOf f e es = IsChain f e.newest e.oldest e.count e.bytes es

-- each list is a chain over its nodes, numbers from the next one on have no place, and the entries, bytes and numbers have bounds
pub record IsArena (f : ℕ → Option Listed) (next : ℕ) (h : Heads) (l : Lists) : Type 0 where
  pub parts : (s : Seg) → AreNodesOf (nodes_of f (code s)) (ends_of h s) (list_of l s)
  pub later : (q : ℕ) → next ≤ q → f q ≡ None
  pub count : count_of l ≤ next
  pub bytes : all_bytes l ≤ 2 ^ 20 * next
  pub limit : next ≤ 2 ^ 32
