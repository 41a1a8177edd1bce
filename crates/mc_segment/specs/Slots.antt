-- The slots of a class's entries, under their numbers.
use Rattle.std.specs.{Map.lookup, Option.option_map, declared.hash.BuildHasherDefault.BuildHasherDefault, declared.hash.FoldHasher.FoldHasher}
use Rattle.std.specs.Prelude.{ℕ, ◌≡◌, List, Bool, Option, Some, None, if◌then◌else◌, is_some, nat_eq}
use Rattle.std.specs.HashMap.{HashMap, get, spare}
use Rattle.mc_segment.specs.declared.arena.Listed.{Listed}
use Rattle.mc_segment.specs.Neighbours.{with_newer, with_older, points_to}

-- the slots, under their numbers; a slot is empty while its entry moves
abbrev pub Slots : Type 0
Slots = HashMap ℕ (Option Listed) (BuildHasherDefault FoldHasher)

-- the place in a slot, if the slot exists and isn't empty
abbrev pub flattened : Option (Option Listed) → Option Listed
flattened None = None
flattened (Some o) = o

-- the place of a number (its node and its segment), if its slot isn't empty
abbrev pub slot : Slots → ℕ → Option Listed
slot slots q = flattened (get nat_eq slots q)

-- whether a number has a slot among these
abbrev pub is_among : List (ℕ × Option Listed) → ℕ → Bool
is_among entries q = is_some (lookup (nat_eq q) entries)

-- whether a number has a slot
abbrev pub has_slot : Slots → ℕ → Bool
has_slot slots q = is_among slots.entries q

-- a place whose node has another newer neighbour
abbrev pub renewed : Option ℕ → Listed → Listed
renewed to p = record p { node = with_newer to p.node }

-- a place whose node has another older neighbour
abbrev pub reolded : Option ℕ → Listed → Listed
reolded to p = record p { node = with_older to p.node }

-- the place of the number q, after the node with the number `at` got another older neighbour
abbrev pub place_older : Option ℕ → Option ℕ → ℕ → Option Listed → Option Listed
place_older at to q o = if points_to q at then option_map (reolded to) o else o

-- the place of the number q, after the node with the number `at` got another newer neighbour
abbrev pub place_newer : Option ℕ → Option ℕ → ℕ → Option Listed → Option Listed
place_newer at to q o = if points_to q at then option_map (renewed to) o else o

-- the same numbers have a slot, and as many more slots take no memory
pub record IsShaped (old new : Slots) : Type 0 where
  pub slots : (q : ℕ) → has_slot new q ≡ has_slot old q
  pub spare : spare new ≡ spare old
