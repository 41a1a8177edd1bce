-- A class's part of a command: which of its entries are added or removed, and the events of that.
use Rattle.std.specs.Prelude.{ℕ, ◌≡◌, ◌==◌, ◌&&◌, ◌≤◌, ◌^◌, nat_eq, List, [], ◌∷◌, Bool, true, false, if◌then◌else◌, Option, Some, None}
use Rattle.std.specs.Cmp.Lexicographic.{pointwise}
use Rattle.mc_item.specs.declared.{class_event.ClassEvent.ClassEvent, item.Expiry.Expiry, item.Link.Link, item.Who.Who, lists.Entry.Entry}
use Rattle.mc_item.specs.declared.reply.Room.{Room}
use Rattle.mc_item.specs.declared.reply.Room.TheVariants as rooms
use Rattle.mc_rule.specs.{Lists.HasFree, Lists.lists_of, Lawful.IsListed}
use Rattle.mc_segment.specs.{ClassState.ClassView, ClassCalls.linked_event, ClassCalls.unlinked_event, Entries.entry_of}
use Rattle.mc_stripe.specs.declared.fate.Fate.{Fate}
use Rattle.mc_stripe.specs.declared.fate.Fate.TheVariants as fates
use Rattle.mc_pull.specs.declared.parts.Part.{Part}
use Rattle.mc_pull.specs.declared.parts.Part.TheVariants as parts

-- the entry is there, and has this key
abbrev pub is_for : List ℕ → Option Entry → Bool
is_for key None = false
is_for key (Some e) = pointwise nat_eq e.key key

-- the number of a link of this class, if the class has an entry of that number and this key
abbrev pub entry_number : ClassView → List ℕ → Option Link → Option ℕ
entry_number c key None = None
entry_number c key (Some link) = if link.class.0 == c.number.0 && is_for key (entry_of link.number (lists_of c.history)) then Some link.number else None

-- a room is a link of this class
abbrev pub is_here : ClassView → Room → Bool
is_here c (rooms.At link) = link.class.0 == c.number.0
is_here c (rooms.Refused class place) = false
is_here c rooms.Keep = false

-- the part in a new version: its entry is added if its link is of this class, and the old entry is removed if it is here
abbrev pub new_part : List ℕ → ℕ → Expiry → Bool → Option ℕ → Part
new_part key cost expiry true None = parts.Links key cost expiry
new_part key cost expiry true (Some number) = parts.Renews key cost expiry number
new_part key cost expiry false None = parts.Nothing
new_part key cost expiry false (Some number) = parts.Unlinks number

-- the part in a removal: the entry is removed, if it is in this class
abbrev pub gone_part : Option ℕ → Part
gone_part None = parts.Nothing
gone_part (Some number) = parts.Unlinks number

-- a class's part of a command on this key, by its room and by what becomes of the key's chunks
abbrev pub part_for : ClassView → List ℕ → Room → Fate → Part
part_for c key room fates.Untouched = parts.Nothing
part_for c key room (fates.Renewed cost expiry old) = new_part key cost expiry (is_here c room) (entry_number c key old)
part_for c key room (fates.Goes link) = gone_part (entry_number c key (Some link))
part_for c key room (fates.Woken link) = parts.Nothing

-- the events of a part, a new entry's first
abbrev pub part_events : ClassView → Who → ℕ → Part → List ClassEvent
part_events c who moment parts.Nothing = []
part_events c who moment (parts.Links key cost expiry) = linked_event c who key cost moment expiry ∷ []
part_events c who moment (parts.Renews key cost expiry number) = linked_event c who key cost moment expiry ∷ unlinked_event who number ∷ []
part_events c who moment (parts.Unlinks number) = unlinked_event who number ∷ []

-- how many events a part makes
abbrev pub places_of : Part → ℕ
places_of parts.Nothing = 0
places_of (parts.Links key cost expiry) = 1
places_of (parts.Renews key cost expiry number) = 2
places_of (parts.Unlinks number) = 1

-- a new entry may be added: a chunk is free, and the cost is one that a class can hold
pub record MayLink (c : ClassView) (bytes : ℕ) : Type 0 where
  pub free : HasFree c.chunks c.history
  pub few : bytes ≤ 2 ^ 20

-- the class may make a part's events: a new entry may be added, one that is removed is in a list, and one that moves is in COLD
abbrev pub MayMake : ClassView → Part → Type 0
MayMake c parts.Nothing = Unit {0}
MayMake c (parts.Links key cost expiry) = MayLink c cost
MayMake c (parts.Renews key cost expiry number) = MayLink c cost × IsListed number (lists_of c.history)
MayMake c (parts.Unlinks number) = IsListed number (lists_of c.history)

-- the copy is the key of the part's new entry, if it has one
abbrev pub Copies : Part → Option (List ℕ) → Type 0
Copies parts.Nothing copy = Unit {0}
Copies (parts.Links key cost expiry) copy = copy ≡ Some key
Copies (parts.Renews key cost expiry number) copy = copy ≡ Some key
Copies (parts.Unlinks number) copy = Unit {0}
