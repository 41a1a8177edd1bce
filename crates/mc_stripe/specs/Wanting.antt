-- What a command may use, and what it wants if it can't be made yet (own).
use Rattle.std.specs.Prelude.{ℕ, ◌≡◌, ◌==◌, ◌<◌, ◌≤◌, ◌+◌, ◌⊎◌, List, Option, Some, None, IfSome, IsSomeAnd, if◌then◌else◌}
use Rattle.std.specs.Option.{option_map}
use Rattle.mc_item.specs.{Answer.Row, Item.link_of_item, Stripe.IsAlive, Stripe.link_of}
use Rattle.mc_item.specs.declared.{answer.Need.Need, item.ClassNo.ClassNo, item.Item.Item, item.Link.Link, reply.Room.Room}
use Rattle.mc_item.specs.declared.answer.Need.TheVariants as needs
use Rattle.mc_item.specs.declared.reply.Room.TheVariants as rooms
use Rattle.mc_stripe.specs.Plan.{dead_link, fate_of}
use Rattle.mc_stripe.specs.declared.{fate.Fate.Fate, wanting.Classes.Classes, wanting.Given.Given, wanting.Want.Want}
use Rattle.mc_stripe.specs.declared.fate.Fate.TheVariants as fates
use Rattle.mc_stripe.specs.declared.wanting.Want.TheVariants as wants

-- the class of a link, if it is another one than this
abbrev pub class_beside : ClassNo → Option Link → Option ClassNo
class_beside class None = None
class_beside class (Some link) = if link.class.0 == class.0 then None else Some link.class

-- the class of an item that is removed
abbrev pub class_of_fate : Fate → Option ClassNo
class_of_fate fates.Untouched = None
class_of_fate (fates.Renewed cost expiry old) = None
class_of_fate (fates.Goes link) = Some link.class
class_of_fate (fates.Woken link) = None

-- the classes that are wanted. For a new version: its class, and that of the old
-- item if it is another one. Else: the class of an item that is removed
abbrev pub classes_of : Need → Option Link → Fate → Classes
classes_of (needs.Fresh class) old fate = record { home = Some class; other = class_beside class old }
classes_of needs.Nothing old fate = record { home = None; other = class_of_fate fate }
classes_of needs.Same old fate = record { home = None; other = class_of_fate fate }
classes_of needs.TooLarge old fate = record { home = None; other = class_of_fate fate }

-- the classes that a row wants
abbrev pub classes_for : List ℕ → Option Item → Row → Classes
classes_for key found row = classes_of row.need (link_of_item found) (fate_of key found (row.answer rooms.Keep).change)

-- the wanted class, if any, is the one that is held
abbrev pub Holds : Option ClassNo → Option ClassNo → Type 0
Holds held None = Unit {0}
Holds held (Some class) = held ≡ Some class

-- the class of the new version, if it is held
abbrev pub home_class : Given → Option ClassNo
home_class given = option_map (λ h. h.class) given.home

-- the class of the key's old item, if it is held
abbrev pub other_class : Given → Option ClassNo
other_class given = option_map (λ o. o.class) given.other

-- all wanted classes are held
abbrev pub Covers : Given → Classes → Type 0
Covers given wanted = Holds (home_class given) wanted.home × Holds (other_class given) wanted.other

-- the room is a link or a refusal, not Keep
abbrev pub IsGiven : Room → Type 0
IsGiven (rooms.At link) = Unit {0}
IsGiven (rooms.Refused class place) = Unit {0}
IsGiven rooms.Keep = ⊥

-- the need takes this room: for a new version, what its class gives if it isn't Keep, and Keep for any other need
abbrev pub IsTaken : Given → Need → Room → Type 0
IsTaken given (needs.Fresh class) room = IsSomeAnd given.home (λ h. (h.class ≡ class) × (h.room ≡ room)) × IsGiven room
IsTaken given needs.Nothing room = room ≡ rooms.Keep
IsTaken given needs.Same room = room ≡ rooms.Keep
IsTaken given needs.TooLarge room = room ≡ rooms.Keep

-- how many links this is of the class: one if there is a link and it is of the class
abbrev pub links_at : ClassNo → Option Link → ℕ
links_at class None = 0
links_at class (Some link) = if link.class.0 == class.0 then 1 else 0

-- how many entries come into a class and leave it, together
abbrev pub changes_at : ClassNo → Room → Fate → ℕ
changes_at class room fates.Untouched = 0
changes_at class room (fates.Renewed cost expiry old) = links_at class (link_of room) + links_at class old
changes_at class room (fates.Goes link) = links_at class (Some link)
changes_at class room (fates.Woken link) = 0

-- the histories of the held classes have places for the entries that come and leave
pub record HasPlacesFor (given : Given) (room : Room) (fate : Fate) : Type 0 where
  pub home : IfSome given.home (λ h. changes_at h.class room fate ≤ h.places)
  pub other : IfSome given.other (λ o. changes_at o.class room fate ≤ o.places)

-- the history of this held class lacks places for the entries that come and leave
abbrev pub LacksPlace : Given → Room → Fate → ClassNo → Type 0
LacksPlace given room fate class =
    IsSomeAnd given.home (λ h. (h.class ≡ class) × (h.places < changes_at class room fate))
    ⊎ IsSomeAnd given.other (λ o. (o.class ≡ class) × (o.places < changes_at class room fate))

-- what is wanted if no room is given: the classes if not all are held, or a chunk if the class of the new version offers Keep
abbrev pub IsLacking : Given → Classes → Want → Type 0
IsLacking given wanted (wants.Classes classes) = (classes ≡ wanted) × (Covers given wanted → ⊥)
IsLacking given wanted wants.Room = Covers given wanted × IsSomeAnd given.home (λ h. h.room ≡ rooms.Keep)
IsLacking given wanted (wants.Burial link) = ⊥
IsLacking given wanted (wants.Place class) = ⊥

-- a command of this row may be made in this room with what it is given, and has this fate
pub record Uses (given : Given) (key : List ℕ) (found : Option Item) (moment : ℕ) (row : Row) (room : Room) (fate : Fate) : Type 0 where
  pub alive : IsAlive found moment
  pub covers : Covers given (classes_for key found row)
  pub taken : IsTaken given row.need room
  pub fate_is : fate ≡ fate_of key found (row.answer room).change
  pub places : HasPlacesFor given room fate

-- all wanted classes are held, but the history of this class lacks places for what a room would change
pub record IsCrowded (given : Given) (key : List ℕ) (found : Option Item) (moment : ℕ) (row : Row) (class : ClassNo) : Type 0 where
  pub alive : IsAlive found moment
  pub covers : Covers given (classes_for key found row)
  pub room : Room
  pub taken : IsTaken given row.need room
  pub lacks : LacksPlace given room (fate_of key found (row.answer room).change) class

-- all wanted classes are held, but the class of the new version offers no room
pub record LacksRoom (given : Given) (key : List ℕ) (found : Option Item) (moment : ℕ) (row : Row) : Type 0 where
  pub alive : IsAlive found moment
  pub covers : Covers given (classes_for key found row)
  pub class : ClassNo
  pub fresh : row.need ≡ needs.Fresh class
  pub none : IsSomeAnd given.home (λ h. h.room ≡ rooms.Keep)

-- a command of this row wants this: the removal of its key's dead item, its
-- classes if not all are held, a chunk, or a place in a class's history
abbrev pub IsWanting : Given → List ℕ → Option Item → ℕ → Row → Want → Type 0
IsWanting given key found moment row (wants.Burial link) = dead_link found moment ≡ Some link
IsWanting given key found moment row (wants.Classes wanted) = IsAlive found moment × (wanted ≡ classes_for key found row) × (Covers given wanted → ⊥)
IsWanting given key found moment row wants.Room = LacksRoom given key found moment row
IsWanting given key found moment row (wants.Place class) = IsCrowded given key found moment row class
