-- The table of commands, row by row (protocol.txt, under each command): what a command needs, its reply, and what happens to its
-- key's item, which is absent or alive. Rules marked (own) are this project's.
use Rattle.std.specs.Prelude.{ℕ, ◌+◌, ◌-◌, ◌*◌, ◌%◌, ◌^◌, ◌==◌, List, ◌++◌, nat_le, if◌then◌else◌, Option, Some, None, length, replicate, decimal}
use Rattle.std.specs.Option.{option_map}
use Rattle.mc_item.specs.{Item.expiry_of, Item.hit_marks, Item.no_marks, Measure.cost_of, Measure.class_of, Measure.numeral_of}
use Rattle.mc_item.specs.declared.{answer.Answer.Answer, answer.Change.Change, answer.Need.Need, answer.Site.Site, command.Command.Command, command.Verb.Verb}
use Rattle.mc_item.specs.declared.{counting.Step.Step, counting.Step.TheVariants.Up, counting.Step.TheVariants.Down, item.ClassNo.ClassNo, item.Expiry.Expiry}
use Rattle.mc_item.specs.declared.{item.Item.Item, item.Link.Link, reply.Reply.Reply, reply.Room.Room}
use Rattle.mc_item.specs.declared.answer.Change.TheVariants as changes
use Rattle.mc_item.specs.declared.answer.Need.TheVariants as needs
use Rattle.mc_item.specs.declared.command.Command.TheVariants.{Get, Gat, Store, Huge, Incr, Decr, Touch, Delete}
use Rattle.mc_item.specs.declared.command.Verb.TheVariants.{Set, Add, Replace, Cas, Append, Prepend}
use Rattle.mc_item.specs.declared.reply.Reply.TheVariants as replies
use Rattle.mc_item.specs.declared.reply.Room.TheVariants as rooms

-- a row of the table: what the command needs, and its answer for each room that it may be given
pub record Row : Type 0 where
  pub need : Need
  pub answer : Room → Answer

-- the answer with this reply and this change of the item
abbrev pub answer : Reply → Change → Answer
answer reply change = record { reply = reply; change = change }

-- a row whose answer doesn't depend on the room
abbrev pub plain : Need → Reply → Change → Row
plain need reply change = record { need = need; answer = λ room. answer reply change }

-- the answer for a room: that for a new version at the link if the room is a link, otherwise that of a refusal
abbrev pub placed : Room → (Link → Answer) → Answer → Answer
placed (rooms.At link) there refused = there link
placed (rooms.Refused class place) there refused = refused
placed rooms.Keep there refused = refused

-- a row that needs a chunk of this class: with a link it gives the reply and the new version, otherwise the answer of a refusal
abbrev pub fresh : ClassNo → Reply → (Link → Item) → Answer → Row
fresh class reply version refused =
    record {
      need = needs.Fresh class;
      answer = λ room. placed room (λ link. answer reply (changes.Renewed (version link))) refused;
    }

-- the cas number of a stripe's n-th new version, with n from 0: no two versions of a stripe have the same
abbrev pub cas_of : Site → ℕ → ℕ
cas_of site n = n * site.stripes + site.stripe + 1

-- the n-th new version, with these flags, value and expiry, a new cas number, this link, and no marks
abbrev pub version_of : Site → ℕ → ℕ → List ℕ → Expiry → Link → Item
version_of site n flags value expiry link =
    record { flags = flags; value = value; expiry = expiry; cas = cas_of site n; link = link; marks = no_marks }

-- get: the reply is the item, which is hit, or a miss
abbrev pub get_row : Option Item → Row
get_row None = plain needs.Nothing replies.Miss changes.Stays
get_row (Some item) = plain needs.Nothing (replies.Value item.flags item.value item.cas) (changes.Hit (hit_marks item.marks))

-- gat: the reply of a get, a new expiry, and a hit
abbrev pub gat_row : Expiry → Option Item → Row
gat_row expiry None = plain needs.Nothing replies.Miss changes.Stays
gat_row expiry (Some item) = plain needs.Nothing (replies.Value item.flags item.value item.cas) (changes.Touched expiry (hit_marks item.marks))

-- what a storage command without a chunk does to the old item: set removes it, the others leave it (own)
abbrev pub let_go : Verb → Change
let_go Set = changes.Goes
let_go Add = changes.Stays
let_go Replace = changes.Stays
let_go (Cas unique) = changes.Stays
let_go Append = changes.Stays
let_go Prepend = changes.Stays

-- a storage command whose item no class can hold: too large
abbrev pub huge_row : Verb → Row
huge_row verb = plain needs.TooLarge replies.TooLarge (let_go verb)

-- append and prepend, by the class for the joined item's cost (none if it is too large) and the old item. Without a chunk for it the
-- reply is that of any storage command (own)
abbrev pub join_row : Option ClassNo → Option Item → (Link → Item) → Row
join_row class None version = plain needs.Nothing replies.NotStored changes.Stays
join_row None (Some item) version = plain needs.TooLarge replies.TooLarge changes.Stays
join_row (Some class) (Some item) version = fresh class replies.Stored version (answer replies.NoRoom changes.Stays)

-- the storage commands, by the class for the new item's cost (none if it is too large), the verb, and the old item
abbrev pub store_row : Option ClassNo → Verb → Option Item → (Link → Item) → Row
store_row class Append found version = join_row class found version
store_row class Prepend found version = join_row class found version
store_row None Set found version = huge_row Set
store_row None Add found version = huge_row Add
store_row None Replace found version = huge_row Replace
store_row None (Cas unique) found version = huge_row (Cas unique)
store_row (Some class) Set found version = fresh class replies.Stored version (answer replies.NoRoom (let_go Set))
store_row (Some class) Add (Some item) version = plain needs.Nothing replies.NotStored changes.Stays
store_row (Some class) Add None version = fresh class replies.Stored version (answer replies.NoRoom (let_go Add))
store_row (Some class) Replace None version = plain needs.Nothing replies.NotStored changes.Stays
store_row (Some class) Replace (Some item) version = fresh class replies.Stored version (answer replies.NoRoom (let_go Replace))
store_row (Some class) (Cas unique) None version = plain needs.Nothing replies.NotFound changes.Stays
store_row (Some class) (Cas unique) (Some item) version =
    if item.cas == unique
    then fresh class replies.Stored version (answer replies.NoRoom (let_go (Cas unique)))
    else plain needs.Nothing replies.Exists changes.Stays

-- what a storage command writes: the flags, the value and the expiry of its new version
pub record Written : Type 0 where
  pub flags : ℕ
  pub value : List ℕ
  pub expiry : Expiry

-- what a storage command with this content writes over the item found: append joins its data behind the old value, prepend before
-- it, and both keep the old flags and expiry
abbrev pub written_over : Verb → Written → Option Item → Written
written_over Set own found = own
written_over Add own found = own
written_over Replace own found = own
written_over (Cas unique) own found = own
written_over Append own None = own
written_over Append own (Some item) = record { flags = item.flags; value = item.value ++ own.value; expiry = item.expiry }
written_over Prepend own None = own
written_over Prepend own (Some item) = record { flags = item.flags; value = own.value ++ item.value; expiry = item.expiry }

-- the row of a storage command that writes this
abbrev pub write_row : Site → ℕ → List ℕ → Verb → Option Item → Written → Row
write_row site n key verb found written =
    store_row (class_of site.sizes (cost_of key written.value)) verb found (version_of site n written.flags written.value written.expiry)

-- a text, padded with spaces to a length
abbrev pub padded : List ℕ → ℕ → List ℕ
padded text len = text ++ replicate (len - length text) 32

-- incr and decr to a number longer than the old value: a new version with the old flags and expiry, by the class for its cost
abbrev pub grown_row : Site → ℕ → Item → ℕ → Option ClassNo → Row
grown_row site n item number None = plain needs.TooLarge replies.NoSpace changes.Stays
grown_row site n item number (Some class) =
    fresh class (replies.Number number) (version_of site n item.flags (decimal number) item.expiry) (answer replies.NoSpace changes.Stays)

-- incr and decr of an item to this number (none if its value is no number): in place if the number isn't longer than the value
abbrev pub number_row : Site → ℕ → List ℕ → Item → Option ℕ → Row
number_row site n key item None = plain needs.Nothing replies.NonNumeric changes.Stays
number_row site n key item (Some number) =
    if nat_le (length (decimal number)) (length item.value)
    then plain needs.Same (replies.Number number) (changes.Counted (padded (decimal number) (length item.value)) (cas_of site n))
    else grown_row site n item number (class_of site.sizes (cost_of key (decimal number)))

-- incr and decr: not found without an item, otherwise by the number after the step
abbrev pub count_row : Site → ℕ → List ℕ → (ℕ → ℕ) → Option Item → Row
count_row site n key step None = plain needs.Nothing replies.NotFound changes.Stays
count_row site n key step (Some item) = number_row site n key item (option_map step (numeral_of item.value))

-- touch: a new expiry, and a hit
abbrev pub touch_row : Expiry → Option Item → Row
touch_row expiry None = plain needs.Nothing replies.NotFound changes.Stays
touch_row expiry (Some item) = plain needs.Nothing replies.Touched (changes.Touched expiry (hit_marks item.marks))

-- delete: removes the item
abbrev pub delete_row : Option Item → Row
delete_row None = plain needs.Nothing replies.NotFound changes.Stays
delete_row (Some item) = plain needs.Nothing replies.Deleted changes.Goes

-- the number after a step: incr wraps at 2^64, decr stops at 0
abbrev pub stepped : Step → ℕ → ℕ
stepped (Up delta) number = (number + delta) % 2 ^ 64
stepped (Down delta) number = number - delta

-- the row of a command at a moment (a time in seconds), by the number of earlier versions and the item found
abbrev pub row_of : Site → ℕ → Option Item → Command → ℕ → Row
row_of site n found (Get key) moment = get_row found
row_of site n found (Gat key exptime) moment = gat_row (expiry_of exptime moment) found
row_of site n found (Store verb key flags exptime value) moment =
    write_row site n key verb found (written_over verb (record { flags = flags; value = value; expiry = expiry_of exptime moment }) found)
row_of site n found (Huge verb key) moment = huge_row verb
row_of site n found (Incr key delta) moment = count_row site n key (stepped (Up delta)) found
row_of site n found (Decr key delta) moment = count_row site n key (stepped (Down delta)) found
row_of site n found (Touch key exptime) moment = touch_row (expiry_of exptime moment) found
row_of site n found (Delete key) moment = delete_row found
