-- How a storage command is decided whose item fits a class (own).
use Rattle.std.specs.Prelude.{ℕ, ◌≡◌, ◌==◌, Bool, true, false, List, if◌then◌else◌, Option, Some, None}
use Rattle.mc_item.specs.{Answer.Row, Answer.let_go, Cache.changed, Cache.versions_of, Measure.cost_of, Stripe.IsAlive}
use Rattle.mc_item.specs.Answer as answers
use Rattle.mc_item.specs.declared.{command.Verb.Verb, item.ClassNo.ClassNo, item.Expiry.Expiry, item.Item.Item, item.Link.Link, reply.Reply.Reply}
use Rattle.mc_item.specs.declared.{reply.Room.Room}
use Rattle.mc_item.specs.declared.command.Verb.TheVariants.{Set, Add, Replace, Cas, Append, Prepend}
use Rattle.mc_item.specs.declared.reply.Reply.TheVariants as replies
use Rattle.mc_item.specs.declared.reply.Room.TheVariants as rooms
use Rattle.mc_stripe.specs.Wanting.{Uses}
use Rattle.mc_stripe.specs.declared.{fate.Fate.Fate, putting.Found.Found, putting.Put.Put, putting.PutAnswer.PutAnswer, trying.Made.Made, wanting.Given.Given}
use Rattle.mc_stripe.specs.declared.fate.Fate.TheVariants as fates
use Rattle.mc_stripe.specs.declared.putting.PutAnswer.TheVariants as answered

-- the reply for this answer of a storage command
abbrev pub reply_of : PutAnswer → Reply
reply_of answered.Stored = replies.Stored
reply_of answered.NotStored = replies.NotStored
reply_of answered.Exists = replies.Exists
reply_of answered.NotFound = replies.NotFound
reply_of answered.NoRoom = replies.NoRoom

-- the row of a storage command that nothing declines: it needs a chunk of this class
abbrev pub storing_row : ClassNo → Verb → (Link → Item) → Row
storing_row class verb version = answers.fresh class replies.Stored version (answers.answer replies.NoRoom (let_go verb))

-- what a decision knows of an item: its link and its cas number
abbrev pub found_of : Option Item → Option Found
found_of None = None
found_of (Some item) = Some (record { link = item.link; cas = item.cas })

-- the link of the found item
abbrev pub link_in : Option Found → Option Link
link_in None = None
link_in (Some found) = Some found.link

-- the cas number of the found item
abbrev pub cas_in : Option Found → Option ℕ
cas_in None = None
cas_in (Some found) = Some found.cas

-- the answer that declines a storage command, if any, by the cas number of its key's item
abbrev pub decline_of : Verb → Option ℕ → Option PutAnswer
decline_of Set cas = None
decline_of Add None = None
decline_of Add (Some cas) = Some answered.NotStored
decline_of Replace None = Some answered.NotStored
decline_of Replace (Some cas) = None
decline_of Append None = Some answered.NotStored
decline_of Append (Some cas) = None
decline_of Prepend None = Some answered.NotStored
decline_of Prepend (Some cas) = None
decline_of (Cas unique) None = Some answered.NotFound
decline_of (Cas unique) (Some cas) = if cas == unique then None else Some answered.Exists

-- the answer of a storage command that nothing declines: Stored if its room is a link, else NoRoom
abbrev pub answer_of_room : Room → PutAnswer
answer_of_room (rooms.At link) = answered.Stored
answer_of_room (rooms.Refused class place) = answered.NoRoom
answer_of_room rooms.Keep = answered.NoRoom

-- whether the fate is that the item is removed
abbrev pub goes : Fate → Bool
goes (fates.Goes link) = true
goes fates.Untouched = false
goes (fates.Woken link) = false
goes (fates.Renewed cost expiry old) = false

-- how many new versions a storage command with this answer stores
abbrev pub versions_added : PutAnswer → ℕ
versions_added answered.Stored = 1
versions_added answered.NotStored = 0
versions_added answered.Exists = 0
versions_added answered.NotFound = 0
versions_added answered.NoRoom = 0

-- the item that a storage command leaves: the new version in its link, else none if the old item is removed, else the old item
abbrev pub item_left : Room → Fate → (Link → Item) → Option Item → Option Item
item_left (rooms.At link) fate version item = Some (version link)
item_left (rooms.Refused class place) fate version item = if goes fate then None else item
item_left rooms.Keep fate version item = if goes fate then None else item

-- a decision knows its item: the found item is that of the key, which
-- is alive or absent, and each new version has this cost and expiry
pub record KnowsItem (found : Option Found) (cost : ℕ) (expiry : Expiry) (key : List ℕ) (item : Option Item) (moment : ℕ) (version : Link → Item) : Type 0 where
  pub alive : IsAlive item moment
  pub found_is : found ≡ found_of item
  pub version_is : (link : Link) → (cost ≡ cost_of key (version link).value) × (expiry ≡ (version link).expiry)

-- a storage command was decided by its row: what it uses, its reply, the versions that it adds and the item that it leaves
pub record IsDecided (given : Given) (key : List ℕ) (item : Option Item) (moment : ℕ) (row : Row) (version : Link → Item) (put : Put) : Type 0 where
  pub uses : Uses given key item moment row put.room put.fate
  pub reply_is : reply_of put.answer ≡ (row.answer put.room).reply
  pub added_is : versions_added put.answer ≡ versions_of (row.answer put.room).change
  pub item_is : changed item (row.answer put.room).change ≡ item_left put.room put.fate version item

-- a decided storage command in the form that all commands share
abbrev pub made_of : Put → Made
made_of put = record {
  done = record { reply = reply_of put.answer; room = put.room; fate = put.fate };
  noted = Some (reply_of put.answer);
  added =
      versions_added put.answer;
}
