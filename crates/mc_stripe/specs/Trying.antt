-- How a try of a command ends: the command was made, or it wants something, and nothing happened (own).
use Rattle.std.specs.Prelude.{ℕ, ◌≡◌, ◌≤◌, ◌^◌, Bool, true, List, nat_eq, if◌then◌else◌, Option, Some}
use Rattle.std.specs.Cmp.Lexicographic.{pointwise}
use Rattle.mc_item.specs.{Answer.Row, Answer.row_of, Cache.changed, Cache.versions_of, Command.key_of, Measure.stripe_of}
use Rattle.mc_item.specs.declared.{command.Command.Command, item.Item.Item, item.Who.Who, reply.Reply.Reply, reply.Room.Room}
use Rattle.mc_stripe.specs.{StripeCalls.Notes, StripeState.Stripe, StripeState.cache_now, Wanting.IsWanting, Wanting.Uses}
use Rattle.mc_stripe.specs.declared.{fate.Fate.Fate, trying.Done.Done, trying.Made.Made, trying.Turn.Turn, wanting.Given.Given, wanting.Want.Want}

-- the new items have this item under the key, and under each other key what the old items have
abbrev pub Puts : (old new : List ℕ → Option Item) → List ℕ → Option Item → Type 0
Puts old new key item = (q : List ℕ) → new q ≡ (if pointwise nat_eq key q then item else old q)

-- the items haven't changed
abbrev pub ItemsStay : (old new : List ℕ → Option Item) → Type 0
ItemsStay old new = (q : List ℕ) → new q ≡ old q

-- a command of this row was made on the items with what it is given, in this room, with this reply and this fate
pub record IsMade (given : Given) (old new : List ℕ → Option Item) (key : List ℕ) (row : Row) (moment : ℕ) (room : Room) (reply : Reply) (fate : Fate) : Type
    0 where
  pub uses : Uses given key (old key) moment row room fate
  pub reply_is : reply ≡ (row.answer room).reply
  pub items : Puts old new key (changed (old key) (row.answer room).change)

-- a command of this row was made on the items: `noted` is its reply if events are kept, `added` how many versions it added
pub record MakesRow (keeps : Bool) (given : Given) (old new : List ℕ → Option Item) (key : List ℕ) (row : Row) (moment : ℕ) (made : Made) : Type 0 where
  pub made_is : IsMade given old new key row moment made.done.room made.done.reply made.done.fate
  pub noted : keeps ≡ true → made.noted ≡ Some made.done.reply
  pub added : made.added ≡ versions_of (row.answer made.done.room).change

-- the items haven't changed, and this is what a command of this row wants
abbrev pub IsLeft : Given → (old new : List ℕ → Option Item) → List ℕ → ℕ → Row → Want → Type 0
IsLeft given old new key moment row want = ItemsStay old new × IsWanting given key (old key) moment row want

-- the item under a command's key
abbrev pub item_of : Stripe → Command → Option Item
item_of s command = (cache_now s).items (key_of command)

-- the row of a command at a moment, by the item under its key
abbrev pub row_at : Stripe → Command → ℕ → Row
row_at s command moment = row_of s.site (cache_now s).versions (item_of s command) command moment

-- a command may be tried on a stripe in a turn: its key is of this stripe, and the moment is at most 2^62
pub record MayTry (s : Stripe) (command : Command) (turn : Turn) : Type 0 where
  pub stripe : stripe_of (key_of command) s.site.stripes ≡ record { 0 = s.site.stripe }
  pub moment : turn.moment ≤ 2 ^ 62

-- a command was made with what it is given: the history gains its event, and the reply and the fate are those of its row
pub record IsDone (given : Given) (s s_new : Stripe) (who : Who) (command : Command) (moment : ℕ) (done : Done) : Type 0 where
  pub noted : Notes s s_new who command moment done.room
  pub reply_is : done.reply ≡ ((row_at s command moment).answer done.room).reply
  pub uses : Uses given (key_of command) (item_of s command) moment (row_at s command moment) done.room done.fate

-- the history hasn't changed, and this is what the command wants
pub record IsOpen (given : Given) (s s_new : Stripe) (command : Command) (moment : ℕ) (want : Want) : Type 0 where
  pub history_is : s_new.history ≡ s.history
  pub wanted : IsWanting given (key_of command) (item_of s command) moment (row_at s command moment) want
