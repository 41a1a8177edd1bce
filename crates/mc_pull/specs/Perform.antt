-- When a command may be made on a stripe and the classes that it is lent.
use Rattle.std.specs.Prelude.{ℕ, ◌≡◌, ◌≤◌, ◌^◌, List, true, Option, Some, slice_get}
use Rattle.mc_item.specs.declared.{answer.Answer.Answer, command.Command.Command, config.Config.Config, item.Item.Item, item.Who.Who, reply.Room.Room}
use Rattle.mc_item.specs.declared.class_event.ClassEvent.TheVariants as class_events
use Rattle.mc_item.specs.declared.reply.Room.TheVariants as rooms
use Rattle.mc_item.specs.{Answer.row_of, Cache.answer_of, Command.key_of, Measure.stripe_of, Stripe.Fits, Stripe.IsAlive, Stripe.link_of}
use Rattle.mc_rule.specs.Lists.{HasFree, entries_linked}
use Rattle.mc_segment.specs.ClassState.{ClassView}
use Rattle.mc_stripe.specs.declared.fate.Fate.{Fate}
use Rattle.mc_stripe.specs.declared.fate.Fate.TheVariants as fates
use Rattle.mc_stripe.specs.{Plan.fate_of, StripeState.Stripe, StripeState.cache_now}
use Rattle.mc_pull.specs.{Lent.AreDistinct, Lent.OfEachClass, Lent.IsLent, Lent.IsLentIf, Parts.is_here, Question.IsClassOf, Question.IsStripeOf}

-- a call: who makes it, the command, its time, and the room that it is given
pub record Call : Type 0 where
  pub who : Who
  pub command : Command
  pub moment : ℕ
  pub room : Room

-- the call with these parts
abbrev pub call : Who → Command → ℕ → Room → Call
call who command moment room = record { who = who; command = command; moment = moment; room = room }

-- the item of the command's key before the call
abbrev pub item_before : Stripe → Call → Option Item
item_before s c = (cache_now s).items (key_of c.command)

-- the reply and the change of the item by the command's row of the table
abbrev pub answer_to : Stripe → Call → Answer
answer_to s c = answer_of s.site (cache_now s) c.command c.moment c.room

-- what becomes of the key's chunks in the command
abbrev pub fate_for : Stripe → Call → Fate
fate_for s c = fate_of (key_of c.command) (item_before s c) (answer_to s c).change

-- the room fits the class: a link of it has its next number, and a refusal by it is an event of this caller's call
abbrev pub IsRoomOf : Who → Room → ClassView → Type 0
IsRoomOf who (rooms.At link) v = link.class ≡ v.number → link.number ≡ entries_linked v.history
IsRoomOf who (rooms.Refused class place) v = class ≡ v.number → slice_get v.history place ≡ Some (class_events.Refused (record { who = who }))
IsRoomOf who rooms.Keep v = Unit {0}

-- the room fits the class, and if it is a link of this class, a chunk is free
pub record GivesRoom (who : Who) (room : Room) (v : ClassView) : Type 0 where
  pub free : is_here v room ≡ true → HasFree v.chunks v.history
  pub named : IsRoomOf who room v

-- the classes that a command needs are lent: its new version's, and that of an item that it replaces or removes
abbrev pub AreLent : List ClassView → Room → Fate → Type 0
AreLent vs room fates.Untouched = Unit {0}
AreLent vs room (fates.Renewed cost expiry old) = IsLentIf vs (link_of room) × IsLentIf vs old
AreLent vs room (fates.Goes link) = IsLent vs link
AreLent vs room (fates.Woken link) = Unit {0}

-- a stripe may answer a command: the key is its own and has no dead item, and the room fits the command's need
pub record MayAnswer (s : Stripe) (c : Call) : Type 0 where
  pub stripe : stripe_of (key_of c.command) s.site.stripes ≡ record { 0 = s.site.stripe }
  pub moment : c.moment ≤ 2 ^ 62
  pub alive : IsAlive (item_before s c) c.moment
  pub fits : Fits (row_of s.site (cache_now s).versions (item_before s c) c.command c.moment).need c.room s.history

-- a command may be made on a stripe and these classes
pub record MayPerform (config : Config) (s : Stripe) (c : Call) (vs : List ClassView) : Type 0 where
  pub answer : MayAnswer s c
  pub made_with : IsStripeOf config s
  pub classes : OfEachClass (IsClassOf config) vs
  pub distinct : AreDistinct vs
  pub rooms : OfEachClass (GivesRoom c.who c.room) vs
  pub lent : AreLent vs c.room (fate_for s c)
