-- Lemmas for the tries that need a chunk.
use Rattle.std.proofs.Common.{ℕ, ◌≡◌, ◌∙◌, true, List, refl, sym, ap, rules, subst}
use Rattle.std.specs.Prelude.{Option, Some, None}
use Rattle.mc_item.specs.{Answer.Row, Answer.plain, Answer.store_row, Item.link_of_item, Measure.cost_of, Stripe.Fits, Stripe.IsAlive}
use Rattle.mc_item.specs.declared.{answer.Need.Need, command.Verb.Verb, item.ClassNo.ClassNo, item.Expiry.Expiry, item.Item.Item, item.Link.Link}
use Rattle.mc_item.specs.declared.{stripe_event.StripeEvent.StripeEvent}
use Rattle.mc_item.specs.declared.answer.Change.TheVariants as changes
use Rattle.mc_item.specs.declared.answer.Need.TheVariants as needs
use Rattle.mc_item.specs.declared.command.Verb.TheVariants.{Set, Add, Replace, Cas, Append, Prepend}
use Rattle.mc_item.specs.declared.reply.Room as rooms
use Rattle.mc_stripe.specs.{Plan.fate_of, Trying.MakesRow, Trying.Puts}
use Rattle.mc_stripe.specs.Putting.{IsDecided, KnowsItem, answer_of_room, cas_in, decline_of, found_of, item_left, link_in, made_of, reply_of, storing_row}
use Rattle.mc_stripe.specs.Wanting.{Covers, HasPlacesFor, IsCrowded, IsLacking, IsTaken, IsWanting, LacksPlace, Uses, class_beside}
use Rattle.mc_stripe.specs.declared.{fate.Fate.Fate, putting.Found.Found, putting.Put.Put, putting.PutAnswer.PutAnswer, wanting.Given.Given, wanting.Want.Want}
use Rattle.mc_stripe.specs.declared.wanting.Want.TheVariants as wants

-- the row of a storage command, by the answer that declines it, if any
abbrev row_by : Option PutAnswer → ClassNo → Verb → (Link → Item) → Row
row_by None class verb version = storing_row class verb version
row_by (Some answer) class verb version = plain needs.Nothing (reply_of answer) changes.Stays

-- the row of a storage command is that of what declines it
declined_by : (class : ClassNo) (verb : Verb) (item : Option Item) (version : Link → Item)
    → store_row (Some class) verb item version ≡ row_by (decline_of verb (cas_in (found_of item))) class verb version
declined_by class Set item version = refl
declined_by class Add None version = refl
declined_by class Add (Some item) version = refl
declined_by class Replace None version = refl
declined_by class Replace (Some item) version = refl
declined_by class Append None version = refl
declined_by class Append (Some item) version = refl
declined_by class Prepend None version = refl
declined_by class Prepend (Some item) version = refl
declined_by class (Cas unique) None version = refl
declined_by class (Cas unique) (Some item) version = search rules

-- one that stores is answered by its room
stored : (given : Given) (key : List ℕ) (item : Option Item) (moment : ℕ) (class : ClassNo) (verb : Verb) (version : Link → Item) (room : rooms.Room) (fate : Fate)
    → Uses given key item moment (storing_row class verb version) room fate
    → IsDecided given key item moment (storing_row class verb version) version (record { answer = answer_of_room room; room = room; fate = fate })
stored given key item moment class verb version room fate uses = record { uses = uses; reply_is = search rules; added_is = search rules; item_is = search rules }

-- what is wanted of the classes of one that stores is wanted of it
lacking : (given : Given) (key : List ℕ) (item : Option Item) (moment : ℕ) (class : ClassNo) (verb : Verb) (version : Link → Item) → IsAlive item moment
    → (want : Want) → IsLacking given (record { home = Some class; other = class_beside class (link_of_item item) }) want → IsWanting given key item moment (storing_row class verb version) want
lacking given key item moment class verb version alive (wants.Classes w) lacks = (alive, lacks.0, λ covers. lacks.1 (subst (Covers given) lacks.0 covers))
lacking given key item moment class verb version alive wants.Room lacks = record { alive = alive; covers = lacks.0; class = class; fresh = refl; none = lacks.1 }
lacking given key item moment class verb version alive (wants.Burial link) lacks = absurd lacks
lacking given key item moment class verb version alive (wants.Place other) lacks = absurd lacks

-- a storage command's decision, told of its item and of its new version
module _ {found : Option Found} {cost : ℕ} {expiry : Expiry} {key : List ℕ} {item : Option Item} {moment : ℕ} {version : Link → Item} (told : KnowsItem found cost expiry key item moment version)
    (given : Given) (class : ClassNo) (verb : Verb) where
  row_is : (declined : Option PutAnswer) → decline_of verb (cas_in found) ≡ declined → store_row (Some class) verb item version ≡ row_by declined class verb version
  row_is declined is = declined_by class verb item version ∙ ap (λ (d : Option PutAnswer). row_by d class verb version) (ap (λ (f : Option Found). decline_of verb (cas_in f)) (sym told.found_is) ∙ is)

  link_is : (o : Option Item) → link_in (found_of o) ≡ link_of_item o
  link_is None = refl
  link_is (Some it) = refl

  -- one that stores
  module _ (stores : decline_of verb (cas_in found) ≡ None) (old : Option Link) (old_is : old ≡ link_in found) where
    of_item : old ≡ link_of_item item
    of_item = old_is ∙ ap link_in told.found_is ∙ link_is item

    -- wants what is wanted of its classes
    pub lacking_wanted : (want : Want) → IsLacking given (record { home = Some class; other = class_beside class old }) want
        → IsWanting given key item moment (store_row (Some class) verb item version) want
    lacking_wanted want lacks = rw (row_is None stores) (lacking given key item moment class verb version told.alive want
        (subst (λ (o : Option Link). IsLacking given (record { home = Some class; other = class_beside class o }) want) of_item lacks))

    module _ (room : rooms.Room) (covers : Covers given (record { home = Some class; other = class_beside class old })) (taken : IsTaken given (needs.Fresh class) room)
        (fate : Fate) (fate_in : old ≡ link_of_item item → ((link : Link) → (cost ≡ cost_of key (version link).value) × (expiry ≡ (version link).expiry))
        → fate ≡ fate_of key item ((storing_row class verb version).answer room).change) where
      covers_item : Covers given (record { home = Some class; other = class_beside class (link_of_item item) })
      covers_item = subst (λ (o : Option Link). Covers given (record { home = Some class; other = class_beside class o })) of_item covers

      -- wants a place, where a history has none for it
      pub crowded_wanted : (at : ClassNo) → LacksPlace given room fate at → IsCrowded given key item moment (store_row (Some class) verb item version) at
      crowded_wanted at lacks = rw (row_is None stores)
          (record { alive = told.alive; covers = covers_item; room = room; taken = taken; lacks = subst (λ (f : Fate). LacksPlace given room f at) (fate_in of_item told.version_is) lacks })

      -- is decided, where each has one
      pub stored_decided : HasPlacesFor given room fate
          → IsDecided given key item moment (store_row (Some class) verb item version) version (record { answer = answer_of_room room; room = room; fate = fate })
      stored_decided places = rw (row_is None stores)
          (stored given key item moment class verb version room fate (record { alive = told.alive; covers = covers_item; taken = taken; fate_is = fate_in of_item told.version_is; places = places }))

-- what a decision is told of an item that was found, or of none
pub told_of : {cost : ℕ} {expiry : Expiry} {key : List ℕ} {item : Option Item} {moment : ℕ} {version : Link → Item} (was : Option Item) → was ≡ item → IsAlive was moment
    → ((link : Link) → (cost ≡ cost_of key (version link).value) × (expiry ≡ (version link).expiry)) → KnowsItem (found_of was) cost expiry key item moment version
told_of {moment = moment} was is alive version_is = record { alive = subst (λ (o : Option Item). IsAlive o moment) is alive; found_is = ap found_of is; version_is = version_is }

-- a storage command that was decided is made where the items have what it leaves
pub decided_makes : {given : Given} (old new : List ℕ → Option Item) {key : List ℕ} {moment : ℕ} {row : Row} {version : Link → Item} {put : Put}
    → IsDecided given key (old key) moment row version put → Puts old new key (item_left put.room put.fate version (old key)) → MakesRow true given old new key row moment (made_of put)
decided_makes old new decided puts = record {
  made_is = record { uses = decided.uses; reply_is = decided.reply_is; items = rw decided.item_is puts };
  noted = λ _. refl;
  added = decided.added_is;
}

-- a room that was taken fits the need
pub taken_fits : (given : Given) (need : Need) (room : rooms.Room) (history : List StripeEvent)
    → ((class : ClassNo) (r : rooms.Room) → IsTaken given (needs.Fresh class) r → Fits (needs.Fresh class) r history)
    → IsTaken given need room → Fits need room history
taken_fits given (needs.Fresh class) room history offers taken = offers class room taken
taken_fits given needs.Nothing room history offers taken = rw taken tt
taken_fits given needs.Same room history offers taken = rw taken tt
taken_fits given needs.TooLarge room history offers taken = rw taken tt
