-- Lemmas for the rows of storage commands, and for the cost of two values together.
use Rattle.std.proofs.Common.{ℕ, ◌≡◌, ◌∙◌, ◌<◌, ◌≤◌, ◌++◌, true, List, refl, sym, ap, arith, get_or, length-append, subst}
use Rattle.std.specs.Prelude.{Option, Some, None, nat_le, position}
use Rattle.std.specs.Option.{option_map}
use Rattle.std.proofs.lemmas.List.Quantifiers.{position-Some}
use Rattle.std.proofs.lemmas.Bool.{leb-true}
use Rattle.mc_item.specs.Answer.{Row, Written, join_row, plain, store_row, version_of}
use Rattle.mc_item.specs.Cache.{changed}
use Rattle.mc_item.specs.Measure.{class_of, class_of_place, cost_of}
use Rattle.mc_item.specs.declared.{answer.Site.Site, command.Verb.Verb, item.ClassNo.ClassNo, item.Item.Item, item.Link.Link, reply.Room.Room}
use Rattle.mc_item.specs.declared.answer.Change.TheVariants as changes
use Rattle.mc_item.specs.declared.answer.Need.TheVariants as needs
use Rattle.mc_item.specs.declared.reply.Reply.TheVariants as replies
use Rattle.mc_item.specs.declared.reply.Room.TheVariants as rooms
use Rattle.mc_item.specs.declared.command.Verb.TheVariants.{Set, Add, Replace, Cas, Append, Prepend}
use Rattle.mc_stripe.specs.Joining.{content_row, joined, joining_row, side_of}
use Rattle.mc_stripe.specs.{Putting.IsDecided, Putting.made_of, Trying.MakesRow, Trying.Puts}
use Rattle.mc_stripe.specs.declared.{joining.Side.Side, putting.Put.Put, wanting.Given.Given}
use Rattle.mc_stripe.specs.declared.joining.Side.TheVariants as sides

-- ---- the row of a storage command, by its side
module _ (site : Site) (n : ℕ) (key : List ℕ) (own : Written) where
  abbrev fitted_row : Option ClassNo → Verb → Option Item → Row
  fitted_row class verb found = store_row class verb found (version_of site n own.flags own.value own.expiry)

  abbrev row_by_side : Option Side → Verb → Option Item → Row
  row_by_side None verb found = fitted_row (class_of site.sizes (cost_of key own.value)) verb found
  row_by_side (Some side) verb found = joining_row site n key side own.value found

  by_side : (verb : Verb) (found : Option Item) → content_row site n key verb own found ≡ row_by_side (side_of verb) verb found
  by_side Set found = refl
  by_side Add found = refl
  by_side Replace found = refl
  by_side (Cas unique) found = refl
  by_side Append None = refl
  by_side Append (Some item) = refl
  by_side Prepend None = refl
  by_side Prepend (Some item) = refl

  -- that of one that joins
  pub joins_row : (verb : Verb) (found : Option Item) (side : Side) → side_of verb ≡ Some side → content_row site n key verb own found ≡ joining_row site n key side own.value found
  joins_row verb found side is = by_side verb found ∙ ap (λ (s : Option Side). row_by_side s verb found) is

  -- that of one that replaces, if it fits
  pub fits_row : (verb : Verb) (found : Option Item) (class : ClassNo) → side_of verb ≡ None → class_of site.sizes (cost_of key own.value) ≡ Some class
      → content_row site n key verb own found ≡ store_row (Some class) verb found (version_of site n own.flags own.value own.expiry)
  fits_row verb found class is class_is =
      by_side verb found ∙ ap (λ (s : Option Side). row_by_side s verb found) is ∙ ap (λ (o : Option ClassNo). fitted_row o verb found) class_is

-- ---- costs
-- both sides cost the same
pub cost_of-joined : (side : Side) (key block value : List ℕ) → cost_of key (joined side block value) ≡ cost_of key (value ++ block)
cost_of-joined sides.Behind key block value = refl
cost_of-joined sides.Before key block value = omega (arith, length-append block value, length-append value block)

-- ---- the row of an append or prepend, by the class for both values
module _ (site : Site) (n : ℕ) (key : List ℕ) (side : Side) (block : List ℕ) (item : Item) (found : Option Item) (is : Some item ≡ found) where
  abbrev version : Link → Item
  version = version_of site n item.flags (joined side block item.value) item.expiry

  by_class : (class : Option ClassNo) → class_of site.sizes (cost_of key (item.value ++ block)) ≡ class → joining_row site n key side block found ≡ join_row class found version
  by_class class class_is =
      let here : joining_row site n key side block (Some item) ≡ join_row class (Some item) version =
      ap (λ (o : Option ClassNo). join_row o (Some item) version) (ap (class_of site.sizes) (cost_of-joined side key block item.value) ∙ class_is) in
      subst (λ (o : Option Item). joining_row site n key side block o ≡ join_row class o version) is here

  -- that of one that fits a class is a storage command's
  pub fits_joining : (class : ClassNo) → class_of site.sizes (cost_of key (item.value ++ block)) ≡ Some class → joining_row site n key side block found ≡ store_row (Some class) Append found version
  fits_joining class class_is = by_class (Some class) class_is

  -- that of one that fits none
  pub large_joining : class_of site.sizes (cost_of key (item.value ++ block)) ≡ None → joining_row site n key side block found ≡ plain needs.TooLarge replies.TooLarge changes.Stays
  large_joining class_is = by_class None class_is ∙ subst (λ (o : Option Item). join_row None o version ≡ plain needs.TooLarge replies.TooLarge changes.Stays) is refl

-- the item that an append or prepend leaves: the new version in its link, else the old item
abbrev pub left_in : Room → (Link → Item) → Item → Option Item
left_in (rooms.At link) version item = Some (version link)
left_in (rooms.Refused class place) version item = Some item
left_in rooms.Keep version item = Some item

left_is : (room : Room) (class : ClassNo) (version : Link → Item) (item : Item) → changed (Some item) ((store_row (Some class) Append (Some item) version).answer room).change ≡ left_in room version item
left_is (rooms.At link) class version item = refl
left_is (rooms.Refused of place) class version item = refl
left_is rooms.Keep class version item = refl

-- one that was decided is made where the items have what it leaves
pub joining_makes : {given : Given} (old new : List ℕ → Option Item) {key : List ℕ} {moment : ℕ} {version : Link → Item} {put : Put} (class : ClassNo) (item : Item) → Some item ≡ old key
    → IsDecided given key (old key) moment (store_row (Some class) Append (old key) version) version put → Puts old new key (left_in put.room version item)
    → MakesRow true given old new key (store_row (Some class) Append (old key) version) moment (made_of put)
joining_makes old new {key} {moment} {version} {put} class item is decided puts = record {
  made_is = record {
    uses = decided.uses;
    reply_is = decided.reply_is;
    items = subst (λ (o : Option Item). Puts old new key (changed o ((store_row (Some class) Append o version).answer put.room).change)) is
        (subst (Puts old new key) (sym (left_is put.room class version item)) puts);
  };
  noted = λ _. refl;
  added = decided.added_is;
}

-- ---- large costs
none_by : (sizes : List ℕ) (cost limit : ℕ) (place : Option ℕ) → position (λ size. nat_le cost size) sizes ≡ place → ((k : ℕ) → get_or sizes k 0 < limit) → limit ≤ cost
    → option_map class_of_place place ≡ None
none_by sizes cost limit None is small large = refl
none_by sizes cost limit (Some place) is small large =
    let fits : nat_le cost (get_or sizes place 0) ≡ true = (position-Some (λ size. nat_le cost size) sizes place 0 is).1 in
    let below = small place in
    absurd (omega (arith, leb-true cost (get_or sizes place 0) fits))

-- no class holds a cost that is above all sizes
pub class_of-large : (sizes : List ℕ) (cost limit : ℕ) → ((k : ℕ) → get_or sizes k 0 < limit) → limit ≤ cost → class_of sizes cost ≡ None
class_of-large sizes cost limit small large = none_by sizes cost limit (position (λ size. nat_le cost size) sizes) refl small large
