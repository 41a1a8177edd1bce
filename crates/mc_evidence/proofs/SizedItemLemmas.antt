-- An item's key is of its stripe, and the class of its link is one of the store's.
use Rattle.std.proofs.Common.{◌≡◌, ◌<◌, ◌≤◌, ◌+◌, ◌==◌, ℕ, List, refl, sym, ap, subst, arith, length}
use Rattle.std.specs.Prelude.{Option, Some, None, nat_le, position, decimal}
use Rattle.std.specs.Option.{option_map}
use Rattle.std.proofs.lemmas.List.Quantifiers.{position-Some}
use Rattle.mc_item.specs.Answer.{Row, Written, row_of, join_row, store_row, write_row, written_over, grown_row, number_row, count_row, stepped, version_of, get_row, gat_row}
use Rattle.mc_item.specs.Answer.{touch_row, delete_row}
use Rattle.mc_item.specs.{Command.key_of, Item.expiry_of, Measure.class_of, Measure.class_of_place, Measure.cost_of, Measure.numeral_of, Stripe.cache_of, Stripe.Fits}
use Rattle.mc_item.specs.{Stripe.IsLegal, Stripe.MayHappen}
use Rattle.mc_item.specs.declared.{answer.Need.Need, answer.Site.Site, command.Command.Command, command.Verb.Verb, counting.Step.TheVariants.Up}
use Rattle.mc_item.specs.declared.{counting.Step.TheVariants.Down, item.ClassNo.ClassNo, item.Expiry.Expiry, item.Item.Item, item.Link.Link}
use Rattle.mc_item.specs.declared.{stripe_event.StripeEvent.StripeEvent}
use Rattle.mc_item.specs.declared.answer.Need.TheVariants as needs
use Rattle.mc_item.specs.declared.command.Command.TheVariants.{Get, Gat, Store, Huge, Incr, Decr, Touch, Delete}
use Rattle.mc_item.specs.declared.command.Verb.TheVariants.{Set, Add, Replace, Cas, Append, Prepend}
use Rattle.mc_item.specs.declared.reply.Room.TheVariants as rooms
use Rattle.mc_item.specs.declared.stripe_event.StripeEvent.TheVariants as events
use Rattle.mc_rule.proofs.{HistoryLemmas.legal_at, TestLemmas.none_some, TestLemmas.some_same}
use Rattle.mc_rule.specs.{Lists.found, Pairs.IsKeyOf, Pairs.item_after}
use Rattle.mc_evidence.proofs.{LinkLifeLemmas.IsGiftOf, LinkLifeLemmas.holds, LinkLifeLemmas.was_given, RowLemmas.by_test}

-- an item's key is of its stripe
key_given : (site : Site) (before : List StripeEvent) (e : StripeEvent) (key : List ℕ) (link : Link) → MayHappen site (cache_of site before) before e → IsGiftOf key link e → IsKeyOf site key
key_given site before (events.Did did) key link may is = subst (IsKeyOf site) is.0 may.stripe
key_given site before (events.Lost lost) key link may is = absurd is
key_given site before (events.Cooled cooled) key link may is = absurd is

pub key_of_stripe : (site : Site) (stripe : List StripeEvent) (key : List ℕ) (link : Link) (cost : ℕ) → IsLegal site stripe → holds site key stripe ≡ Some (link, cost) → IsKeyOf site key
key_of_stripe site stripe key link cost legal h =
    let g = was_given site key link cost stripe legal h in
    key_given site g.0 g.1 key link (legal_at site stripe g.0 g.1 legal g.2) g.3

-- a class is one of these sizes
abbrev pub IsSized : List ℕ → ClassNo → Type 0
IsSized sizes class = (0 < class.0) × (class.0 ≤ length sizes)

-- a class that a need names is one of these sizes
abbrev pub NamesSized : List ℕ → Need → Type 0
NamesSized sizes (needs.Fresh class) = IsSized sizes class
NamesSized sizes needs.Nothing = Unit {0}
NamesSized sizes needs.Same = Unit {0}
NamesSized sizes needs.TooLarge = Unit {0}

class_sized : (sizes : List ℕ) (cost : ℕ) (o : Option ℕ) → position (λ size. nat_le cost size) sizes ≡ o → (class : ClassNo) → option_map class_of_place o ≡ Some class → IsSized sizes class
class_sized sizes cost None is class h = absurd (none_some h)
class_sized sizes cost (Some place) is class h =
    let below = (position-Some (λ size. nat_le cost size) sizes place 0 is).0 in
    let at : place + 1 ≡ class.0 = ap (λ (c : ClassNo). c.0) (some_same (class_of_place place) class h) in
    (omega arith, omega arith)

module _ (sizes : List ℕ) where
  join_names : (class : Option ClassNo) (found : Option Item) (version : Link → Item) → ((c : ClassNo) → class ≡ Some c → IsSized sizes c) → NamesSized sizes (join_row class found version).need
  join_names class None version sized = tt
  join_names None (Some item) version sized = tt
  join_names (Some class) (Some item) version sized = sized class refl

  store_names : (class : Option ClassNo) (verb : Verb) (found : Option Item) (version : Link → Item) → ((c : ClassNo) → class ≡ Some c → IsSized sizes c) → NamesSized sizes (store_row class verb found version).need
  store_names class Append found version sized = join_names class found version sized
  store_names class Prepend found version sized = join_names class found version sized
  store_names None Set found version sized = tt
  store_names None Add found version sized = tt
  store_names None Replace found version sized = tt
  store_names None (Cas unique) found version sized = tt
  store_names (Some class) Set found version sized = sized class refl
  store_names (Some class) Add None version sized = sized class refl
  store_names (Some class) Add (Some item) version sized = tt
  store_names (Some class) Replace None version sized = tt
  store_names (Some class) Replace (Some item) version sized = sized class refl
  store_names (Some class) (Cas unique) None version sized = tt
  store_names (Some class) (Cas unique) (Some item) version sized =
      by_test (λ (row : Row). NamesSized sizes row.need) (item.cas == unique) _ _ (λ is. sized class refl) tt

  get_names : (found : Option Item) → NamesSized sizes (get_row found).need
  get_names None = tt
  get_names (Some item) = tt

  gat_names : (expiry : Expiry) (found : Option Item) → NamesSized sizes (gat_row expiry found).need
  gat_names expiry None = tt
  gat_names expiry (Some item) = tt

  touch_names : (expiry : Expiry) (found : Option Item) → NamesSized sizes (touch_row expiry found).need
  touch_names expiry None = tt
  touch_names expiry (Some item) = tt

  delete_names : (found : Option Item) → NamesSized sizes (delete_row found).need
  delete_names None = tt
  delete_names (Some item) = tt

module _ (site : Site) where
  class_of_sized : (cost : ℕ) (class : ClassNo) → class_of site.sizes cost ≡ Some class → IsSized site.sizes class
  class_of_sized cost class is = class_sized site.sizes cost (position (λ size. nat_le cost size) site.sizes) refl class is

  grown_names : (n : ℕ) (item : Item) (number : ℕ) (class : Option ClassNo) → ((c : ClassNo) → class ≡ Some c → IsSized site.sizes c) → NamesSized site.sizes (grown_row site n item number class).need
  grown_names n item number None sized = tt
  grown_names n item number (Some class) sized = sized class refl

  number_names : (n : ℕ) (key : List ℕ) (item : Item) (number : Option ℕ) → NamesSized site.sizes (number_row site n key item number).need
  number_names n key item None = tt
  number_names n key item (Some number) =
      by_test (λ (row : Row). NamesSized site.sizes row.need) (nat_le (length (decimal number)) (length item.value)) _ _ (λ is. tt)
      (grown_names n item number (class_of site.sizes (cost_of key (decimal number))) (class_of_sized (cost_of key (decimal number))))

  count_names : (n : ℕ) (key : List ℕ) (step : ℕ → ℕ) (found : Option Item) → NamesSized site.sizes (count_row site n key step found).need
  count_names n key step None = tt
  count_names n key step (Some item) = number_names n key item (option_map step (numeral_of item.value))

  write_names : (n : ℕ) (key : List ℕ) (verb : Verb) (found : Option Item) (written : Written) → NamesSized site.sizes (write_row site n key verb found written).need
  write_names n key verb found written =
      store_names site.sizes (class_of site.sizes (cost_of key written.value)) verb found (version_of site n written.flags written.value written.expiry)
      (class_of_sized (cost_of key written.value))

  pub row_names : (n : ℕ) (found : Option Item) (command : Command) (moment : ℕ) → NamesSized site.sizes (row_of site n found command moment).need
  row_names n found (Get key) moment = get_names site.sizes found
  row_names n found (Gat key exptime) moment = gat_names site.sizes (expiry_of exptime moment) found
  row_names n found (Store verb key flags exptime value) moment =
      write_names n key verb found (written_over verb (record { flags = flags; value = value; expiry = expiry_of exptime moment }) found)
  row_names n found (Huge verb key) moment = tt
  row_names n found (Incr key delta) moment = count_names n key (stepped (Up delta)) found
  row_names n found (Decr key delta) moment = count_names n key (stepped (Down delta)) found
  row_names n found (Touch key exptime) moment = touch_names site.sizes (expiry_of exptime moment) found
  row_names n found (Delete key) moment = delete_names site.sizes found

  fits_sized : (need : Need) (link : Link) (before : List StripeEvent) → Fits need (rooms.At link) before → NamesSized site.sizes need → IsSized site.sizes link.class
  fits_sized (needs.Fresh class) link before fits sized = subst (IsSized site.sizes) (sym fits.0) sized
  fits_sized needs.Nothing link before fits sized = absurd fits
  fits_sized needs.Same link before fits sized = absurd fits
  fits_sized needs.TooLarge link before fits sized = absurd fits

  gift_sized : (before : List StripeEvent) (e : StripeEvent) (key : List ℕ) (link : Link) → MayHappen site (cache_of site before) before e → IsGiftOf key link e → IsSized site.sizes link.class
  gift_sized before (events.Did did) key link may is =
      fits_sized (row_of site (cache_of site before).versions (item_after site before (key_of did.command)) did.command did.moment).need link before
      (subst (λ r. Fits (row_of site (cache_of site before).versions (item_after site before (key_of did.command)) did.command did.moment).need r before) is.1 may.fits)
      (row_names (cache_of site before).versions (item_after site before (key_of did.command)) did.command did.moment)
  gift_sized before (events.Lost lost) key link may is = absurd is
  gift_sized before (events.Cooled cooled) key link may is = absurd is

  -- the class of an item's link is one of the store's
  pub link_sized : (stripe : List StripeEvent) (key : List ℕ) (link : Link) (cost : ℕ) → IsLegal site stripe → holds site key stripe ≡ Some (link, cost) → IsSized site.sizes link.class
  link_sized stripe key link cost legal h =
      let g = was_given site key link cost stripe legal h in
      gift_sized g.0 g.1 key link (legal_at site stripe g.0 g.1 legal g.2) g.3
