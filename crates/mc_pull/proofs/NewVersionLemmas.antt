-- A command makes a new version just where its room is a link, and the version has that link.
use Rattle.std.proofs.Common.{◌≡◌, ◌==◌, ℕ, List, refl, sym, ap, length}
use Rattle.std.specs.Prelude.{Option, Some, None, nat_le, decimal}
use Rattle.std.specs.Option.{option_map}
use Rattle.mc_item.specs.Answer.{Row, Written, fresh, row_of, get_row, gat_row, join_row, store_row, write_row, written_over, let_go, grown_row, number_row, count_row, stepped, touch_row, delete_row, version_of}
use Rattle.mc_item.specs.{Item.expiry_of, Measure.class_of, Measure.cost_of, Measure.numeral_of, Stripe.Fits}
use Rattle.mc_item.specs.declared.{answer.Answer.Answer, answer.Change.Change, answer.Need.Need, answer.Site.Site, command.Command.Command, command.Verb.Verb}
use Rattle.mc_item.specs.declared.{counting.Step.TheVariants.Up, counting.Step.TheVariants.Down, item.ClassNo.ClassNo, item.Expiry.Expiry, item.Item.Item}
use Rattle.mc_item.specs.declared.{item.Link.Link, reply.Reply.Reply, reply.Room.Room, stripe_event.StripeEvent.StripeEvent}
use Rattle.mc_item.specs.declared.answer.Change.TheVariants as changes
use Rattle.mc_item.specs.declared.answer.Need.TheVariants as needs
use Rattle.mc_item.specs.declared.command.Command.TheVariants.{Get, Gat, Store, Huge, Incr, Decr, Touch, Delete}
use Rattle.mc_item.specs.declared.command.Verb.TheVariants.{Set, Add, Replace, Cas, Append, Prepend}
use Rattle.mc_item.specs.declared.reply.Room.TheVariants as rooms
use Rattle.mc_evidence.proofs.RowLemmas.{IsFresh, IsNoChunk, by_test, fits_fresh}

-- a change gives a new version just where the room is a link, and the version has that link
abbrev pub IsPlaced : Room → Change → Type 0
IsPlaced room changes.Stays = IsNoChunk room
IsPlaced room changes.Goes = IsNoChunk room
IsPlaced room (changes.Hit marks) = IsNoChunk room
IsPlaced room (changes.Touched expiry marks) = IsNoChunk room
IsPlaced room (changes.Counted value cas) = IsNoChunk room
IsPlaced room (changes.Renewed item) = room ≡ rooms.At item.link

module _ (before : List StripeEvent) (room : Room) where
  -- so it is with a row, where the room fits its need
  abbrev Places : Row → Type 0
  Places row = Fits row.need room before → IsPlaced room (row.answer room).change

  no_chunk : (need : Need) (r : Room) → (IsFresh need → ⊥) → Fits need r before → IsNoChunk r
  no_chunk need (rooms.At link) other fits = other (fits_fresh need link before fits)
  no_chunk need rooms.Keep other fits = tt
  no_chunk need (rooms.Refused class place) other fits = tt

  let_go_places : (need : Need) (verb : Verb) → (IsFresh need → ⊥) → Fits need room before → IsPlaced room (let_go verb)
  let_go_places need Set other fits = no_chunk need room other fits
  let_go_places need Add other fits = no_chunk need room other fits
  let_go_places need Replace other fits = no_chunk need room other fits
  let_go_places need (Cas unique) other fits = no_chunk need room other fits
  let_go_places need Append other fits = no_chunk need room other fits
  let_go_places need Prepend other fits = no_chunk need room other fits

  get_places : (found : Option Item) → Places (get_row found)
  get_places None = λ fits. no_chunk needs.Nothing room (λ h. h) fits
  get_places (Some item) = λ fits. no_chunk needs.Nothing room (λ h. h) fits

  gat_places : (expiry : Expiry) (found : Option Item) → Places (gat_row expiry found)
  gat_places expiry None = λ fits. no_chunk needs.Nothing room (λ h. h) fits
  gat_places expiry (Some item) = λ fits. no_chunk needs.Nothing room (λ h. h) fits

  touch_places : (expiry : Expiry) (found : Option Item) → Places (touch_row expiry found)
  touch_places expiry None = λ fits. no_chunk needs.Nothing room (λ h. h) fits
  touch_places expiry (Some item) = λ fits. no_chunk needs.Nothing room (λ h. h) fits

  delete_places : (found : Option Item) → Places (delete_row found)
  delete_places None = λ fits. no_chunk needs.Nothing room (λ h. h) fits
  delete_places (Some item) = λ fits. no_chunk needs.Nothing room (λ h. h) fits

refused_places : (verb : Verb) (class : ClassNo) (place : ℕ) → IsPlaced (rooms.Refused class place) (let_go verb)
refused_places Set class place = tt
refused_places Add class place = tt
refused_places Replace class place = tt
refused_places (Cas unique) class place = tt
refused_places Append class place = tt
refused_places Prepend class place = tt

fresh_places : (before : List StripeEvent) (room : Room) (class : ClassNo) (reply : Reply) (version : Link → Item) (refused : Answer) → ((link : Link) → (version link).link ≡ link)
    → ((other : ClassNo) (place : ℕ) → IsPlaced (rooms.Refused other place) refused.change) → Places before room (fresh class reply version refused)
fresh_places before (rooms.At link) class reply version refused linked none = λ fits. ap rooms.At (sym (linked link))
fresh_places before rooms.Keep class reply version refused linked none = λ fits. absurd fits
fresh_places before (rooms.Refused other place) class reply version refused linked none = λ fits. none other place

module _ (before : List StripeEvent) (room : Room) where
  join_places : (class : Option ClassNo) (found : Option Item) (version : Link → Item) → ((link : Link) → (version link).link ≡ link) → Places before room (join_row class found version)
  join_places class None version linked = λ fits. no_chunk before room needs.Nothing room (λ h. h) fits
  join_places None (Some item) version linked = λ fits. no_chunk before room needs.TooLarge room (λ h. h) fits
  join_places (Some class) (Some item) version linked = fresh_places before room class _ version _ linked (λ other place. tt)

  store_places : (class : Option ClassNo) (verb : Verb) (found : Option Item) (version : Link → Item) → ((link : Link) → (version link).link ≡ link) → Places before room (store_row class verb found version)
  store_places class Append found version linked = join_places class found version linked
  store_places class Prepend found version linked = join_places class found version linked
  store_places None Set found version linked = λ fits. let_go_places before room needs.TooLarge Set (λ h. h) fits
  store_places None Add found version linked = λ fits. let_go_places before room needs.TooLarge Add (λ h. h) fits
  store_places None Replace found version linked = λ fits. let_go_places before room needs.TooLarge Replace (λ h. h) fits
  store_places None (Cas unique) found version linked = λ fits. let_go_places before room needs.TooLarge (Cas unique) (λ h. h) fits
  store_places (Some class) Set found version linked = fresh_places before room class _ version _ linked (refused_places Set)
  store_places (Some class) Add None version linked = fresh_places before room class _ version _ linked (refused_places Add)
  store_places (Some class) Add (Some item) version linked = λ fits. no_chunk before room needs.Nothing room (λ h. h) fits
  store_places (Some class) Replace None version linked = λ fits. no_chunk before room needs.Nothing room (λ h. h) fits
  store_places (Some class) Replace (Some item) version linked = fresh_places before room class _ version _ linked (refused_places Replace)
  store_places (Some class) (Cas unique) None version linked = λ fits. no_chunk before room needs.Nothing room (λ h. h) fits
  store_places (Some class) (Cas unique) (Some item) version linked =
      by_test (Places before room) (item.cas == unique) _ _ (λ same. fresh_places before room class _ version _ linked (refused_places (Cas unique))) (λ fits. no_chunk before room needs.Nothing room (λ h. h) fits)

  write_places : (site : Site) (n : ℕ) (key : List ℕ) (verb : Verb) (found : Option Item) (w : Written) → Places before room (write_row site n key verb found w)
  write_places site n key verb found w = store_places (class_of site.sizes (cost_of key w.value)) verb found (version_of site n w.flags w.value w.expiry) (λ link. refl)

  grown_places : (site : Site) (n : ℕ) (item : Item) (number : ℕ) (class : Option ClassNo) → Places before room (grown_row site n item number class)
  grown_places site n item number None = λ fits. no_chunk before room needs.TooLarge room (λ h. h) fits
  grown_places site n item number (Some class) = fresh_places before room class _ (version_of site n item.flags (decimal number) item.expiry) _ (λ link. refl) (λ other place. tt)

  number_places : (site : Site) (n : ℕ) (key : List ℕ) (item : Item) (number : Option ℕ) → Places before room (number_row site n key item number)
  number_places site n key item None = λ fits. no_chunk before room needs.Nothing room (λ h. h) fits
  number_places site n key item (Some number) =
      by_test (Places before room) (nat_le (length (decimal number)) (length item.value)) _ _ (λ short fits. no_chunk before room needs.Same room (λ h. h) fits)
      (grown_places site n item number (class_of site.sizes (cost_of key (decimal number))))

  count_places : (site : Site) (n : ℕ) (key : List ℕ) (step : ℕ → ℕ) (found : Option Item) → Places before room (count_row site n key step found)
  count_places site n key step None = λ fits. no_chunk before room needs.Nothing room (λ h. h) fits
  count_places site n key step (Some item) = number_places site n key item (option_map step (numeral_of item.value))

  pub row_places : (site : Site) (n : ℕ) (found : Option Item) (command : Command) (moment : ℕ) → Fits (row_of site n found command moment).need room before
      → IsPlaced room ((row_of site n found command moment).answer room).change
  row_places site n found (Get key) moment = get_places before room found
  row_places site n found (Gat key exptime) moment = gat_places before room (expiry_of exptime moment) found
  row_places site n found (Store verb key flags exptime value) moment =
      write_places site n key verb found (written_over verb (record { flags = flags; value = value; expiry = expiry_of exptime moment }) found)
  row_places site n found (Huge verb key) moment = λ fits. let_go_places before room needs.TooLarge verb (λ h. h) fits
  row_places site n found (Incr key delta) moment = count_places site n key (stepped (Up delta)) found
  row_places site n found (Decr key delta) moment = count_places site n key (stepped (Down delta)) found
  row_places site n found (Touch key exptime) moment = touch_places before room (expiry_of exptime moment) found
  row_places site n found (Delete key) moment = delete_places before room found
