-- What a command's room tells: with a chunk, its new entry; without an answer for want of a chunk, its refusal.
use Rattle.std.proofs.Common.{◌≡◌, ◌==◌, ℕ, List, [], ◌∷◌, ◌++◌, refl, sym, ◌∙◌, subst, length}
use Rattle.std.specs.Prelude.{Option, Some, None, IsSomeAnd, nat_le, decimal}
use Rattle.std.specs.Option.{option_map}
use Rattle.mc_item.specs.Answer.{Row, Written, fresh, row_of, get_row, gat_row, join_row, store_row, write_row, written_over, grown_row, number_row, count_row, stepped}
use Rattle.mc_item.specs.Answer.{touch_row, delete_row, version_of}
use Rattle.mc_item.specs.{Command.key_of, Item.expiry_of, Measure.class_of, Measure.cost_of, Measure.numeral_of, Stripe.Fits, Stripe.MayDo, Stripe.cache_of}
use Rattle.mc_item.specs.declared.{answer.Answer.Answer, answer.Site.Site, command.Command.Command, command.Verb.Verb, counting.Step.TheVariants.Up}
use Rattle.mc_item.specs.declared.{counting.Step.TheVariants.Down, item.ClassNo.ClassNo, item.Expiry.Expiry, item.Item.Item, item.Link.Link, reply.Reply.Reply}
use Rattle.mc_item.specs.declared.{reply.Room.Room, stripe_event.Did.Did, stripe_event.StripeEvent.StripeEvent}
use Rattle.mc_item.specs.declared.command.Command.TheVariants.{Get, Gat, Store, Huge, Incr, Decr, Touch, Delete}
use Rattle.mc_item.specs.declared.command.Verb.TheVariants.{Set, Add, Replace, Cas, Append, Prepend}
use Rattle.mc_item.specs.declared.reply.Reply.TheVariants as replies
use Rattle.mc_item.specs.declared.reply.Room.TheVariants as rooms
use Rattle.mc_item.specs.declared.stripe_event.StripeEvent.TheVariants as items
use Rattle.mc_rule.specs.{Pairs.IsLinking, Pairs.item_after, Pairs.link_to, Segment.Rule, Segment.segment_for}
use Rattle.mc_evidence.proofs.{LinkLifeLemmas.with_link, RowLemmas.by_test}
use Rattle.mc_evidence.specs.Made.{linked_for}

-- a command that was given a chunk left an item, whose new entry is its partner
pub new_entry : (site : Site) (rule : Rule) (class : ClassNo) (number : ℕ) (stripe : List StripeEvent) (did : Did) → MayDo site (cache_of site stripe) stripe did → did.room ≡ rooms.At (link_to class number)
    → IsSomeAnd (item_after site (stripe ++ items.Did did ∷ []) (key_of did.command)) (λ item. IsLinking site rule class stripe did (linked_for rule number did item))
new_entry site rule class number stripe did may room = by (item_after site (stripe ++ items.Did did ∷ []) (key_of did.command)) refl (with_link site stripe did (link_to class number) may room)
  where
    there : (o : Option Item) (item : Item) → item_after site (stripe ++ items.Did did ∷ []) (key_of did.command) ≡ o → o ≡ Some item → IsLinking site rule class stripe did (linked_for rule number did item)
    there o item is some = record {
      who = refl;
      room = room;
      key = refl;
      moment = refl;
      item = subst (λ (x : Option Item). IsSomeAnd x (λ y. (cost_of (key_of did.command) item.value ≡ cost_of (key_of did.command) y.value)
          × (segment_for rule did.moment item.expiry ≡ segment_for rule did.moment y.expiry))) (sym (is ∙ some)) (refl, refl);
    }

    by : (o : Option Item) → item_after site (stripe ++ items.Did did ∷ []) (key_of did.command) ≡ o → IsSomeAnd o (λ item. item.link ≡ link_to class number)
        → IsSomeAnd o (λ item. IsLinking site rule class stripe did (linked_for rule number did item))
    by None is h = absurd h
    by (Some item) is h = there (Some item) item is refl

-- a room is a refusal
abbrev IsRefused : Room → Type 0
IsRefused room = (class : ClassNo) × (place : ℕ) × (room ≡ rooms.Refused class place)

-- a row answers want of a chunk only where one was refused, and its need fits
abbrev Refuses : List StripeEvent → Room → Row → Type 0
Refuses before room row = Fits row.need room before → replies.NoRoom ≡ (row.answer room).reply → IsRefused room

fresh_refuses : (before : List StripeEvent) (room : Room) (class : ClassNo) (reply : Reply) (version : Link → Item) (refused : Answer)
    → (reply ≡ replies.NoRoom → ⊥) → Refuses before room (fresh class reply version refused)
fresh_refuses before (rooms.At link) class reply version refused other fits is = absurd (other (sym is))
fresh_refuses before rooms.Keep class reply version refused other fits is = absurd fits
fresh_refuses before (rooms.Refused c place) class reply version refused other fits is = (c, place, refl)

module _ (before : List StripeEvent) (room : Room) where
  join_refuses : (class : Option ClassNo) (found : Option Item) (version : Link → Item) → Refuses before room (join_row class found version)
  join_refuses class None version = λ fits is. absurd cc
  join_refuses None (Some item) version = λ fits is. absurd cc
  join_refuses (Some class) (Some item) version = fresh_refuses before room class replies.Stored version _ (λ h. cc)

  store_refuses : (class : Option ClassNo) (verb : Verb) (found : Option Item) (version : Link → Item) → Refuses before room (store_row class verb found version)
  store_refuses class Append found version = join_refuses class found version
  store_refuses class Prepend found version = join_refuses class found version
  store_refuses None Set found version = λ fits is. absurd cc
  store_refuses None Add found version = λ fits is. absurd cc
  store_refuses None Replace found version = λ fits is. absurd cc
  store_refuses None (Cas unique) found version = λ fits is. absurd cc
  store_refuses (Some class) Set found version = fresh_refuses before room class replies.Stored version _ (λ h. cc)
  store_refuses (Some class) Add None version = fresh_refuses before room class replies.Stored version _ (λ h. cc)
  store_refuses (Some class) Add (Some item) version = λ fits is. absurd cc
  store_refuses (Some class) Replace None version = λ fits is. absurd cc
  store_refuses (Some class) Replace (Some item) version = fresh_refuses before room class replies.Stored version _ (λ h. cc)
  store_refuses (Some class) (Cas unique) None version = λ fits is. absurd cc
  store_refuses (Some class) (Cas unique) (Some item) version =
      by_test (Refuses before room) (item.cas == unique) _ _ (λ same. fresh_refuses before room class replies.Stored version _ (λ h. cc)) (λ fits is. absurd cc)

  write_refuses : (site : Site) (n : ℕ) (key : List ℕ) (verb : Verb) (found : Option Item) (written : Written) → Refuses before room (write_row site n key verb found written)
  write_refuses site n key verb found written =
      store_refuses (class_of site.sizes (cost_of key written.value)) verb found (version_of site n written.flags written.value written.expiry)

  grown_refuses : (site : Site) (n : ℕ) (item : Item) (number : ℕ) (class : Option ClassNo) → Refuses before room (grown_row site n item number class)
  grown_refuses site n item number None = λ fits is. absurd cc
  grown_refuses site n item number (Some class) = fresh_refuses before room class (replies.Number number) (version_of site n item.flags (decimal number) item.expiry) _ (λ h. cc)

  number_refuses : (site : Site) (n : ℕ) (key : List ℕ) (item : Item) (number : Option ℕ) → Refuses before room (number_row site n key item number)
  number_refuses site n key item None = λ fits is. absurd cc
  number_refuses site n key item (Some number) =
      by_test (Refuses before room) (nat_le (length (decimal number)) (length item.value)) _ _ (λ short fits is. absurd cc) (grown_refuses site n item number (class_of site.sizes (cost_of key (decimal number))))

  count_refuses : (site : Site) (n : ℕ) (key : List ℕ) (step : ℕ → ℕ) (found : Option Item) → Refuses before room (count_row site n key step found)
  count_refuses site n key step None = λ fits is. absurd cc
  count_refuses site n key step (Some item) = number_refuses site n key item (option_map step (numeral_of item.value))

  get_refuses : (found : Option Item) → Refuses before room (get_row found)
  get_refuses None = λ fits is. absurd cc
  get_refuses (Some item) = λ fits is. absurd cc

  gat_refuses : (expiry : Expiry) (found : Option Item) → Refuses before room (gat_row expiry found)
  gat_refuses expiry None = λ fits is. absurd cc
  gat_refuses expiry (Some item) = λ fits is. absurd cc

  touch_refuses : (expiry : Expiry) (found : Option Item) → Refuses before room (touch_row expiry found)
  touch_refuses expiry None = λ fits is. absurd cc
  touch_refuses expiry (Some item) = λ fits is. absurd cc

  delete_refuses : (found : Option Item) → Refuses before room (delete_row found)
  delete_refuses None = λ fits is. absurd cc
  delete_refuses (Some item) = λ fits is. absurd cc

  row_refuses : (site : Site) (n : ℕ) (found : Option Item) (command : Command) (moment : ℕ) → Refuses before room (row_of site n found command moment)
  row_refuses site n found (Get key) moment = get_refuses found
  row_refuses site n found (Gat key exptime) moment = gat_refuses (expiry_of exptime moment) found
  row_refuses site n found (Store verb key flags exptime value) moment =
      write_refuses site n key verb found (written_over verb (record { flags = flags; value = value; expiry = expiry_of exptime moment }) found)
  row_refuses site n found (Huge verb key) moment = λ fits is. absurd cc
  row_refuses site n found (Incr key delta) moment = count_refuses site n key (stepped (Up delta)) found
  row_refuses site n found (Decr key delta) moment = count_refuses site n key (stepped (Down delta)) found
  row_refuses site n found (Touch key exptime) moment = touch_refuses (expiry_of exptime moment) found
  row_refuses site n found (Delete key) moment = delete_refuses found

-- a command that was answered that no chunk was found was refused one
pub was_refused : (site : Site) (stripe : List StripeEvent) (did : Did) → MayDo site (cache_of site stripe) stripe did → did.reply ≡ replies.NoRoom
    → (class : ClassNo) × (place : ℕ) × (did.room ≡ rooms.Refused class place)
was_refused site stripe did may reply =
    row_refuses stripe did.room site (cache_of site stripe).versions (item_after site stripe (key_of did.command)) did.command did.moment may.fits (sym reply ∙ may.reply)
