-- The new item of a command costs no more than a class can hold, and a reader takes no link away.
use Rattle.std.proofs.Common.{◌≡◌, ◌≤◌, ◌^◌, ◌==◌, ℕ, List, [], ◌∷◌, ◌++◌, refl, sym, ap, ◌∙◌, subst, length}
use Rattle.std.specs.Prelude.{Option, Some, None, IsSomeAnd, nat_le, decimal}
use Rattle.std.specs.Option.{option_map}
use Rattle.mc_item.specs.Answer.{Row, Written, row_of, get_row, join_row, store_row, write_row, written_over, grown_row, number_row, count_row, stepped, version_of}
use Rattle.mc_item.specs.{Cache.changed, Cache.answer_of, Command.key_of, Item.expiry_of, Item.link_of_item, Measure.class_of, Measure.cost_of}
use Rattle.mc_item.specs.{Measure.numeral_of, Stripe.Fits, Stripe.MayDo, Stripe.cache_of}
use Rattle.mc_item.specs.declared.{answer.Site.Site, command.Command.Command, command.Verb.Verb, counting.Step.TheVariants.Up, counting.Step.TheVariants.Down}
use Rattle.mc_item.specs.declared.{item.ClassNo.ClassNo, item.Item.Item, item.Link.Link, reply.Room.Room, stripe_event.Did.Did}
use Rattle.mc_item.specs.declared.{stripe_event.StripeEvent.StripeEvent}
use Rattle.mc_item.specs.declared.command.Command.TheVariants.{Get, Gat, Store, Huge, Incr, Decr, Touch, Delete}
use Rattle.mc_item.specs.declared.command.Verb.TheVariants.{Set, Add, Replace, Cas, Append, Prepend}
use Rattle.mc_item.specs.declared.reply.Room.TheVariants as rooms
use Rattle.mc_item.specs.declared.stripe_event.StripeEvent.TheVariants as items
use Rattle.mc_rule.specs.Pairs.{LetsGo, item_after}
use Rattle.mc_evidence.proofs.{LinkLifeLemmas.by_key, LinkLifeLemmas.holds_push, RowLemmas.IsFresh, RowLemmas.by_test, RowLemmas.fits_fresh}
use Rattle.mc_evidence.specs.Small.{AreSmall, IsReader}

-- with a chunk, a row leaves an item of a cost that a class can hold
abbrev LeavesSmall : List ℕ → Option Item → Row → Type 0
LeavesSmall key found row = (link : Link) → IsFresh row.need → IsSomeAnd (changed found (row.answer (rooms.At link)).change) (λ item. cost_of key item.value ≤ 2 ^ 20)

module _ (sizes : List ℕ) (small : AreSmall sizes) where
  join_small : (key : List ℕ) (class : Option ClassNo) (found : Option Item) (version : Link → Item) → ((c : ClassNo) → class ≡ Some c → (link : Link) → cost_of key (version link).value ≤ 2 ^ 20)
      → LeavesSmall key found (join_row class found version)
  join_small key class None version most = λ link is. absurd is
  join_small key None (Some item) version most = λ link is. absurd is
  join_small key (Some class) (Some item) version most = λ link is. most class refl link

  store_small : (key : List ℕ) (class : Option ClassNo) (verb : Verb) (found : Option Item) (version : Link → Item) → ((c : ClassNo) → class ≡ Some c → (link : Link) → cost_of key (version link).value ≤ 2 ^ 20)
      → LeavesSmall key found (store_row class verb found version)
  store_small key class Append found version most = join_small key class found version most
  store_small key class Prepend found version most = join_small key class found version most
  store_small key None Set found version most = λ link is. absurd is
  store_small key None Add found version most = λ link is. absurd is
  store_small key None Replace found version most = λ link is. absurd is
  store_small key None (Cas unique) found version most = λ link is. absurd is
  store_small key (Some class) Set found version most = λ link is. most class refl link
  store_small key (Some class) Add None version most = λ link is. most class refl link
  store_small key (Some class) Add (Some item) version most = λ link is. absurd is
  store_small key (Some class) Replace None version most = λ link is. absurd is
  store_small key (Some class) Replace (Some item) version most = λ link is. most class refl link
  store_small key (Some class) (Cas unique) None version most = λ link is. absurd is
  store_small key (Some class) (Cas unique) (Some item) version most =
      by_test (LeavesSmall key (Some item)) (item.cas == unique) _ _ (λ same link is. most class refl link) (λ link is. absurd is)

  grown_small : (site : Site) (n : ℕ) (key : List ℕ) (item : Item) (number : ℕ) (class : Option ClassNo)
      → ((c : ClassNo) → class ≡ Some c → cost_of key (decimal number) ≤ 2 ^ 20) → LeavesSmall key (Some item) (grown_row site n item number class)
  grown_small site n key item number None most = λ link is. absurd is
  grown_small site n key item number (Some class) most = λ link is. most class refl

module _ (site : Site) (small : AreSmall site.sizes) where
  number_small : (n : ℕ) (key : List ℕ) (item : Item) (number : Option ℕ) → LeavesSmall key (Some item) (number_row site n key item number)
  number_small n key item None = λ link is. absurd is
  number_small n key item (Some number) =
      by_test (LeavesSmall key (Some item)) (nat_le (length (decimal number)) (length item.value)) _ _ (λ short link is. absurd is)
      (grown_small site.sizes small site n key item number (class_of site.sizes (cost_of key (decimal number))) (λ c is. small.most (cost_of key (decimal number)) c is))

  count_small : (n : ℕ) (key : List ℕ) (step : ℕ → ℕ) (found : Option Item) → LeavesSmall key found (count_row site n key step found)
  count_small n key step None = λ link is. absurd is
  count_small n key step (Some item) = number_small n key item (option_map step (numeral_of item.value))

  get_small : (key : List ℕ) (found : Option Item) → LeavesSmall key found (get_row found)
  get_small key None = λ link is. absurd is
  get_small key (Some item) = λ link is. absurd is

  write_small : (n : ℕ) (key : List ℕ) (verb : Verb) (found : Option Item) (written : Written) → LeavesSmall key found (write_row site n key verb found written)
  write_small n key verb found written =
      store_small site.sizes small key (class_of site.sizes (cost_of key written.value)) verb found (version_of site n written.flags written.value written.expiry)
      (λ c is link. small.most (cost_of key written.value) c is)

  row_small : (n : ℕ) (found : Option Item) (command : Command) (moment : ℕ) → LeavesSmall (key_of command) found (row_of site n found command moment)
  row_small n found (Get key) moment = get_small key found
  row_small n None (Gat key exptime) moment = λ link is. absurd is
  row_small n (Some item) (Gat key exptime) moment = λ link is. absurd is
  row_small n found (Store verb key flags exptime value) moment =
      write_small n key verb found (written_over verb (record { flags = flags; value = value; expiry = expiry_of exptime moment }) found)
  row_small n found (Huge verb key) moment = λ link is. absurd is
  row_small n found (Incr key delta) moment = count_small n key (stepped (Up delta)) found
  row_small n found (Decr key delta) moment = count_small n key (stepped (Down delta)) found
  row_small n None (Touch key exptime) moment = λ link is. absurd is
  row_small n (Some item) (Touch key exptime) moment = λ link is. absurd is
  row_small n None (Delete key) moment = λ link is. absurd is
  row_small n (Some item) (Delete key) moment = λ link is. absurd is

  -- a command that was given a chunk left an item of a cost that a class can hold
  pub small_item : (h : List StripeEvent) (did : Did) (link : Link) → MayDo site (cache_of site h) h did → did.room ≡ rooms.At link
      → IsSomeAnd (item_after site (h ++ items.Did did ∷ []) (key_of did.command)) (λ item. cost_of (key_of did.command) item.value ≤ 2 ^ 20)
  small_item h did link may is =
      let P : Option Item → Type 0 = λ o. IsSomeAnd o (λ item. cost_of (key_of did.command) item.value ≤ 2 ^ 20) in
      let row = row_of site (cache_of site h).versions (item_after site h (key_of did.command)) did.command did.moment in
      let fits = fits_fresh _ link h (subst (λ (r : Room). Fits row.need r h) is may.fits) in
      holds_push site (key_of did.command) h (items.Did did) P
      (by_key P (cache_of site h) (key_of did.command) (key_of did.command) (answer_of site (cache_of site h) did.command did.moment did.room).change
      (λ same. subst (λ (r : Room). P (changed (item_after site h (key_of did.command)) (row.answer r).change)) (sym is)
      (row_small (cache_of site h).versions (item_after site h (key_of did.command)) did.command did.moment link fits))
      (λ apart. absurd (apart refl)))

-- ---- readers

reader_link : (site : Site) (n : ℕ) (found : Option Item) (command : Command) (moment : ℕ) (room : Room) → IsReader command
    → link_of_item (changed found ((row_of site n found command moment).answer room).change) ≡ link_of_item found
reader_link site n None (Get key) moment room is = refl
reader_link site n (Some item) (Get key) moment room is = refl
reader_link site n None (Gat key exptime) moment room is = refl
reader_link site n (Some item) (Gat key exptime) moment room is = refl
reader_link site n found (Store verb key flags exptime value) moment room is = absurd is
reader_link site n found (Huge verb key) moment room is = absurd is
reader_link site n found (Incr key delta) moment room is = absurd is
reader_link site n found (Decr key delta) moment room is = absurd is
reader_link site n None (Touch key exptime) moment room is = refl
reader_link site n (Some item) (Touch key exptime) moment room is = refl
reader_link site n found (Delete key) moment room is = absurd is

-- a command that reads takes no link away
pub reader_spares : (site : Site) (h : List StripeEvent) (did : Did) (link : Link) → IsReader did.command → LetsGo site h did link → ⊥
reader_spares site h did link reader lets =
    let P : Option Item → Type 0 = λ o. link_of_item o ≡ Some link in
    lets.has_not (holds_push site (key_of did.command) h (items.Did did) P
    (by_key P (cache_of site h) (key_of did.command) (key_of did.command) (answer_of site (cache_of site h) did.command did.moment did.room).change
    (λ same. reader_link site (cache_of site h).versions (item_after site h (key_of did.command)) did.command did.moment did.room reader ∙ lets.had)
    (λ apart. absurd (apart refl))))

-- nor does one for which there is no item
pub absent_spares : (site : Site) (h : List StripeEvent) (did : Did) (link : Link) → item_after site h (key_of did.command) ≡ None → LetsGo site h did link → ⊥
absent_spares site h did link none lets =
    let gone : None ≡ Some link = sym (ap link_of_item none) ∙ lets.had in
    cc
