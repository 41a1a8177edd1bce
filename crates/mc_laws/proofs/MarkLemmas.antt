-- What no reply shows: the items that are dead, and the marks that are cooled.
use Rattle.std.proofs.Common.{◌≡◌, ◌≢◌, ◌≤◌, ℕ, List, [], ◌∷◌, ◌++◌, refl, sym, ap, ◌∙◌, subst, append_assoc, add-zero, ◌+◌, length, Bool, true, false}
use Rattle.std.specs.Prelude.{Option, Some, None, IfSome, nat_eq, nat_le, if◌then◌else◌, decimal}
use Rattle.std.specs.{Option.option_map, Cmp.Lexicographic.pointwise, Cmp.Lexicographic.bytes_decides}
use Rattle.std.proofs.lemmas.Bool.{false≢true}
use Rattle.mc_laws.proofs.EventLemmas.{after_elsewhere, come_stays, legal_on}
use Rattle.mc_laws.specs.Events.{NoneAsks}
use Rattle.mc_item.specs.Answer.{Row, Written, row_of, join_row, store_row, write_row, written_over, huge_row, grown_row, number_row, count_row, stepped, version_of, plain, padded, cas_of}
use Rattle.mc_item.specs.Cache.{Cache, empty_cache, changed, after_change, answer_of, versions_of, marked}
use Rattle.mc_item.specs.{Command.key_of, Item.is_dead, Item.no_marks, Item.expiry_of, Measure.class_of, Measure.cost_of, Measure.numeral_of}
use Rattle.mc_item.specs.Stripe.{cache_after, cache_from, cache_of, IsLegal, IsAlive, IsDead, cooled_change}
use Rattle.mc_item.specs.declared.{answer.Change.Change, answer.Need.Need, answer.Site.Site, command.Command.Command, command.Verb.Verb}
use Rattle.mc_item.specs.declared.{counting.Step.TheVariants.Up, counting.Step.TheVariants.Down, item.ClassNo.ClassNo, item.Item.Item, item.Link.Link}
use Rattle.mc_item.specs.declared.{reply.Reply.Reply, reply.Room.Room, stripe_event.Cooled.Cooled, stripe_event.Did.Did, stripe_event.StripeEvent.StripeEvent}
use Rattle.mc_item.specs.declared.answer.Change.TheVariants.{Stays, Goes, Hit, Touched, Counted, Renewed}
use Rattle.mc_item.specs.declared.answer.Need.TheVariants as needs
use Rattle.mc_item.specs.declared.command.Command.TheVariants.{Get, Gat, Store, Huge, Incr, Decr, Touch, Delete}
use Rattle.mc_item.specs.declared.command.Verb.TheVariants.{Set, Add, Replace, Cas, Append, Prepend}
use Rattle.mc_item.specs.declared.reply.Reply.TheVariants as replies
use Rattle.mc_item.specs.declared.stripe_event.StripeEvent.TheVariants as events

-- ---- one key's item after a change

-- what holds of the changed item, where the key is the one, and of the old item, where it isn't, holds after a change
pub by_key : (P : Option Item → Type 0) (cache : Cache) (key q : List ℕ) (change : Change) → (key ≡ q → P (changed (cache.items key) change))
    → (key ≢ q → P (cache.items q)) → P ((after_change cache key change).items q)
by_key P cache key q change here elsewhere = by (pointwise nat_eq key q) refl
  where
    by : (b : Bool) → pointwise nat_eq key q ≡ b → P (if b then changed (cache.items key) change else cache.items q)
    by true is = here ((bytes_decides key q).0 is)
    by false is = elsewhere (λ same. false≢true (sym is ∙ (bytes_decides key q).1 same))

-- the later events go on from where the earlier ones lead
pub cache_from-append : (site : Site) (cache : Cache) (es rest : List StripeEvent)
    → cache_from site cache (es ++ rest) ≡ cache_from site (cache_from site cache es) rest
cache_from-append site cache [] rest = refl
cache_from-append site cache (e ∷ es) rest = cache_from-append site (cache_after site cache e) es rest

-- ---- the dead

-- no item is there but one that is dead at a moment
abbrev pub IsDeadOrGone : Option Item → ℕ → Type 0
IsDeadOrGone found moment = IfSome found (λ item. is_dead item moment ≡ true)

-- where the item is dead, no live one is there
dead_alone : (found : Option Item) (moment : ℕ) → IsDead found moment → IsDeadOrGone found moment
dead_alone None moment dead = absurd dead
dead_alone (Some item) moment dead = dead

-- an item that is cooled is as dead as it was
cooled_stays_dead : (found : Option Item) (moment : ℕ) → IsDeadOrGone found moment → IsDeadOrGone (changed found (cooled_change found)) moment
cooled_stays_dead None moment dead = dead
cooled_stays_dead (Some item) moment dead = dead

-- where no command asks for the key, its item stays dead, or goes
stays_dead : (site : Site) (cache : Cache) (key : List ℕ) (moment : ℕ) (es : List StripeEvent) → NoneAsks key es
    → IsDeadOrGone (cache.items key) moment → IsDeadOrGone ((cache_from site cache es).items key) moment
stays_dead site cache key moment [] none dead = dead
stays_dead site cache key moment (events.Did did ∷ es) none dead =
    stays_dead site (cache_after site cache (events.Did did)) key moment es none.1
    (subst (λ (found : Option Item). IsDeadOrGone found moment) (sym (after_elsewhere site cache (events.Did did) key none.0)) dead)
stays_dead site cache key moment (events.Lost lost ∷ es) none dead =
    stays_dead site (cache_after site cache (events.Lost lost)) key moment es none
    (by_key (λ (found : Option Item). IsDeadOrGone found moment) cache lost.key key Goes (λ same. tt) (λ apart. dead))
stays_dead site cache key moment (events.Cooled cooled ∷ es) none dead =
    stays_dead site (cache_after site cache (events.Cooled cooled)) key moment es none
    (by_key (λ (found : Option Item). IsDeadOrGone found moment) cache cooled.key key (cooled_change (cache.items cooled.key))
    (λ same. cooled_stays_dead (cache.items cooled.key) moment (subst (λ (k : List ℕ). IsDeadOrGone (cache.items k) moment) (sym same) dead))
    (λ apart. dead))

-- an item that was dead and is alive isn't there
alive_is_gone : (found : Option Item) (m n : ℕ) → IsDeadOrGone found m → m ≤ n → IsAlive found n → found ≡ None
alive_is_gone None m n dead le alive = refl
alive_is_gone (Some item) m n dead le alive = absurd (false≢true (sym alive ∙ come_stays item.expiry m n dead le))

-- once an item is dead, the next command of its key answers as for a key that has none
pub answered_as_absent : (site : Site) (before between : List StripeEvent) (did : Did) (key : List ℕ) (moment : ℕ)
    → IsDead ((cache_of site before).items key) moment → moment ≤ did.moment → key_of did.command ≡ key
    → NoneAsks key between → IsLegal site (before ++ (between ++ events.Did did ∷ []))
    → did.reply ≡ ((row_of site (cache_of site (before ++ between)).versions None did.command did.moment).answer did.room).reply
answered_as_absent site before between did key moment dead le is_key none legal =
    let cache = cache_of site (before ++ between) in
    let regrouped = subst (IsLegal site) (sym (append_assoc before between (events.Did did ∷ []))) legal in
    let last = legal_on site empty_cache [] (before ++ between) (events.Did did ∷ []) regrouped in
    let left = stays_dead site (cache_of site before) key moment between none (dead_alone ((cache_of site before).items key) moment dead) in
    let joined = sym (cache_from-append site empty_cache before between) in
    let here = subst (λ (c : Cache). IsDeadOrGone (c.items key) moment) joined left in
    let there = subst (λ (k : List ℕ). IsDeadOrGone (cache.items k) moment) (sym is_key) here in
    last.0.reply
    ∙ ap (λ (found : Option Item). ((row_of site cache.versions found did.command did.moment).answer did.room).reply)
    (alive_is_gone (cache.items (key_of did.command)) moment did.moment there le last.0.alive)

-- ---- the marks

-- an item with its marks wiped
abbrev pub bare : Option Item → Option Item
bare found = option_map (marked no_marks) found

-- what shows of a command: its need, its reply, the item that it leaves, but for the marks, and how many versions it adds
record Shown : Type 0 where
  need : Need
  reply : Reply
  item : Option Item
  added : ℕ

-- what shows of a row for a room, with the item that it leaves
abbrev showing : Row → Room → Option Item → Shown
showing row room item = record { need = row.need; reply = (row.answer room).reply; item = item; added = versions_of (row.answer room).change }

-- what shows of a row at an item, for a room
abbrev shown : Row → Option Item → Room → Shown
shown row found room = showing row room (bare (changed found (row.answer room).change))

-- a change leaves the same item but for the marks, whatever they were
bare-changed : (found : Option Item) (change : Change) → bare (changed found change) ≡ bare (changed (bare found) change)
bare-changed None change = refl
bare-changed (Some item) Stays = refl
bare-changed (Some item) Goes = refl
bare-changed (Some item) (Hit marks) = refl
bare-changed (Some item) (Touched expiry marks) = refl
bare-changed (Some item) (Counted value cas) = refl
bare-changed (Some item) (Renewed new) = refl

-- a row that is the same for the bare item shows the same
same_row : (row bare_row : Row) (found : Option Item) (room : Room) → row ≡ bare_row → shown row found room ≡ shown bare_row (bare found) room
same_row row bare_row found room same =
    ap (showing row room) (bare-changed found (row.answer room).change)
    ∙ ap (λ (r : Row). shown r (bare found) room) same

-- the rows of append and prepend don't read marks
join_row-bare : (class : Option ClassNo) (found : Option Item) (version : Link → Item) → join_row class found version ≡ join_row class (bare found) version
join_row-bare class None version = refl
join_row-bare None (Some item) version = refl
join_row-bare (Some class) (Some item) version = refl

-- so the rows of the storage commands don't
store_row-bare : (class : Option ClassNo) (verb : Verb) (found : Option Item) (version : Link → Item)
    → store_row class verb found version ≡ store_row class verb (bare found) version
store_row-bare class Append found version = join_row-bare class found version
store_row-bare class Prepend found version = join_row-bare class found version
store_row-bare None Set found version = refl
store_row-bare None Add found version = refl
store_row-bare None Replace found version = refl
store_row-bare None (Cas unique) found version = refl
store_row-bare (Some class) Set found version = refl
store_row-bare (Some class) Add None version = refl
store_row-bare (Some class) Add (Some item) version = refl
store_row-bare (Some class) Replace None version = refl
store_row-bare (Some class) Replace (Some item) version = refl
store_row-bare (Some class) (Cas unique) None version = refl
store_row-bare (Some class) (Cas unique) (Some item) version = refl

-- what they write doesn't either
written_over-bare : (verb : Verb) (own : Written) (found : Option Item) → written_over verb own found ≡ written_over verb own (bare found)
written_over-bare Set own found = refl
written_over-bare Add own found = refl
written_over-bare Replace own found = refl
written_over-bare (Cas unique) own found = refl
written_over-bare Append own None = refl
written_over-bare Append own (Some item) = refl
written_over-bare Prepend own None = refl
written_over-bare Prepend own (Some item) = refl

-- so a storage command's row of what it writes doesn't
write_row-bare : (site : Site) (n : ℕ) (key : List ℕ) (verb : Verb) (own : Written) (found : Option Item)
    → write_row site n key verb found (written_over verb own found) ≡ write_row site n key verb (bare found) (written_over verb own (bare found))
write_row-bare site n key verb own found =
    let written = written_over verb own found in
    store_row-bare (class_of site.sizes (cost_of key written.value)) verb found (version_of site n written.flags written.value written.expiry)
    ∙ ap (λ (w : Written). write_row site n key verb (bare found) w) (written_over-bare verb own found)

-- nor does the row of a longer number
grown_row-bare : (site : Site) (n : ℕ) (item : Item) (number : ℕ) (class : Option ClassNo)
    → grown_row site n item number class ≡ grown_row site n (marked no_marks item) number class
grown_row-bare site n item number None = refl
grown_row-bare site n item number (Some class) = refl

-- nor that of any number
number_row-bare : (site : Site) (n : ℕ) (key : List ℕ) (item : Item) (number : Option ℕ)
    → number_row site n key item number ≡ number_row site n key (marked no_marks item) number
number_row-bare site n key item None = refl
number_row-bare site n key item (Some number) =
    ap (λ (row : Row).
    if nat_le (length (decimal number)) (length item.value)
    then plain needs.Same (replies.Number number) (Counted (padded (decimal number) (length item.value)) (cas_of site n))
    else row)
    (grown_row-bare site n item number (class_of site.sizes (cost_of key (decimal number))))

-- so the rows of incr and decr don't either
count_row-bare : (site : Site) (n : ℕ) (key : List ℕ) (step : ℕ → ℕ) (found : Option Item)
    → count_row site n key step found ≡ count_row site n key step (bare found)
count_row-bare site n key step None = refl
count_row-bare site n key step (Some item) = number_row-bare site n key item (option_map step (numeral_of item.value))

-- a command shows the same for an item and for the bare one
bare_shows : (site : Site) (n : ℕ) (found : Option Item) (command : Command) (moment : ℕ) (room : Room)
    → shown (row_of site n found command moment) found room ≡ shown (row_of site n (bare found) command moment) (bare found) room
bare_shows site n None (Get key) moment room = refl
bare_shows site n (Some item) (Get key) moment room = refl
bare_shows site n None (Gat key exptime) moment room = refl
bare_shows site n (Some item) (Gat key exptime) moment room = refl
bare_shows site n found (Store verb key flags exptime value) moment room =
    let own : Written = record { flags = flags; value = value; expiry = expiry_of exptime moment } in
    same_row (write_row site n key verb found (written_over verb own found))
    (write_row site n key verb (bare found) (written_over verb own (bare found))) found room (write_row-bare site n key verb own found)
bare_shows site n found (Huge verb key) moment room = same_row (huge_row verb) (huge_row verb) found room refl
bare_shows site n found (Incr key delta) moment room =
    let step = stepped (Up delta) in
    same_row (count_row site n key step found) (count_row site n key step (bare found)) found room (count_row-bare site n key step found)
bare_shows site n found (Decr key delta) moment room =
    let step = stepped (Down delta) in
    same_row (count_row site n key step found) (count_row site n key step (bare found)) found room (count_row-bare site n key step found)
bare_shows site n None (Touch key exptime) moment room = refl
bare_shows site n (Some item) (Touch key exptime) moment room = refl
bare_shows site n None (Delete key) moment room = refl
bare_shows site n (Some item) (Delete key) moment room = refl

-- ---- what is cooled

-- caches that are alike but for the marks
record Alike (cache other : Cache) : Type 0 where
  versions : cache.versions ≡ other.versions
  items : (key : List ℕ) → bare (cache.items key) ≡ bare (other.items key)

-- a command shows the same of such caches
alike_shows : (site : Site) (cache other : Cache) (command : Command) (moment : ℕ) (room : Room) → Alike cache other
    → shown (row_of site cache.versions (cache.items (key_of command)) command moment) (cache.items (key_of command)) room
    ≡ shown (row_of site other.versions (other.items (key_of command)) command moment) (other.items (key_of command)) room
alike_shows site cache other command moment room alike =
    let key = key_of command in
    bare_shows site cache.versions (cache.items key) command moment room
    ∙ ap (λ (n : ℕ). shown (row_of site n (bare (cache.items key)) command moment) (bare (cache.items key)) room) alike.versions
    ∙ ap (λ (found : Option Item). shown (row_of site other.versions found command moment) found room) (alike.items key)
    ∙ sym (bare_shows site other.versions (other.items key) command moment room)

-- changes of one key's item that leave the same but for the marks keep caches alike
alike_changed : (cache other : Cache) (key : List ℕ) (change other_change : Change) → Alike cache other → versions_of change ≡ versions_of other_change
    → bare (changed (cache.items key) change) ≡ bare (changed (other.items key) other_change)
    → Alike (after_change cache key change) (after_change other key other_change)
alike_changed cache other key change other_change alike added item = record { versions = cc; items = λ q. by q (pointwise nat_eq key q) }
  where
    by : (q : List ℕ) (b : Bool)
        → bare (if b then changed (cache.items key) change else cache.items q) ≡ bare (if b then changed (other.items key) other_change else other.items q)
    by q true = item
    by q false = alike.items q

-- cooling leaves the item as it was but for the marks
cooled-bare : (found : Option Item) → bare (changed found (cooled_change found)) ≡ bare found
cooled-bare None = refl
cooled-bare (Some item) = refl

-- and makes no version
cooled_adds_none : (found : Option Item) → versions_of (cooled_change found) ≡ 0
cooled_adds_none None = refl
cooled_adds_none (Some item) = refl

-- an event keeps caches alike
alike_after : (site : Site) (cache other : Cache) (e : StripeEvent) → Alike cache other → Alike (cache_after site cache e) (cache_after site other e)
alike_after site cache other (events.Did did) alike =
    let same = alike_shows site cache other did.command did.moment did.room alike in
    let left = answer_of site cache did.command did.moment did.room in
    let other_left = answer_of site other did.command did.moment did.room in
    alike_changed cache other (key_of did.command) left.change other_left.change alike (ap (λ (s : Shown). s.added) same) (ap (λ (s : Shown). s.item) same)
alike_after site cache other (events.Lost lost) alike = alike_changed cache other lost.key Goes Goes alike refl refl
alike_after site cache other (events.Cooled cooled) alike =
    alike_changed cache other cooled.key (cooled_change (cache.items cooled.key)) (cooled_change (other.items cooled.key)) alike
    (cooled_adds_none (cache.items cooled.key) ∙ sym (cooled_adds_none (other.items cooled.key)))
    (cooled-bare (cache.items cooled.key) ∙ alike.items cooled.key ∙ sym (cooled-bare (other.items cooled.key)))

-- so do events
alike_from : (site : Site) (cache other : Cache) (es : List StripeEvent) → Alike cache other → Alike (cache_from site cache es) (cache_from site other es)
alike_from site cache other [] alike = alike
alike_from site cache other (e ∷ es) alike = alike_from site (cache_after site cache e) (cache_after site other e) es (alike_after site cache other e alike)

-- a cooled cache is alike the one that it was
cooled_alike : (site : Site) (cache : Cache) (cooled : Cooled) → Alike (cache_after site cache (events.Cooled cooled)) cache
cooled_alike site cache cooled = record {
  versions = ap (λ (n : ℕ). cache.versions + n) (cooled_adds_none (cache.items cooled.key)) ∙ add-zero cache.versions;
  items = λ q.
      by_key (λ (found : Option Item). bare found ≡ bare (cache.items q)) cache cooled.key q (cooled_change (cache.items cooled.key))
      (λ same. cooled-bare (cache.items cooled.key) ∙ ap (λ (k : List ℕ). bare (cache.items k)) same)
      (λ apart. refl);
}

-- cooling changes no later reply, and nothing that a later command needs
pub cooling_unseen : (site : Site) (cache : Cache) (cooled : Cooled) (later : List StripeEvent) (command : Command) (moment : ℕ) (room : Room)
    → let warm = cache_from site cache later in
    let cool = cache_from site (cache_after site cache (events.Cooled cooled)) later in
    ((answer_of site cool command moment room).reply ≡ (answer_of site warm command moment room).reply)
    × ((row_of site cool.versions (cool.items (key_of command)) command moment).need
    ≡ (row_of site warm.versions (warm.items (key_of command)) command moment).need)
cooling_unseen site cache cooled later command moment room =
    let cold = cache_after site cache (events.Cooled cooled) in
    let alike = alike_from site cold cache later (cooled_alike site cache cooled) in
    let same = alike_shows site (cache_from site cold later) (cache_from site cache later) command moment room alike in
    (ap (λ (s : Shown). s.reply) same, ap (λ (s : Shown). s.need) same)
