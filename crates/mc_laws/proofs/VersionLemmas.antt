-- What the laws of cas numbers rest on.
use Rattle.std.proofs.Common.{◌≡◌, ◌<◌, ◌≤◌, ◌+◌, ◌⊎◌, inl, inr, ℕ, ℤ, List, [], ◌∷◌, ◌++◌, refl, sym, ap, ◌∙◌, subst, arith, Bool, true, false, eqb-true, mul-le-mul_right}
use Rattle.std.specs.Prelude.{Option, Some, None, IsSomeAnd, IfSome, length, decimal, nat_eq, nat_le, ◌==◌, if◌then◌else◌}
use Rattle.std.specs.{Cmp.Lexicographic.pointwise, Cmp.Lexicographic.bytes_decides, Option.option_map}
use Rattle.mc_item.specs.Answer.{Row, Written, answer, plain, fresh, cas_of, version_of, get_row, gat_row, let_go, join_row, store_row, write_row, written_over, padded}
use Rattle.mc_item.specs.Answer.{grown_row, number_row, count_row, stepped, touch_row, delete_row, row_of}
use Rattle.mc_item.specs.Cache.{Cache, empty_cache, changed, versions_of, after_change, answer_of}
use Rattle.mc_item.specs.{Command.key_of, Item.expiry_of, Measure.class_of, Measure.cost_of, Measure.numeral_of}
use Rattle.mc_item.specs.Stripe.{cache_after, cache_from, cache_of, cooled_change, IsLegal, MayDo}
use Rattle.mc_item.specs.declared.{answer.Answer.Answer, answer.Change.Change, answer.Site.Site, command.Command.Command, command.Verb.Verb}
use Rattle.mc_item.specs.declared.{counting.Step.TheVariants.Up, counting.Step.TheVariants.Down, item.ClassNo.ClassNo, item.Expiry.Expiry, item.Item.Item}
use Rattle.mc_item.specs.declared.{item.Link.Link, reply.Reply.Reply, reply.Room.Room, stripe_event.Did.Did, stripe_event.StripeEvent.StripeEvent}
use Rattle.mc_item.specs.declared.answer.Change.TheVariants.{Stays, Goes, Hit, Touched, Counted, Renewed}
use Rattle.mc_item.specs.declared.answer.Need.TheVariants as needs
use Rattle.mc_item.specs.declared.command.Command.TheVariants.{Get, Gat, Store, Huge, Incr, Decr, Touch, Delete}
use Rattle.mc_item.specs.declared.command.Verb.TheVariants.{Set, Add, Replace, Cas, Append, Prepend}
use Rattle.mc_item.specs.declared.reply.Reply.TheVariants as replies
use Rattle.mc_item.specs.declared.reply.Room.TheVariants as rooms
use Rattle.mc_item.specs.declared.stripe_event.StripeEvent.TheVariants as events
use Rattle.mc_laws.proofs.EventLemmas.{legal_on}
use Rattle.mc_laws.specs.{Events.key_named, Versions.HoldsItem, Versions.HoldsThroughout, Versions.number_given, Versions.number_made}

-- ---- the numbers of a stripe's versions

-- a version that isn't earlier has no smaller cas number
cas_grows : (site : Site) (m n : ℕ) → m ≤ n → cas_of site m ≤ cas_of site n
cas_grows site m n le = omega (arith, mul-le-mul_right site.stripes le)

-- a later version has a larger one
cas_rises : (site : Site) (m n : ℕ) → 0 < site.stripes → m < n → cas_of site m < cas_of site n
cas_rises site m n some lt = omega (arith, mul-le-mul_right site.stripes lt)

-- ---- the numbers that the rows give

-- a change that makes a new version gives it the stripe's next cas number
abbrev GivesNext : Site → ℕ → Change → Type 0
GivesNext site n change = IfSome (number_given change) (λ cas. cas ≡ cas_of site n)

-- so does each change of a row
abbrev RowGivesNext : Site → ℕ → Row → Type 0
RowGivesNext site n row = (room : Room) → GivesNext site n (row.answer room).change

-- a test chooses one of two rows that do
chosen_gives : (site : Site) (n : ℕ) (test : Bool) (first second : Row) → RowGivesNext site n first → RowGivesNext site n second
    → RowGivesNext site n (if test then first else second)
chosen_gives site n true first second first_gives second_gives = first_gives
chosen_gives site n false first second first_gives second_gives = second_gives

-- a row with a new version, where the version has that number
fresh_gives : (site : Site) (n : ℕ) (class : ClassNo) (reply : Reply) (version : Link → Item) (refused : Answer)
    → ((link : Link) → (version link).cas ≡ cas_of site n) → GivesNext site n refused.change → RowGivesNext site n (fresh class reply version refused)
fresh_gives site n class reply version refused numbered kept = by
  where
    by : (room : Room) → GivesNext site n ((fresh class reply version refused).answer room).change
    by (rooms.At link) = numbered link
    by (rooms.Refused other place) = kept
    by rooms.Keep = kept

-- a storage command without a room gives no number
let_go_gives : (site : Site) (n : ℕ) (verb : Verb) → GivesNext site n (let_go verb)
let_go_gives site n Set = tt
let_go_gives site n Add = tt
let_go_gives site n Replace = tt
let_go_gives site n (Cas unique) = tt
let_go_gives site n Append = tt
let_go_gives site n Prepend = tt

-- the rows of append and prepend
join_gives : (site : Site) (n : ℕ) (class : Option ClassNo) (found : Option Item) (version : Link → Item)
    → ((link : Link) → (version link).cas ≡ cas_of site n) → RowGivesNext site n (join_row class found version)
join_gives site n class None version numbered = λ room. tt
join_gives site n None (Some item) version numbered = λ room. tt
join_gives site n (Some class) (Some item) version numbered =
    fresh_gives site n class replies.Stored version (answer replies.NoRoom Stays) numbered tt

-- the rows of the storage commands
store_gives : (site : Site) (n : ℕ) (class : Option ClassNo) (verb : Verb) (found : Option Item) (version : Link → Item)
    → ((link : Link) → (version link).cas ≡ cas_of site n) → RowGivesNext site n (store_row class verb found version)
store_gives site n class Append found version numbered = join_gives site n class found version numbered
store_gives site n class Prepend found version numbered = join_gives site n class found version numbered
store_gives site n None Set found version numbered = λ room. tt
store_gives site n None Add found version numbered = λ room. tt
store_gives site n None Replace found version numbered = λ room. tt
store_gives site n None (Cas unique) found version numbered = λ room. tt
store_gives site n (Some class) Set found version numbered =
    fresh_gives site n class replies.Stored version (answer replies.NoRoom (let_go Set)) numbered tt
store_gives site n (Some class) Add (Some item) version numbered = λ room. tt
store_gives site n (Some class) Add None version numbered =
    fresh_gives site n class replies.Stored version (answer replies.NoRoom (let_go Add)) numbered tt
store_gives site n (Some class) Replace None version numbered = λ room. tt
store_gives site n (Some class) Replace (Some item) version numbered =
    fresh_gives site n class replies.Stored version (answer replies.NoRoom (let_go Replace)) numbered tt
store_gives site n (Some class) (Cas unique) None version numbered = λ room. tt
store_gives site n (Some class) (Cas unique) (Some item) version numbered =
    chosen_gives site n (item.cas == unique) (fresh class replies.Stored version (answer replies.NoRoom (let_go (Cas unique))))
    (plain needs.Nothing replies.Exists Stays)
    (fresh_gives site n class replies.Stored version (answer replies.NoRoom (let_go (Cas unique))) numbered tt) (λ room. tt)

-- the row of a storage command that writes this
write_gives : (site : Site) (n : ℕ) (key : List ℕ) (verb : Verb) (found : Option Item) (written : Written)
    → RowGivesNext site n (write_row site n key verb found written)
write_gives site n key verb found written =
    store_gives site n (class_of site.sizes (cost_of key written.value)) verb found
    (version_of site n written.flags written.value written.expiry) (λ link. refl)

-- the row of a number that is longer than the old value
grown_gives : (site : Site) (n : ℕ) (item : Item) (number : ℕ) (class : Option ClassNo) → RowGivesNext site n (grown_row site n item number class)
grown_gives site n item number None = λ room. tt
grown_gives site n item number (Some class) =
    fresh_gives site n class (replies.Number number) (version_of site n item.flags (decimal number) item.expiry) (answer replies.NoSpace Stays) (λ link. refl) tt

-- the row of a new number
number_gives : (site : Site) (n : ℕ) (key : List ℕ) (item : Item) (number : Option ℕ) → RowGivesNext site n (number_row site n key item number)
number_gives site n key item None = λ room. tt
number_gives site n key item (Some number) =
    chosen_gives site n (nat_le (length (decimal number)) (length item.value))
    (plain needs.Same (replies.Number number) (Counted (padded (decimal number) (length item.value)) (cas_of site n)))
    (grown_row site n item number (class_of site.sizes (cost_of key (decimal number))))
    (λ room. refl) (grown_gives site n item number (class_of site.sizes (cost_of key (decimal number))))

-- the rows of incr and decr
count_gives : (site : Site) (n : ℕ) (key : List ℕ) (step : ℕ → ℕ) (found : Option Item) → RowGivesNext site n (count_row site n key step found)
count_gives site n key step None = λ room. tt
count_gives site n key step (Some item) = number_gives site n key item (option_map step (numeral_of item.value))

-- the row of get
get_gives : (site : Site) (n : ℕ) (found : Option Item) → RowGivesNext site n (get_row found)
get_gives site n None = λ room. tt
get_gives site n (Some item) = λ room. tt

-- the row of gat
gat_gives : (site : Site) (n : ℕ) (expiry : Expiry) (found : Option Item) → RowGivesNext site n (gat_row expiry found)
gat_gives site n expiry None = λ room. tt
gat_gives site n expiry (Some item) = λ room. tt

-- the row of touch
touch_gives : (site : Site) (n : ℕ) (expiry : Expiry) (found : Option Item) → RowGivesNext site n (touch_row expiry found)
touch_gives site n expiry None = λ room. tt
touch_gives site n expiry (Some item) = λ room. tt

-- the row of delete
delete_gives : (site : Site) (n : ℕ) (found : Option Item) → RowGivesNext site n (delete_row found)
delete_gives site n None = λ room. tt
delete_gives site n (Some item) = λ room. tt

-- each row of the table
row_gives : (site : Site) (n : ℕ) (found : Option Item) (command : Command) (moment : ℕ) → RowGivesNext site n (row_of site n found command moment)
row_gives site n found (Get key) moment = get_gives site n found
row_gives site n found (Gat key exptime) moment = gat_gives site n (expiry_of exptime moment) found
row_gives site n found (Store verb key flags exptime value) moment =
    write_gives site n key verb found (written_over verb (record { flags = flags; value = value; expiry = expiry_of exptime moment }) found)
row_gives site n found (Huge verb key) moment = λ room. let_go_gives site n verb
row_gives site n found (Incr key delta) moment = count_gives site n key (stepped (Up delta)) found
row_gives site n found (Decr key delta) moment = count_gives site n key (stepped (Down delta)) found
row_gives site n found (Touch key exptime) moment = touch_gives site n (expiry_of exptime moment) found
row_gives site n found (Delete key) moment = delete_gives site n found

-- cooling gives no number
cooled_gives : (site : Site) (n : ℕ) (found : Option Item) → GivesNext site n (cooled_change found)
cooled_gives site n None = tt
cooled_gives site n (Some item) = tt

-- ---- how numbers and versions go on

-- a number that a change gives is the next one
given_is_next : (site : Site) (n : ℕ) (given : Option ℕ) (cas : ℕ) → IfSome given (λ next. next ≡ cas_of site n) → given ≡ Some cas → cas ≡ cas_of site n
given_is_next site n None cas next is = absurd cc
given_is_next site n (Some other) cas next is = cc

-- a change that gives a number makes one version
given_adds_one : (change : Change) (cas : ℕ) → number_given change ≡ Some cas → versions_of change ≡ 1
given_adds_one Stays cas is = absurd cc
given_adds_one Goes cas is = absurd cc
given_adds_one (Hit marks) cas is = absurd cc
given_adds_one (Touched expiry marks) cas is = absurd cc
given_adds_one (Counted value other) cas is = refl
given_adds_one (Renewed item) cas is = refl

-- an event that gives a number gives the next one, and makes one version
made_is_next : (site : Site) (cache : Cache) (e : StripeEvent) (cas : ℕ) → number_made site cache e ≡ Some cas
    → (cas ≡ cas_of site cache.versions) × ((cache_after site cache e).versions ≡ cache.versions + 1)
made_is_next site cache (events.Did did) cas is =
    let change = (answer_of site cache did.command did.moment did.room).change in
    let next = row_gives site cache.versions (cache.items (key_of did.command)) did.command did.moment did.room in
    (given_is_next site cache.versions (number_given change) cas next is, ap (λ more. cache.versions + more) (given_adds_one change cas is))
made_is_next site cache (events.Lost lost) cas is = absurd cc
made_is_next site cache (events.Cooled cooled) cas is = absurd cc

-- an event takes no version back
versions_grow : (site : Site) (cache : Cache) (e : StripeEvent) → cache.versions ≤ (cache_after site cache e).versions
versions_grow site cache (events.Did did) = omega arith
versions_grow site cache (events.Lost lost) = omega arith
versions_grow site cache (events.Cooled cooled) = omega arith

-- nor do events
versions_go_on : (site : Site) (cache : Cache) (es : List StripeEvent) → cache.versions ≤ (cache_from site cache es).versions
versions_go_on site cache [] = omega arith
versions_go_on site cache (e ∷ es) = omega (arith, versions_grow site cache e, versions_go_on site (cache_after site cache e) es)

-- events lead on from where the ones before them led
run_on : (site : Site) (cache : Cache) (es rest : List StripeEvent) → cache_from site cache (es ++ rest) ≡ cache_from site (cache_from site cache es) rest
run_on site cache [] rest = refl
run_on site cache (e ∷ es) rest = run_on site (cache_after site cache e) es rest

-- of two new versions the later one has the larger number
pub numbers_rise : (site : Site) (before between : List StripeEvent) (first second : StripeEvent) (low high : ℕ) → 0 < site.stripes
    → number_made site (cache_of site before) first ≡ Some low
    → number_made site (cache_of site (before ++ first ∷ between)) second ≡ Some high
    → low < high
numbers_rise site before between first second low high some is_low is_high =
    let early = cache_of site before in
    let next = cache_after site early first in
    let late = cache_from site next between in
    let lower = made_is_next site early first low is_low in
    let higher = made_is_next site late second high
    (subst (λ (cache : Cache). number_made site cache second ≡ Some high) (run_on site empty_cache before (first ∷ between)) is_high) in
    let more : early.versions < late.versions = omega (arith, lower.1, versions_go_on site next between) in
    omega (arith, lower.0, higher.0, cas_rises site early.versions late.versions some more)

-- ---- what was held before

-- what an item under a change has, it had before, or its cas number is the next one
change_keeps : (site : Site) (n : ℕ) (found : Option Item) (change : Change) (flags : ℕ) (value : List ℕ) (cas : ℕ) → GivesNext site n change
    → HoldsItem (changed found change) flags value cas → HoldsItem found flags value cas ⊎ ((cas ≡ cas_of site n) × (versions_of change ≡ 1))
change_keeps site n found Stays flags value cas next held = inl held
change_keeps site n found Goes flags value cas next held = absurd held
change_keeps site n None (Hit marks) flags value cas next held = absurd held
change_keeps site n (Some item) (Hit marks) flags value cas next held = inl held
change_keeps site n None (Touched expiry marks) flags value cas next held = absurd held
change_keeps site n (Some item) (Touched expiry marks) flags value cas next held = inl held
change_keeps site n None (Counted new_value new_cas) flags value cas next held = absurd held
change_keeps site n (Some item) (Counted new_value new_cas) flags value cas next held = inr (cc, refl)
change_keeps site n found (Renewed item) flags value cas next held = inr (cc, refl)

-- the same of any key, where one key's item changes: a new number is of that key
key_keeps : (site : Site) (cache : Cache) (key : List ℕ) (change : Change) (q : List ℕ) (flags : ℕ) (value : List ℕ) (cas : ℕ)
    → GivesNext site cache.versions change → HoldsItem ((after_change cache key change).items q) flags value cas
    → HoldsItem (cache.items q) flags value cas
    ⊎ ((cas ≡ cas_of site cache.versions) × ((after_change cache key change).versions ≡ cache.versions + 1) × (key ≡ q))
key_keeps site cache key change q flags value cas next = by (pointwise nat_eq key q) refl
  where
    by : (b : Bool) → pointwise nat_eq key q ≡ b → HoldsItem (if b then changed (cache.items key) change else cache.items q) flags value cas
        → HoldsItem (cache.items q) flags value cas
        ⊎ ((cas ≡ cas_of site cache.versions) × ((after_change cache key change).versions ≡ cache.versions + 1) × (key ≡ q))
    by true is held =
        let same : key ≡ q = (bytes_decides key q).0 is in
        elim (change_keeps site cache.versions (cache.items key) change flags value cas next held) [
          | inl old ↦ inl (subst (λ (k : List ℕ). HoldsItem (cache.items k) flags value cas) same old)
          | inr new ↦ inr (new.0, ap (λ more. cache.versions + more) new.1, same)
        ]
    by false is held = inl held

-- the same of an event
event_keeps : (site : Site) (cache : Cache) (e : StripeEvent) (q : List ℕ) (flags : ℕ) (value : List ℕ) (cas : ℕ)
    → HoldsItem ((cache_after site cache e).items q) flags value cas
    → HoldsItem (cache.items q) flags value cas
    ⊎ ((cas ≡ cas_of site cache.versions) × ((cache_after site cache e).versions ≡ cache.versions + 1) × (key_named e ≡ q))
event_keeps site cache (events.Did did) q flags value cas =
    key_keeps site cache (key_of did.command) (answer_of site cache did.command did.moment did.room).change q flags value cas
    (row_gives site cache.versions (cache.items (key_of did.command)) did.command did.moment did.room)
event_keeps site cache (events.Lost lost) q flags value cas = key_keeps site cache lost.key Goes q flags value cas tt
event_keeps site cache (events.Cooled cooled) q flags value cas =
    key_keeps site cache cooled.key (cooled_change (cache.items cooled.key)) q flags value cas (cooled_gives site cache.versions (cache.items cooled.key))

-- an item whose number isn't new was there before the event
held_before : (site : Site) (cache : Cache) (e : StripeEvent) (key : List ℕ) (flags : ℕ) (value : List ℕ) (cas : ℕ)
    → cas < cas_of site cache.versions → HoldsItem ((cache_after site cache e).items key) flags value cas → HoldsItem (cache.items key) flags value cas
held_before site cache e key flags value cas below held = elim (event_keeps site cache e key flags value cas held) [
  | inl old ↦ old
  | inr new ↦ absurd (omega (arith, new.0))
]

-- what holds throughout holds at the start
held_first : (site : Site) (cache : Cache) (es : List StripeEvent) (key : List ℕ) (flags : ℕ) (value : List ℕ) (cas : ℕ)
    → HoldsThroughout site cache es key flags value cas → HoldsItem (cache.items key) flags value cas
held_first site cache [] key flags value cas held = held
held_first site cache (e ∷ es) key flags value cas held = held.0

-- an item whose number isn't new was there throughout
held_throughout : (site : Site) (cache : Cache) (es : List StripeEvent) (key : List ℕ) (flags : ℕ) (value : List ℕ) (cas : ℕ)
    → cas < cas_of site cache.versions → HoldsItem ((cache_from site cache es).items key) flags value cas → HoldsThroughout site cache es key flags value cas
held_throughout site cache [] key flags value cas below held = held
held_throughout site cache (e ∷ es) key flags value cas below held =
    let next = cache_after site cache e in
    let later = held_throughout site next es key flags value cas
    (omega (arith, cas_grows site cache.versions next.versions (versions_grow site cache e))) held in
    (held_before site cache e key flags value cas below (held_first site next es key flags value cas later), later)

-- ---- no number twice

-- the items of a cache have numbers of versions so far, and no two of them the same
record IsNumbered (site : Site) (cache : Cache) : Type 0 where
  below : (key : List ℕ) (flags : ℕ) (value : List ℕ) (cas : ℕ) → HoldsItem (cache.items key) flags value cas → cas < cas_of site cache.versions
  apart : (key other : List ℕ) (flags other_flags : ℕ) (value other_value : List ℕ) (cas : ℕ)
      → HoldsItem (cache.items key) flags value cas → HoldsItem (cache.items other) other_flags other_value cas → key ≡ other

-- an event keeps it so
numbered_after : (site : Site) (cache : Cache) (e : StripeEvent) → 0 < site.stripes → IsNumbered site cache → IsNumbered site (cache_after site cache e)
numbered_after site cache e some numbered = record { below = low; apart = unlike }
  where
    low : (key : List ℕ) (flags : ℕ) (value : List ℕ) (cas : ℕ) → HoldsItem ((cache_after site cache e).items key) flags value cas
        → cas < cas_of site (cache_after site cache e).versions
    low key flags value cas held = elim (event_keeps site cache e key flags value cas held) [
      | inl old ↦ omega (arith, numbered.below key flags value cas old, cas_grows site cache.versions (cache_after site cache e).versions (versions_grow site cache e))
      | inr new ↦ omega (arith, new.0, cas_rises site cache.versions (cache_after site cache e).versions some (omega (arith, new.1)))
    ]

    unlike : (key other : List ℕ) (flags other_flags : ℕ) (value other_value : List ℕ) (cas : ℕ)
        → HoldsItem ((cache_after site cache e).items key) flags value cas → HoldsItem ((cache_after site cache e).items other) other_flags other_value cas → key ≡ other
    unlike key other flags other_flags value other_value cas held other_held = elim (event_keeps site cache e key flags value cas held) [
      | inl old ↦ elim (event_keeps site cache e other other_flags other_value cas other_held) [
        | inl other_old ↦ numbered.apart key other flags other_flags value other_value cas old other_old
        | inr other_new ↦ absurd (omega (arith, other_new.0, numbered.below key flags value cas old))
      ]
      | inr new ↦ elim (event_keeps site cache e other other_flags other_value cas other_held) [
        | inl other_old ↦ absurd (omega (arith, new.0, numbered.below other other_flags other_value cas other_old))
        | inr other_new ↦ sym new.2 ∙ other_new.2
      ]
    ]

-- so do events
numbered_from : (site : Site) (cache : Cache) (es : List StripeEvent) → 0 < site.stripes → IsNumbered site cache → IsNumbered site (cache_from site cache es)
numbered_from site cache [] some numbered = numbered
numbered_from site cache (e ∷ es) some numbered = numbered_from site (cache_after site cache e) es some (numbered_after site cache e some numbered)

-- the cache that a history leaves is so
numbered_of : (site : Site) (es : List StripeEvent) → 0 < site.stripes → IsNumbered site (cache_of site es)
numbered_of site es some = numbered_from site empty_cache es some
    (record {
      below = λ key flags value cas held. absurd held;
      apart = λ key other flags other_flags value other_value cas held other_held. absurd held;
    })

-- ---- what was read

-- a get that answers a value found it
value_found : (found : Option Item) (room : Room) (flags : ℕ) (value : List ℕ) (cas : ℕ)
    → ((get_row found).answer room).reply ≡ replies.Value flags value cas → HoldsItem found flags value cas
value_found None room flags value cas is = absurd cc
value_found (Some item) room flags value cas is = (cc, cc, cc)

-- so did a get of a history
read_found : (site : Site) (cache : Cache) (before : List StripeEvent) (read : Did) (key : List ℕ) (flags : ℕ) (value : List ℕ) (cas : ℕ)
    → MayDo site cache before read → read.command ≡ Get key → read.reply ≡ replies.Value flags value cas → HoldsItem (cache.items key) flags value cas
read_found site cache before read key flags value cas may is_get is_value =
    value_found (cache.items key) read.room flags value cas
    (ap (λ (c : Command). (answer_of site cache c read.moment read.room).reply) (sym is_get) ∙ sym may.reply ∙ is_value)

-- a cas that stores found the number that it names
unique_found : (class : Option ClassNo) (unique : ℕ) (found : Option Item) (version : Link → Item) (room : Room)
    → ((store_row class (Cas unique) found version).answer room).reply ≡ replies.Stored → IsSomeAnd found (λ item. item.cas ≡ unique)
unique_found None unique found version room stored = absurd cc
unique_found (Some class) unique None version room stored = absurd cc
unique_found (Some class) unique (Some item) version room stored = by (item.cas == unique) refl stored
  where
    stores : Row
    stores = fresh class replies.Stored version (answer replies.NoRoom (let_go (Cas unique)))

    by : (b : Bool) → item.cas == unique ≡ b
        → ((if b then stores else plain needs.Nothing replies.Exists Stays).answer room).reply ≡ replies.Stored → item.cas ≡ unique
    by true is s = eqb-true item.cas unique is
    by false is s = absurd cc

-- so did a cas of a history
swap_found : (site : Site) (cache : Cache) (before : List StripeEvent) (swap : Did) (key value : List ℕ) (flags unique : ℕ) (exptime : ℤ)
    → MayDo site cache before swap → swap.command ≡ Store (Cas unique) key flags exptime value → swap.reply ≡ replies.Stored
    → IsSomeAnd (cache.items key) (λ item. item.cas ≡ unique)
swap_found site cache before swap key value flags unique exptime may is_cas is_stored =
    unique_found (class_of site.sizes (cost_of key value)) unique (cache.items key)
    (version_of site cache.versions flags value (expiry_of exptime swap.moment)) swap.room
    (ap (λ (c : Command). (answer_of site cache c swap.moment swap.room).reply) (sym is_cas) ∙ sym may.reply ∙ is_stored)

-- an item with a number has some flags and some value
held_of_number : (found : Option Item) (cas : ℕ) → IsSomeAnd found (λ item. item.cas ≡ cas) → (flags : ℕ) × (value : List ℕ) × HoldsItem found flags value cas
held_of_number None cas held = absurd held
held_of_number (Some item) cas held = (item.flags, item.value, (refl, refl, held))

-- a key's item has one value and one number of flags
held_once : (found : Option Item) (flags other_flags : ℕ) (value other_value : List ℕ) (cas : ℕ) → HoldsItem found flags value cas
    → HoldsItem found other_flags other_value cas → (other_flags ≡ flags) × (other_value ≡ value)
held_once None flags other_flags value other_value cas held other_held = absurd held
held_once (Some item) flags other_flags value other_value cas held other_held = (cc, cc)

-- what holds throughout, after the event that follows a history
after_history : (site : Site) (before between : List StripeEvent) (e : StripeEvent) (key : List ℕ) (flags : ℕ) (value : List ℕ) (cas : ℕ)
    → HoldsThroughout site (cache_after site (cache_of site before) e) between key flags value cas
    → HoldsThroughout site (cache_of site (before ++ e ∷ [])) between key flags value cas
after_history site before between e key flags value cas held =
    subst (λ (cache : Cache). HoldsThroughout site cache between key flags value cas) (sym (run_on site empty_cache before (e ∷ []))) held

-- of two items with one number, held before an event and at the end, the later one is the earlier one, which was held throughout
held_again : (site : Site) (before between : List StripeEvent) (e : StripeEvent) (key other value other_value : List ℕ) (flags other_flags cas : ℕ)
    → 0 < site.stripes → HoldsItem ((cache_of site before).items key) flags value cas
    → HoldsItem ((cache_from site (cache_after site (cache_of site before) e) between).items other) other_flags other_value cas
    → (other ≡ key) × (other_flags ≡ flags) × (other_value ≡ value) × HoldsThroughout site (cache_of site (before ++ e ∷ [])) between key flags value cas
held_again site before between e key other value other_value flags other_flags cas some held late_held =
    let early = cache_of site before in
    let numbered = numbered_of site before some in
    let through : HoldsThroughout site early (e ∷ between) other other_flags other_value cas =
    held_throughout site early (e ∷ between) other other_flags other_value cas (numbered.below key flags value cas held) late_held in
    let same : other ≡ key = numbered.apart other key other_flags flags other_value value cas through.0 held in
    let alike = held_once (early.items key) flags other_flags value other_value cas held
    (subst (λ (k : List ℕ). HoldsItem (early.items k) other_flags other_value cas) same through.0) in
    (same, alike.0, alike.1, after_history site before between e key flags value cas (rw (same, alike.0, alike.1) at through.1))

-- two gets that answer one number answered one version
pub one_version : (site : Site) (before between : List StripeEvent) (first second : Did) (key other value other_value : List ℕ) (flags other_flags cas : ℕ)
    → 0 < site.stripes
    → first.command ≡ Get key → first.reply ≡ replies.Value flags value cas
    → second.command ≡ Get other → second.reply ≡ replies.Value other_flags other_value cas
    → IsLegal site (before ++ events.Did first ∷ (between ++ events.Did second ∷ []))
    → (other ≡ key) × (other_flags ≡ flags) × (other_value ≡ value)
    × HoldsThroughout site (cache_of site (before ++ events.Did first ∷ [])) between key flags value cas
one_version site before between first second key other value other_value flags other_flags cas some is_get is_value is_other_get is_other_value legal =
    let early = cache_of site before in
    let next = cache_after site early (events.Did first) in
    let late = cache_from site next between in
    let start = legal_on site empty_cache [] before (events.Did first ∷ (between ++ events.Did second ∷ [])) legal in
    let last = legal_on site next (before ++ events.Did first ∷ []) between (events.Did second ∷ []) start.1 in
    held_again site before between (events.Did first) key other value other_value flags other_flags cas some
    (read_found site early before first key flags value cas start.0 is_get is_value)
    (read_found site late ((before ++ events.Did first ∷ []) ++ between) second other other_flags other_value cas last.0 is_other_get is_other_value)

-- a cas that stores, with the number that a get of its key answered, stores over what was read
pub stored_over : (site : Site) (before between : List StripeEvent) (read swap : Did) (key value new_value : List ℕ) (flags new_flags cas : ℕ) (exptime : ℤ)
    → 0 < site.stripes
    → read.command ≡ Get key → read.reply ≡ replies.Value flags value cas
    → swap.command ≡ Store (Cas cas) key new_flags exptime new_value → swap.reply ≡ replies.Stored
    → IsLegal site (before ++ events.Did read ∷ (between ++ events.Did swap ∷ []))
    → HoldsThroughout site (cache_of site (before ++ events.Did read ∷ [])) between key flags value cas
stored_over site before between read swap key value new_value flags new_flags cas exptime some is_get is_value is_cas is_stored legal =
    let early = cache_of site before in
    let next = cache_after site early (events.Did read) in
    let late = cache_from site next between in
    let start = legal_on site empty_cache [] before (events.Did read ∷ (between ++ events.Did swap ∷ [])) legal in
    let last = legal_on site next (before ++ events.Did read ∷ []) between (events.Did swap ∷ []) start.1 in
    let there = held_of_number (late.items key) cas
    (swap_found site late ((before ++ events.Did read ∷ []) ++ between) swap key new_value new_flags cas exptime last.0 is_cas is_stored) in
    (held_again site before between (events.Did read) key key value there.1 flags there.0 cas some
    (read_found site early before read key flags value cas start.0 is_get is_value) there.2).3
