-- The history of a stripe: which events may happen to its cache, which histories are legal, and which cache they leave.
use Rattle.std.specs.Prelude.{ℕ, ◌≡◌, ◌≢◌, List, [], ◌∷◌, ◌++◌, true, false, Option, Some, None, IsSomeAnd, IfSome}
use Rattle.mc_item.specs.{Answer.row_of, Command.key_of, Item.is_dead, Measure.stripe_of}
use Rattle.mc_item.specs.Cache.{Cache, empty_cache, after_change, after_command, answer_of}
use Rattle.mc_item.specs.declared.{answer.Change.Change, answer.Need.Need, answer.Site.Site, item.Item.Item, item.Link.Link, reply.Room.Room}
use Rattle.mc_item.specs.declared.{stripe_event.Cause.Cause, stripe_event.Cause.TheVariants.Expired, stripe_event.Cause.TheVariants.Taken, stripe_event.Did.Did}
use Rattle.mc_item.specs.declared.{stripe_event.StripeEvent.StripeEvent}
use Rattle.mc_item.specs.declared.answer.Change.TheVariants.{Stays, Goes, Hit}
use Rattle.mc_item.specs.declared.answer.Need.TheVariants as needs
use Rattle.mc_item.specs.declared.reply.Room.TheVariants as rooms
use Rattle.mc_item.specs.declared.stripe_event.StripeEvent.TheVariants as events

-- the link that a room is, if it is one
abbrev pub link_of : Room → Option Link
link_of (rooms.At link) = Some link
link_of rooms.Keep = None
link_of (rooms.Refused class place) = None

-- the link that an event gives to a new version, if it gives one
abbrev pub link_named : StripeEvent → Option Link
link_named (events.Did did) = link_of did.room
link_named (events.Lost lost) = None
link_named (events.Cooled cooled) = None

-- no event of the history gave this link to a new version
abbrev pub IsUnnamed : Link → List StripeEvent → Type 0
IsUnnamed link [] = Unit {0}
IsUnnamed link (e ∷ es) = (link_named e ≢ Some link) × IsUnnamed link es

-- the room fits the need: for a chunk, a link of its class that no event `before` gave, or a refusal of its class; otherwise none
abbrev pub Fits : Need → Room → List StripeEvent → Type 0
Fits (needs.Fresh class) (rooms.At link) before = (link.class ≡ class) × IsUnnamed link before
Fits (needs.Fresh class) (rooms.Refused other place) before = other ≡ class
Fits (needs.Fresh class) rooms.Keep before = ⊥
Fits needs.Nothing rooms.Keep before = Unit {0}
Fits needs.Nothing (rooms.At link) before = ⊥
Fits needs.Nothing (rooms.Refused other place) before = ⊥
Fits needs.Same rooms.Keep before = Unit {0}
Fits needs.Same (rooms.At link) before = ⊥
Fits needs.Same (rooms.Refused other place) before = ⊥
Fits needs.TooLarge rooms.Keep before = Unit {0}
Fits needs.TooLarge (rooms.At link) before = ⊥
Fits needs.TooLarge (rooms.Refused other place) before = ⊥

-- the item, if there is one, is alive at a moment (a time in seconds)
abbrev pub IsAlive : Option Item → ℕ → Type 0
IsAlive found moment = IfSome found (λ item. is_dead item moment ≡ false)

-- there is an item, and it is dead at a moment
abbrev pub IsDead : Option Item → ℕ → Type 0
IsDead found moment = IsSomeAnd found (λ item. is_dead item moment ≡ true)

-- a command may be answered like this: its key is of this stripe, its item is alive or absent, the room fits its row's need, and
-- the reply is the row's
pub record MayDo (site : Site) (cache : Cache) (before : List StripeEvent) (did : Did) : Type 0 where
  pub stripe : stripe_of (key_of did.command) site.stripes ≡ record { 0 = site.stripe }
  pub alive : IsAlive (cache.items (key_of did.command)) did.moment
  pub fits : Fits (row_of site cache.versions (cache.items (key_of did.command)) did.command did.moment).need did.room before
  pub reply : did.reply ≡ (answer_of site cache did.command did.moment did.room).reply

-- an item may be lost for this cause: there is one, and it is dead at the moment, or its chunk is of the class
abbrev pub MayLose : Option Item → Cause → Type 0
MayLose found (Expired moment) = IsDead found moment
MayLose found (Taken class place) = IsSomeAnd found (λ item. item.link.class ≡ class)

-- an event may happen to this cache after the events `before`
abbrev pub MayHappen : Site → Cache → List StripeEvent → StripeEvent → Type 0
MayHappen site cache before (events.Did did) = MayDo site cache before did
MayHappen site cache before (events.Lost lost) = MayLose (cache.items lost.key) lost.cause
MayHappen site cache before (events.Cooled cooled) = IsSomeAnd (cache.items cooled.key) (λ item. item.marks.active ≡ true)

-- the change of an item that is cooled: its ACTIVE mark is cleared, and nothing else
abbrev pub cooled_change : Option Item → Change
cooled_change None = Stays
cooled_change (Some item) = Hit (record { fetched = item.marks.fetched; active = false })

-- the cache after an event
abbrev pub cache_after : Site → Cache → StripeEvent → Cache
cache_after site cache (events.Did did) = after_command site cache did.command did.moment did.room
cache_after site cache (events.Lost lost) = after_change cache lost.key Goes
cache_after site cache (events.Cooled cooled) = after_change cache cooled.key (cooled_change (cache.items cooled.key))

-- one step of the sequential cache, from an old cache to a new one, after the events `before`
pub record Steps (site : Site) (before : List StripeEvent) (old : Cache) (event : StripeEvent) (new : Cache) : Type 0 where
  pub may : MayHappen site old before event
  pub leaves : new ≡ cache_after site old event

-- the cache after these events, from this cache on
abbrev pub cache_from : Site → Cache → List StripeEvent → Cache
cache_from site cache [] = cache
cache_from site cache (e ∷ es) = cache_from site (cache_after site cache e) es

-- the cache that a history leaves, from the empty cache on
abbrev pub cache_of : Site → List StripeEvent → Cache
cache_of site history = cache_from site empty_cache history

-- from this cache on, after the events `before`, each event may happen to the cache that the ones before it left
abbrev pub IsLegalFrom : Site → Cache → List StripeEvent → List StripeEvent → Type 0
IsLegalFrom site cache before [] = Unit {0}
IsLegalFrom site cache before (e ∷ es) = MayHappen site cache before e × IsLegalFrom site (cache_after site cache e) (before ++ e ∷ []) es

-- a legal history: a chain of steps from the empty cache
abbrev pub IsLegal : Site → List StripeEvent → Type 0
IsLegal site history = IsLegalFrom site empty_cache [] history
