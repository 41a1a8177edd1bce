-- What the laws of the sequential cache rest on.
use Rattle.std.proofs.Common.{◌≡◌, ◌≤◌, ℕ, ℤ, List, [], ◌∷◌, ◌++◌, refl, sym, ap, ◌∙◌, subst, append_assoc, append-nil, arith, Bool, true, false}
use Rattle.std.specs.Prelude.{Option, Some, None, IsSomeAnd, nat_eq, if◌then◌else◌, ◌≢◌}
use Rattle.std.specs.Cmp.Lexicographic.{pointwise, bytes_decides}
use Rattle.std.proofs.lemmas.Bool.Decides.{nat_tests}
use Rattle.mc_item.specs.Answer.{Row, Written, answer, fresh, store_row, write_row, written_over, get_row, version_of, cas_of}
use Rattle.mc_item.specs.Cache.{Cache, empty_cache, changed, after_change, after_command, answer_of, if_alive, visible_items}
use Rattle.mc_item.specs.{Command.key_of, Item.has_come, Item.expiry_of, Measure.class_of, Measure.cost_of}
use Rattle.mc_laws.specs.Events.{key_named, AreOfOtherKeys}
use Rattle.mc_item.specs.Stripe.{cache_after, cache_from, cache_of, IsLegalFrom, IsLegal, IsDead, cooled_change}
use Rattle.mc_item.specs.declared.{answer.Change.Change, answer.Change.TheVariants.Goes, answer.Change.TheVariants.Stays, answer.Site.Site}
use Rattle.mc_item.specs.declared.{command.Command.Command, command.Command.TheVariants.Get, command.Command.TheVariants.Store, command.Verb.Verb}
use Rattle.mc_item.specs.declared.{command.Verb.TheVariants.Set, command.Verb.TheVariants.Append, item.ClassNo.ClassNo}
use Rattle.mc_item.specs.declared.{item.Expiry.Expiry, item.Expiry.TheVariants.Never, item.Expiry.TheVariants.At, item.Item.Item, item.Link.Link}
use Rattle.mc_item.specs.declared.{reply.Reply.Reply, reply.Room.Room, stripe_event.Did.Did, stripe_event.StripeEvent.StripeEvent}
use Rattle.mc_item.specs.declared.reply.Reply.TheVariants as replies
use Rattle.mc_item.specs.declared.reply.Room.TheVariants as rooms
use Rattle.mc_item.specs.declared.stripe_event.StripeEvent.TheVariants as events

-- ---- one key's change

-- two different keys are found different
pub differ : (key q : List ℕ) → (key ≢ q) → pointwise nat_eq key q ≡ false
differ key q apart = by (pointwise nat_eq key q) (λ is. apart ((bytes_decides key q).0 is))
  where
    by : (b : Bool) → (b ≢ true) → b ≡ false
    by true f = absurd (f refl)
    by false f = refl

-- a change of one key's item leaves the items of others
pub change_elsewhere : (cache : Cache) (key q : List ℕ) (change : Change) → (key ≢ q) → (after_change cache key change).items q ≡ cache.items q
change_elsewhere cache key q change apart =
    ap (λ (b : Bool). if b then changed (cache.items key) change else cache.items q) (differ key q apart)

-- a change of one key's item is seen under that key
pub change_here : (cache : Cache) (key : List ℕ) (change : Change) → (after_change cache key change).items key ≡ changed (cache.items key) change
change_here cache key change =
    ap (λ (b : Bool). if b then changed (cache.items key) change else cache.items key) ((bytes_decides key key).1 refl)

-- ---- the dead

-- what has come stays so
pub come_stays : (expiry : Expiry) (m n : ℕ) → has_come expiry m ≡ true → m ≤ n → has_come expiry n ≡ true
come_stays Never m n come le = cc
come_stays (At end) m n come le = grind (arith, nat_tests)

-- what is dead is not visible later
dead_hidden : (found : Option Item) (m n : ℕ) → IsDead found m → m ≤ n → if_alive n found ≡ None
dead_hidden None m n dead le = refl
dead_hidden (Some item) m n dead le =
    ap (λ (b : Bool). if b then None else Some item) (come_stays item.expiry m n dead le)

-- a dead item that goes shows nothing
pub forgets : (cache : Cache) (key q : List ℕ) (m n : ℕ) → IsDead (cache.items key) m → m ≤ n
    → visible_items (after_change cache key Goes) n q ≡ visible_items cache n q
forgets cache key q m n dead le = by (pointwise nat_eq key q) refl
  where
    by : (b : Bool) → pointwise nat_eq key q ≡ b → if_alive n (if pointwise nat_eq key q then None else cache.items q) ≡ if_alive n (cache.items q)
    by true is =
        ap (λ (b : Bool). if_alive n (if b then None else cache.items q)) is
        ∙ sym (dead_hidden (cache.items key) m n dead le)
        ∙ ap (λ (k : List ℕ). if_alive n (cache.items k)) ((bytes_decides key q).0 is)
    by false is = ap (λ (b : Bool). if_alive n (if b then None else cache.items q)) is

-- ---- what was stored is read

-- an event leaves the items of other keys
pub after_elsewhere : (site : Site) (cache : Cache) (e : StripeEvent) (q : List ℕ) → (key_named e ≢ q) → (cache_after site cache e).items q ≡ cache.items q
after_elsewhere site cache (events.Did did) q apart =
    change_elsewhere cache (key_of did.command) q (answer_of site cache did.command did.moment did.room).change apart
after_elsewhere site cache (events.Lost lost) q apart = change_elsewhere cache lost.key q Goes apart
after_elsewhere site cache (events.Cooled cooled) q apart =
    change_elsewhere cache cooled.key q (cooled_change (cache.items cooled.key)) apart

-- so do events of other keys
pub stays_meanwhile : (site : Site) (cache : Cache) (key : List ℕ) (es : List StripeEvent) → AreOfOtherKeys key es → (cache_from site cache es).items key ≡ cache.items key
stays_meanwhile site cache key [] others = refl
stays_meanwhile site cache key (e ∷ es) others =
    stays_meanwhile site (cache_after site cache e) key es others.1 ∙ after_elsewhere site cache e key others.0

-- the earlier ones of legal events are legal
pub legal_before : (site : Site) (cache : Cache) (past es rest : List StripeEvent) → IsLegalFrom site cache past (es ++ rest) → IsLegalFrom site cache past es
legal_before site cache past [] rest legal = tt
legal_before site cache past (e ∷ es) rest legal = (legal.0, legal_before site (cache_after site cache e) (past ++ e ∷ []) es rest legal.1)

-- the later events are legal from where the earlier ones lead
pub legal_on : (site : Site) (cache : Cache) (before es rest : List StripeEvent) → IsLegalFrom site cache before (es ++ rest)
    → IsLegalFrom site (cache_from site cache es) (before ++ es) rest
legal_on site cache before [] rest legal =
    subst (λ (b : List StripeEvent). IsLegalFrom site cache b rest) (sym (append-nil before)) legal
legal_on site cache before (e ∷ es) rest legal =
    subst (λ (b : List StripeEvent). IsLegalFrom site (cache_from site (cache_after site cache e) es) b rest) (append_assoc before (e ∷ []) es)
    (legal_on site (cache_after site cache e) (before ++ e ∷ []) es rest legal.1)

-- a row that answers Stored leaves this version, with some link
abbrev LeavesVersion : Row → Option Item → (Link → Item) → Room → Type 0
LeavesVersion row found version room =
    (row.answer room).reply ≡ replies.Stored → (link : Link) × (changed found (row.answer room).change ≡ Some (version link))

-- so does a row that stores the version in a chunk
fresh_leaves : (class : ClassNo) (found : Option Item) (version : Link → Item) (change : Change) (room : Room)
    → LeavesVersion (fresh class replies.Stored version (answer replies.NoRoom change)) found version room
fresh_leaves class found version change (rooms.At link) stored = (link, refl)
fresh_leaves class found version change (rooms.Refused other place) stored = absurd cc
fresh_leaves class found version change rooms.Keep stored = absurd cc

-- so does a set
set_leaves : (class : Option ClassNo) (found : Option Item) (version : Link → Item) (room : Room) → LeavesVersion (store_row class Set found version) found version room
set_leaves None found version room stored = absurd cc
set_leaves (Some class) found version room stored = fresh_leaves class found version Goes room stored

-- so does an append
append_leaves : (class : Option ClassNo) (found : Option Item) (version : Link → Item) (room : Room) → LeavesVersion (store_row class Append found version) found version room
append_leaves class None version room stored = absurd cc
append_leaves None (Some item) version room stored = absurd cc
append_leaves (Some class) (Some item) version room stored = fresh_leaves class (Some item) version Stays room stored

-- a storage command that was answered Stored, and a get of its key after events of other keys
module _ (site : Site) (before between : List StripeEvent) (done got : Did) (verb : Verb) (key : List ℕ) (flags : ℕ) (exptime : ℤ) (value : List ℕ)
    (is_store : done.command ≡ Store verb key flags exptime value) (stored : done.reply ≡ replies.Stored) (others : AreOfOtherKeys key between)
    (is_get : got.command ≡ Get key) (legal : IsLegal site (before ++ events.Did done ∷ (between ++ events.Did got ∷ []))) where
  -- the cache before the command
  abbrev early : Cache
  early = cache_of site before

  -- what the command writes
  abbrev written : Written
  written = written_over verb (record { flags = flags; value = value; expiry = expiry_of exptime done.moment }) (early.items key)

  -- its row answers Stored
  row_stores : ((write_row site early.versions key verb (early.items key) written).answer done.room).reply ≡ replies.Stored
  row_stores =
      let first = legal_on site empty_cache [] before (events.Did done ∷ (between ++ events.Did got ∷ [])) legal in
      ap (λ (c : Command). (answer_of site early c done.moment done.room).reply) (sym is_store) ∙ sym first.0.reply ∙ stored

  -- so where such a row leaves its version, a get reads what was written
  written_read : ((class : Option ClassNo) (found : Option Item) (version : Link → Item) (room : Room) → LeavesVersion (store_row class verb found version) found version room)
      → got.reply ≡ replies.Value written.flags written.value (cas_of site early.versions)
  written_read leaves =
      let next = cache_after site early (events.Did done) in
      let version = version_of site early.versions written.flags written.value written.expiry in
      let left = leaves (class_of site.sizes (cost_of key written.value)) (early.items key) version done.room row_stores in
      let there : next.items key ≡ Some (version left.0) =
      ap (λ (c : Command). (after_command site early c done.moment done.room).items key) is_store
      ∙ change_here early key (answer_of site early (Store verb key flags exptime value) done.moment done.room).change
      ∙ left.1 in
      let first = legal_on site empty_cache [] before (events.Did done ∷ (between ++ events.Did got ∷ [])) legal in
      let last = legal_on site next (before ++ events.Did done ∷ []) between (events.Did got ∷ []) first.1 in
      last.0.reply
      ∙ ap (λ (c : Command). (answer_of site (cache_from site next between) c got.moment got.room).reply) is_get
      ∙ ap (λ (found : Option Item). ((get_row found).answer got.room).reply) (stays_meanwhile site next key between others ∙ there)

-- a get after a set reads the set's value
pub read_back : (site : Site) (before between : List StripeEvent) (set got : Did) (key : List ℕ) (flags : ℕ) (exptime : ℤ) (value : List ℕ)
    → set.command ≡ Store Set key flags exptime value → set.reply ≡ replies.Stored → AreOfOtherKeys key between → got.command ≡ Get key
    → IsLegal site (before ++ events.Did set ∷ (between ++ events.Did got ∷ []))
    → got.reply ≡ replies.Value flags value (cas_of site (cache_of site before).versions)
read_back site before between set got key flags exptime value is_set stored others is_get legal =
    written_read site before between set got Set key flags exptime value is_set stored others is_get legal set_leaves

-- an append that is answered Stored found an item, to which it joins its data
joined_to : (site : Site) (n : ℕ) (key : List ℕ) (own : Written) (found : Option Item) (room : Room) (reply : Reply) (cas : ℕ)
    → ((write_row site n key Append found (written_over Append own found)).answer room).reply ≡ replies.Stored
    → reply ≡ replies.Value (written_over Append own found).flags (written_over Append own found).value cas
    → IsSomeAnd found (λ item. reply ≡ replies.Value item.flags (item.value ++ own.value) cas)
joined_to site n key own None room reply cas stored read = absurd cc
joined_to site n key own (Some item) room reply cas stored read = read

-- a get after an append reads the old value with the append's data behind it
pub append_read_back : (site : Site) (before between : List StripeEvent) (append got : Did) (key : List ℕ) (flags : ℕ) (exptime : ℤ) (added : List ℕ)
    → append.command ≡ Store Append key flags exptime added → append.reply ≡ replies.Stored → AreOfOtherKeys key between → got.command ≡ Get key
    → IsLegal site (before ++ events.Did append ∷ (between ++ events.Did got ∷ []))
    → IsSomeAnd ((cache_of site before).items key) (λ item. got.reply ≡ replies.Value item.flags (item.value ++ added) (cas_of site (cache_of site before).versions))
append_read_back site before between append got key flags exptime added is_append stored others is_get legal =
    let own : Written = record { flags = flags; value = added; expiry = expiry_of exptime append.moment } in
    joined_to site (cache_of site before).versions key own ((cache_of site before).items key) append.room got.reply (cas_of site (cache_of site before).versions)
    (row_stores site before between append got Append key flags exptime added is_append stored others is_get legal)
    (written_read site before between append got Append key flags exptime added is_append stored others is_get legal append_leaves)
