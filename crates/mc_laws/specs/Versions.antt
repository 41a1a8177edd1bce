-- Versions of items: which cas number an event gives, what holds while a version lasts, and which command wrote it.
use Rattle.std.specs.Prelude.{ℕ, List, [], ◌∷◌, ◌++◌, ◌≡◌, Option, Some, None, IsSomeAnd, decimal, replicate}
use Rattle.mc_item.specs.{Cache.Cache, Cache.answer_of, Stripe.cache_after}
use Rattle.mc_item.specs.declared.{answer.Change.Change, answer.Site.Site, command.Command.Command, command.Verb.Verb, item.Item.Item}
use Rattle.mc_item.specs.declared.{reply.Reply.Reply, stripe_event.StripeEvent.StripeEvent}
use Rattle.mc_item.specs.declared.answer.Change.TheVariants.{Stays, Goes, Hit, Touched, Counted, Renewed}
use Rattle.mc_item.specs.declared.command.Command.TheVariants.{Get, Gat, Store, Huge, Incr, Decr, Touch, Delete}
use Rattle.mc_item.specs.declared.command.Verb.TheVariants.{Set, Add, Replace, Cas, Append, Prepend}
use Rattle.mc_item.specs.declared.reply.Reply.TheVariants as replies
use Rattle.mc_item.specs.declared.stripe_event.StripeEvent.TheVariants as events

-- the cas number that a change gives, if it makes a new version
abbrev pub number_given : Change → Option ℕ
number_given Stays = None
number_given Goes = None
number_given (Hit marks) = None
number_given (Touched expiry marks) = None
number_given (Counted value cas) = Some cas
number_given (Renewed item) = Some item.cas

-- the cas number that an event gives in this cache, if it makes a new version
abbrev pub number_made : Site → Cache → StripeEvent → Option ℕ
number_made site cache (events.Did did) = number_given (answer_of site cache did.command did.moment did.room).change
number_made site cache (events.Lost lost) = None
number_made site cache (events.Cooled cooled) = None

-- there is an item with these flags, this value and this cas number
abbrev pub HoldsItem : Option Item → ℕ → List ℕ → ℕ → Type 0
HoldsItem found flags value cas = IsSomeAnd found (λ item. (item.flags ≡ flags) × (item.value ≡ value) × (item.cas ≡ cas))

-- a key holds this version in this cache, and after each of these events
abbrev pub HoldsThroughout : Site → Cache → List StripeEvent → List ℕ → ℕ → List ℕ → ℕ → Type 0
HoldsThroughout site cache [] key flags value cas = HoldsItem (cache.items key) flags value cas
HoldsThroughout site cache (e ∷ es) key flags value cas =
    HoldsItem (cache.items key) flags value cas × HoldsThroughout site (cache_after site cache e) es key flags value cas

-- incr or decr replied a number, wrote its digits, perhaps with spaces after them, and kept the flags of the old item
abbrev pub WroteNumber : Option Item → Reply → ℕ → List ℕ → Type 0
WroteNumber old reply flags value =
    (number spaces : ℕ) × (reply ≡ replies.Number number) × (value ≡ decimal number ++ replicate spaces 32) × IsSomeAnd old (λ item. item.flags ≡ flags)

-- a storage command with its own flags and value wrote these over `old`: append and prepend kept the flags of the old item, and put
-- their own value behind or before the old one; the others wrote their own flags and value
abbrev pub WroteOver : Option Item → Verb → ℕ → List ℕ → ℕ → List ℕ → Type 0
WroteOver old Set own_flags own_value flags value = (flags ≡ own_flags) × (value ≡ own_value)
WroteOver old Add own_flags own_value flags value = (flags ≡ own_flags) × (value ≡ own_value)
WroteOver old Replace own_flags own_value flags value = (flags ≡ own_flags) × (value ≡ own_value)
WroteOver old (Cas unique) own_flags own_value flags value = (flags ≡ own_flags) × (value ≡ own_value)
WroteOver old Append own_flags own_value flags value = IsSomeAnd old (λ item. (flags ≡ item.flags) × (value ≡ item.value ++ own_value))
WroteOver old Prepend own_flags own_value flags value = IsSomeAnd old (λ item. (flags ≡ item.flags) × (value ≡ own_value ++ item.value))

-- a command wrote these flags and this value over `old`: a storage command that replied Stored what its verb says, incr and decr a
-- number
abbrev pub Wrote : Option Item → Command → Reply → ℕ → List ℕ → Type 0
Wrote old (Get key) reply flags value = ⊥
Wrote old (Gat key exptime) reply flags value = ⊥
Wrote old (Store verb key own_flags exptime own_value) reply flags value =
    (reply ≡ replies.Stored) × WroteOver old verb own_flags own_value flags value
Wrote old (Huge verb key) reply flags value = ⊥
Wrote old (Incr key delta) reply flags value = WroteNumber old reply flags value
Wrote old (Decr key delta) reply flags value = WroteNumber old reply flags value
Wrote old (Touch key exptime) reply flags value = ⊥
Wrote old (Delete key) reply flags value = ⊥
