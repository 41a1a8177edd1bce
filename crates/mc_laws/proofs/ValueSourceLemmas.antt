-- Whence a value comes: the last command that wrote its item, from which on the key held that version.
use Rattle.std.proofs.Common.{◌≡◌, ℕ, List, [], ◌∷◌, ◌++◌, refl, sym, ap, ◌∙◌, subst, append-nil, ◌-◌, ◌==◌, ◌⊎◌, inl, inr, ⊎_elim, length, Bool, true, false}
use Rattle.std.specs.Prelude.{Option, Some, None, nat_le, if◌then◌else◌, decimal}
use Rattle.std.specs.Option.{option_map}
use Rattle.mc_laws.proofs.{EventLemmas.legal_before, EventLemmas.legal_on, MarkLemmas.by_key}
use Rattle.mc_laws.specs.Versions.{HoldsItem, HoldsThroughout, Wrote, WroteNumber, WroteOver}
use Rattle.mc_item.specs.Answer.{Row, Written, answer, plain, fresh, row_of, get_row, join_row, store_row, write_row, written_over, let_go, padded}
use Rattle.mc_item.specs.Answer.{grown_row, number_row, count_row, stepped, version_of, cas_of}
use Rattle.mc_item.specs.{Cache.Cache, Cache.empty_cache, Cache.changed, Cache.answer_of, Command.key_of, Item.expiry_of, Measure.class_of, Measure.cost_of}
use Rattle.mc_item.specs.{Measure.numeral_of, Stripe.cache_after, Stripe.cache_from, Stripe.cache_of, Stripe.IsLegalFrom, Stripe.IsLegal, Stripe.cooled_change}
use Rattle.mc_item.specs.declared.{answer.Answer.Answer, answer.Change.TheVariants.Stays, answer.Change.TheVariants.Goes, answer.Change.TheVariants.Counted}
use Rattle.mc_item.specs.declared.{answer.Site.Site, command.Command.Command, command.Verb.Verb, counting.Step.TheVariants.Up, counting.Step.TheVariants.Down}
use Rattle.mc_item.specs.declared.{item.ClassNo.ClassNo, item.Item.Item, item.Link.Link, reply.Reply.Reply, reply.Room.Room, stripe_event.Cooled.Cooled}
use Rattle.mc_item.specs.declared.{stripe_event.Did.Did, stripe_event.Lost.Lost, stripe_event.StripeEvent.StripeEvent}
use Rattle.mc_item.specs.declared.answer.Need.TheVariants as needs
use Rattle.mc_item.specs.declared.command.Command.TheVariants.{Get, Gat, Store, Huge, Incr, Decr, Touch, Delete}
use Rattle.mc_item.specs.declared.command.Verb.TheVariants.{Set, Add, Replace, Cas, Append, Prepend}
use Rattle.mc_item.specs.declared.reply.Reply.TheVariants as replies
use Rattle.mc_item.specs.declared.reply.Room.TheVariants as rooms
use Rattle.mc_item.specs.declared.stripe_event.StripeEvent.TheVariants as events

-- ---- earlier events

-- one version's flags, value and cas number
module _ (site : Site) (flags : ℕ) (value : List ℕ) (cas : ℕ) where
  -- an item of this version is there
  abbrev IsThere : Option Item → Type 0
  IsThere found = HoldsItem found flags value cas

  -- an item that cooling leaves was there before
  cooled_was : (found : Option Item) → IsThere (changed found (cooled_change found)) → IsThere found
  cooled_was None there = there
  cooled_was (Some item) there = there

  -- so was one that a verb leaves that finds no chunk
  let_go_was : (verb : Verb) (found : Option Item) → IsThere (changed found (let_go verb)) → IsThere found
  let_go_was Set found there = absurd there
  let_go_was Add found there = there
  let_go_was Replace found there = there
  let_go_was (Cas unique) found there = there
  let_go_was Append found there = there
  let_go_was Prepend found there = there

  -- one that a get answers is there
  answered_is_there : (found : Option Item) (room : Room) → replies.Value flags value cas ≡ ((get_row found).answer room).reply → IsThere found
  answered_is_there None room is = absurd cc
  answered_is_there (Some item) room is = (cc, cc, cc)

  -- what is there throughout is there at first
  there_at_first : (cache : Cache) (es : List StripeEvent) (key : List ℕ) → HoldsThroughout site cache es key flags value cas → IsThere (cache.items key)
  there_at_first cache [] key there = there
  there_at_first cache (e ∷ es) key there = there.0

  -- ---- who wrote what an answer leaves

  -- a reply, and the room that its command was given
  module _ (reply : Reply) (room : Room) where
    -- what a row that replies so leaves of an item was there before, or else W
    abbrev WasOr : Type 0 → Option Item → Row → Type 0
    WasOr W found row = reply ≡ (row.answer room).reply → IsThere (changed found (row.answer room).change) → IsThere found ⊎ W

    -- the row that a test takes is one of two
    by_test : (W : Type 0) (found : Option Item) (test : Bool) (this that : Row) → WasOr W found this → WasOr W found that
        → WasOr W found (if test then this else that)
    by_test W found true this that by_this by_that = by_this
    by_test W found false this that by_this by_that = by_that

    -- a row that needs a chunk leaves its version with its own reply, or what its refusal leaves
    fresh_was : (W : Type 0) (class : ClassNo) (own : Reply) (version : Link → Item) (refused : Answer) (found : Option Item)
        → (IsThere (changed found refused.change) → IsThere found) → ((link : Link) → reply ≡ own → IsThere (Some (version link)) → W)
        → WasOr W found (fresh class own version refused)
    fresh_was W class own version refused found old new = by room
      where
        by : (r : Room) → reply ≡ ((fresh class own version refused).answer r).reply
            → IsThere (changed found ((fresh class own version refused).answer r).change) → IsThere found ⊎ W
        by (rooms.At link) is there = inr (new link is there)
        by (rooms.Refused other place) is there = inl (old there)
        by rooms.Keep is there = inl (old there)

    -- a storage command stores a version
    module _ (W : Type 0) (version : Link → Item) (new : (link : Link) → reply ≡ replies.Stored → IsThere (Some (version link)) → W) where
      -- in a chunk
      stored_was : (class : ClassNo) (verb : Verb) (found : Option Item)
          → WasOr W found (fresh class replies.Stored version (answer replies.NoRoom (let_go verb)))
      stored_was class verb found = fresh_was W class replies.Stored version (answer replies.NoRoom (let_go verb)) found (let_go_was verb found) new

      -- joined to an item, if the verb is append or prepend
      join_was : (class : Option ClassNo) (found : Option Item) → WasOr W found (join_row class found version)
      join_was class None is there = inl there
      join_was None (Some item) is there = inl there
      join_was (Some class) (Some item) is there = stored_was class Append (Some item) is there

      -- where its verb says so
      store_was : (class : Option ClassNo) (verb : Verb) (found : Option Item) → WasOr W found (store_row class verb found version)
      store_was class Append found is there = join_was class found is there
      store_was class Prepend found is there = join_was class found is there
      store_was None Set found is there = inl (let_go_was Set found there)
      store_was None Add found is there = inl there
      store_was None Replace found is there = inl there
      store_was None (Cas unique) found is there = inl there
      store_was (Some class) Set found is there = stored_was class Set found is there
      store_was (Some class) Add None is there = stored_was class Add None is there
      store_was (Some class) Add (Some item) is there = inl there
      store_was (Some class) Replace None is there = inl there
      store_was (Some class) Replace (Some item) is there = stored_was class Replace (Some item) is there
      store_was (Some class) (Cas unique) None is there = inl there
      store_was (Some class) (Cas unique) (Some item) is there =
          by_test W (Some item) (item.cas == unique) (fresh class replies.Stored version (answer replies.NoRoom (let_go (Cas unique))))
          (plain needs.Nothing replies.Exists Stays) (stored_was class (Cas unique) (Some item)) (λ other same. inl same) is there

    -- a version of what is written was written, or what is left was there
    written_was : (W : Type 0) (n : ℕ) (key : List ℕ) (verb : Verb) (found : Option Item) (written : Written)
        → (reply ≡ replies.Stored → (flags ≡ written.flags) × (value ≡ written.value) → W) → WasOr W found (write_row site n key verb found written)
    written_was W n key verb found written new =
        store_was W (version_of site n written.flags written.value written.expiry) (λ link stored there. new stored (sym there.0, sym there.1))
        (class_of site.sizes (cost_of key written.value)) verb found

    -- a storage command wrote what its verb says, or what is left was there
    write_was : (n : ℕ) (key : List ℕ) (verb : Verb) (own : Written) (found : Option Item)
        → WasOr ((reply ≡ replies.Stored) × WroteOver found verb own.flags own.value flags value) found
        (write_row site n key verb found (written_over verb own found))
    write_was n key Set own found = written_was _ n key Set found own (λ stored same. (stored, same))
    write_was n key Add own found = written_was _ n key Add found own (λ stored same. (stored, same))
    write_was n key Replace own found = written_was _ n key Replace found own (λ stored same. (stored, same))
    write_was n key (Cas unique) own found = written_was _ n key (Cas unique) found own (λ stored same. (stored, same))
    write_was n key Append own None = λ is there. inl there
    write_was n key Append own (Some item) = written_was _ n key Append (Some item) (written_over Append own (Some item)) (λ stored same. (stored, same))
    write_was n key Prepend own None = λ is there. inl there
    write_was n key Prepend own (Some item) = written_was _ n key Prepend (Some item) (written_over Prepend own (Some item)) (λ stored same. (stored, same))

    -- a longer number was written, or what is left was there
    grown_was : (n : ℕ) (item : Item) (number : ℕ) (class : Option ClassNo)
        → WasOr (WroteNumber (Some item) reply flags value) (Some item) (grown_row site n item number class)
    grown_was n item number None is there = inl there
    grown_was n item number (Some class) is there =
        fresh_was (WroteNumber (Some item) reply flags value) class (replies.Number number) (version_of site n item.flags (decimal number) item.expiry)
        (answer replies.NoSpace Stays) (Some item) (λ old. old)
        (λ link own new. (number, 0, own, sym new.1 ∙ sym (append-nil (decimal number)), new.0)) is there

    -- a number was written, or what is left was there
    number_was : (n : ℕ) (key : List ℕ) (item : Item) (number : Option ℕ)
        → WasOr (WroteNumber (Some item) reply flags value) (Some item) (number_row site n key item number)
    number_was n key item None is there = inl there
    number_was n key item (Some number) is there =
        by_test (WroteNumber (Some item) reply flags value) (Some item) (nat_le (length (decimal number)) (length item.value))
        (plain needs.Same (replies.Number number) (Counted (padded (decimal number) (length item.value)) (cas_of site n)))
        (grown_row site n item number (class_of site.sizes (cost_of key (decimal number))))
        (λ own new. inr (number, length item.value - length (decimal number), own, sym new.1, new.0))
        (grown_was n item number (class_of site.sizes (cost_of key (decimal number)))) is there

    -- so it is with incr and decr
    count_was : (n : ℕ) (key : List ℕ) (step : ℕ → ℕ) (found : Option Item)
        → WasOr (WroteNumber found reply flags value) found (count_row site n key step found)
    count_was n key step None is there = inl there
    count_was n key step (Some item) is there = number_was n key item (option_map step (numeral_of item.value)) is there

    -- a command wrote what it leaves, or that was there
    command_was : (n : ℕ) (found : Option Item) (command : Command) (moment : ℕ)
        → WasOr (Wrote found command reply flags value) found (row_of site n found command moment)
    command_was n None (Get key) moment is there = inl there
    command_was n (Some item) (Get key) moment is there = inl there
    command_was n None (Gat key exptime) moment is there = inl there
    command_was n (Some item) (Gat key exptime) moment is there = inl there
    command_was n found (Store verb key own_flags exptime own_value) moment is there =
        write_was n key verb (record { flags = own_flags; value = own_value; expiry = expiry_of exptime moment }) found is there
    command_was n found (Huge verb key) moment is there = inl (let_go_was verb found there)
    command_was n found (Incr key delta) moment is there = count_was n key (stepped (Up delta)) found is there
    command_was n found (Decr key delta) moment is there = count_was n key (stepped (Down delta)) found is there
    command_was n None (Touch key exptime) moment is there = inl there
    command_was n (Some item) (Touch key exptime) moment is there = inl there
    command_was n None (Delete key) moment is there = inl there
    command_was n (Some item) (Delete key) moment is there = absurd there

  -- ---- back to the last write

  -- a key
  module _ (key : List ℕ) where
    -- the version was there under the key before a command, or the command is one of the key, and wrote it
    abbrev WasOrWrote : Cache → Did → Type 0
    WasOrWrote cache did = IsThere (cache.items key) ⊎ ((key_of did.command ≡ key) × Wrote (cache.items key) did.command did.reply flags value)

    -- so it is with what a command of the key leaves
    did_here : (cache : Cache) (did : Did) → did.reply ≡ (answer_of site cache did.command did.moment did.room).reply → key_of did.command ≡ key
        → IsThere (changed (cache.items (key_of did.command)) (answer_of site cache did.command did.moment did.room).change) → WasOrWrote cache did
    did_here cache did is same there =
        ⊎_elim (λ old. inl (subst (λ (k : List ℕ). IsThere (cache.items k)) same old))
        (λ new. inr (same, subst (λ (k : List ℕ). Wrote (cache.items k) did.command did.reply flags value) same new))
        (command_was did.reply did.room cache.versions (cache.items (key_of did.command)) did.command did.moment is there)

    -- so it is with what any command leaves under the key
    did_was : (cache : Cache) (did : Did) → did.reply ≡ (answer_of site cache did.command did.moment did.room).reply
        → IsThere ((cache_after site cache (events.Did did)).items key) → WasOrWrote cache did
    did_was cache did is =
        by_key (λ (found : Option Item). IsThere found → WasOrWrote cache did) cache (key_of did.command) key
        (answer_of site cache did.command did.moment did.room).change (did_here cache did is) (λ apart there. inl there)

    -- what a lost item leaves under the key was there before
    lost_was : (cache : Cache) (lost : Lost) → IsThere ((cache_after site cache (events.Lost lost)).items key) → IsThere (cache.items key)
    lost_was cache lost =
        by_key (λ (found : Option Item). IsThere found → IsThere (cache.items key)) cache lost.key key Goes
        (λ same there. absurd there) (λ apart there. there)

    -- so was what cooling leaves
    cooling_was : (cache : Cache) (cooled : Cooled) → IsThere ((cache_after site cache (events.Cooled cooled)).items key) → IsThere (cache.items key)
    cooling_was cache cooled =
        by_key (λ (found : Option Item). IsThere found → IsThere (cache.items key)) cache cooled.key key (cooled_change (cache.items cooled.key))
        (λ same there. subst (λ (k : List ℕ). IsThere (cache.items k)) same (cooled_was (cache.items cooled.key) there))
        (λ apart there. there)

    -- among events after a cache a command of the key wrote the version, and from then on the key held it
    abbrev pub WrittenAmong : Cache → List StripeEvent → Type 0
    WrittenAmong cache es =
        (earlier later : List StripeEvent) × (wrote : Did) × (es ≡ earlier ++ events.Did wrote ∷ later) × (key_of wrote.command ≡ key)
        × Wrote ((cache_from site cache earlier).items key) wrote.command wrote.reply flags value
        × HoldsThroughout site (cache_from site cache (earlier ++ events.Did wrote ∷ [])) later key flags value cas

    -- so it is with an event before them
    sooner : (cache : Cache) (e : StripeEvent) (es : List StripeEvent) → WrittenAmong (cache_after site cache e) es → WrittenAmong cache (e ∷ es)
    sooner cache e es among = (e ∷ among.0, among.1, among.2, ap (λ (l : List StripeEvent). e ∷ l) among.3, among.4, among.5, among.6)

    -- the key held the version throughout events after a cache, or it was written among them
    abbrev Traced : Cache → List StripeEvent → Type 0
    Traced cache es = HoldsThroughout site cache es key flags value cas ⊎ WrittenAmong cache es

    -- so it is with an event before them, where what it leaves was there or is written
    traced_did : (cache : Cache) (did : Did) (es : List StripeEvent) → did.reply ≡ (answer_of site cache did.command did.moment did.room).reply
        → Traced (cache_after site cache (events.Did did)) es → Traced cache (events.Did did ∷ es)
    traced_did cache did es is (inl throughout) =
        ⊎_elim (λ old. inl (old, throughout)) (λ new. inr ([], es, did, refl, new.0, new.1, throughout))
        (did_was cache did is (there_at_first (cache_after site cache (events.Did did)) es key throughout))
    traced_did cache did es is (inr among) = inr (sooner cache (events.Did did) es among)

    -- so it is with an event before them that leaves only what was there
    traced_back : (cache : Cache) (e : StripeEvent) (es : List StripeEvent) → (IsThere ((cache_after site cache e).items key) → IsThere (cache.items key))
        → Traced (cache_after site cache e) es → Traced cache (e ∷ es)
    traced_back cache e es was (inl throughout) = inl (was (there_at_first (cache_after site cache e) es key throughout), throughout)
    traced_back cache e es was (inr among) = inr (sooner cache e es among)

    -- a version that the key holds after legal events it held throughout them, or it was written among them
    traced : (cache : Cache) (past es : List StripeEvent) → IsLegalFrom site cache past es → IsThere ((cache_from site cache es).items key) → Traced cache es
    traced cache past [] legal there = inl there
    traced cache past (events.Did did ∷ es) legal there =
        traced_did cache did es legal.0.reply (traced (cache_after site cache (events.Did did)) (past ++ events.Did did ∷ []) es legal.1 there)
    traced cache past (events.Lost lost ∷ es) legal there =
        traced_back cache (events.Lost lost) es (lost_was cache lost)
        (traced (cache_after site cache (events.Lost lost)) (past ++ events.Lost lost ∷ []) es legal.1 there)
    traced cache past (events.Cooled cooled ∷ es) legal there =
        traced_back cache (events.Cooled cooled) es (cooling_was cache cooled)
        (traced (cache_after site cache (events.Cooled cooled)) (past ++ events.Cooled cooled ∷ []) es legal.1 there)

    -- a value that a get answers was written before by a command of its key, and from then on the key held that version
    pub written_before : (before : List StripeEvent) (got : Did) → got.command ≡ Get key → got.reply ≡ replies.Value flags value cas
        → IsLegal site (before ++ events.Did got ∷ []) → WrittenAmong empty_cache before
    written_before before got is_get answered legal =
        let last = legal_on site empty_cache [] before (events.Did got ∷ []) legal in
        let answers : replies.Value flags value cas ≡ ((get_row ((cache_of site before).items key)).answer got.room).reply =
        sym answered ∙ last.0.reply ∙ ap (λ (c : Command). (answer_of site (cache_of site before) c got.moment got.room).reply) is_get in
        ⊎_elim (λ throughout. absurd (there_at_first empty_cache before key throughout)) (λ written. written)
        (traced empty_cache [] before (legal_before site empty_cache [] before (events.Did got ∷ []) legal)
        (answered_is_there ((cache_of site before).items key) got.room answers))
