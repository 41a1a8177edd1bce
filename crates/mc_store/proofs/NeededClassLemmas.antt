-- The classes that a command needs: each is one of the store, and behind a search it needs no other.
use Rattle.std.proofs.Common.{◌≡◌, ◌≢◌, ◌≤◌, ◌++◌, ◌&&◌, not, ℕ, List, refl, ap, sym, ◌∙◌, subst, length, arith, Bool, true, false}
use Rattle.std.specs.Prelude.{◌==◌, Option, Some, None, IfSome, IsSomeAnd, nat_le, if◌then◌else◌, decimal}
use Rattle.std.specs.Option.{option_map}
use Rattle.std.proofs.lemmas.Bool.Decides.{nat_tests}
use Rattle.mc_item.specs.Answer.{Row, Written, cas_of, grown_row, join_row, number_row, padded, plain, row_of, store_row, stepped, version_of, write_row, written_over}
use Rattle.mc_item.specs.{Cache.marked, Command.key_of, Item.expiry_of, Item.is_dead, Item.link_of_item, Measure.class_of, Measure.cost_of, Measure.numeral_of}
use Rattle.mc_item.specs.{Stripe.IsLegal, Stripe.cache_of}
use Rattle.mc_item.specs.declared.{answer.Change.Change, answer.Need.Need, answer.Site.Site, command.Command.Command, command.Verb.Verb}
use Rattle.mc_item.specs.declared.{command.Verb.TheVariants.Set, command.Verb.TheVariants.Add, command.Verb.TheVariants.Replace, command.Verb.TheVariants.Cas}
use Rattle.mc_item.specs.declared.{command.Verb.TheVariants.Append, command.Verb.TheVariants.Prepend}
use Rattle.mc_item.specs.declared.{config.Config.Config, counting.Step.TheVariants.Up, counting.Step.TheVariants.Down, item.ClassNo.ClassNo, item.Item.Item}
use Rattle.mc_item.specs.declared.{item.Link.Link, item.Marks.Marks, stripe_event.StripeEvent.StripeEvent}
use Rattle.mc_item.specs.declared.answer.Change.TheVariants as changes
use Rattle.mc_item.specs.declared.answer.Need.TheVariants as needs
use Rattle.mc_item.specs.declared.command.Command.TheVariants.{Get, Gat, Store, Huge, Incr, Decr, Touch, Delete}
use Rattle.mc_item.specs.declared.reply.Reply.TheVariants as replies
use Rattle.mc_item.specs.declared.reply.Room.TheVariants as rooms
use Rattle.atomic_table.specs.Seated.{TableId}
use Rattle.mc_rule.specs.Pairs.{item_after}
use Rattle.mc_evidence.proofs.{LossLemmas.was_there, RowLemmas.held, SizedItemLemmas.IsSized, SizedItemLemmas.NamesSized, SizedItemLemmas.link_sized, SizedItemLemmas.row_names}
use Rattle.mc_evidence.specs.{Losses.AreNoCommands, Losses.IsSameItem, Setting.IsClass}
use Rattle.mc_stripe.specs.{Plan.dead_link, Plan.fate_of, Plan.gone_fate, Plan.hit_fate, StripeCalls.KeepsSite, StripeState.Stripe, StripeState.cache_now}
use Rattle.mc_stripe.specs.{Trying.item_of, Trying.row_at, Wanting.Holds, Wanting.class_beside, Wanting.class_of_fate, Wanting.classes_for, Wanting.classes_of}
use Rattle.mc_stripe.specs.declared.{fate.Fate.Fate, wanting.Classes.Classes, trying.Turn.Turn}
use Rattle.mc_stripe.specs.declared.fate.Fate.TheVariants as fates
use Rattle.mc_pull.specs.{Lone.AreMadeBy, Question.IsStripeOf}
use Rattle.mc_item.specs.declared.item.Who.{Who}
use Rattle.mc_board.specs.declared.rule.Sight.{Sight}
use Rattle.mc_store.specs.{Callers.asked_for, Commands.walker_in, Held.IsWalked, Held.Suffice, Locked.HasBegunAs, Locked.HasBegunSearch, Locked.IsLockedStripe}
use Rattle.mc_pull.specs.Suited.{MayNeedChunk}
use Rattle.mc_store.specs.{Locked.setting_of, Sides.StripeSide}
use Rattle.mc_store.proofs.{CommandLemmas.search_no_commands, CommandLemmas.searched_alive, LockKeepsLemmas.site_of_number, SearchVersionLemmas.versions_behind}

-- a class that a row needs is one of the store's
module _ (config : Config) (s : Stripe) (made : IsStripeOf config s) where
  sized_class : (class : ClassNo) → IsSized s.site.sizes class → IsClass (setting_of config) class
  sized_class class sized = (sized.0, subst (λ (sizes : List ℕ). class.0 ≤ length sizes) made.sizes sized.1)

  named_class : (need : Need) (class : ClassNo) → NamesSized s.site.sizes need → need ≡ needs.Fresh class → IsSized s.site.sizes class
  named_class need class sized is = subst (NamesSized s.site.sizes) is sized

  pub fresh_class : (command : Command) (moment : ℕ) (class : ClassNo) → (row_at s command moment).need ≡ needs.Fresh class → IsClass (setting_of config) class
  fresh_class command moment class is =
      sized_class class (named_class (row_at s command moment).need class (row_names s.site (cache_now s).versions (item_of s command) command moment) is)

  -- and so is that of an item's link
  pub item_class : IsLegal s.site s.history → (key : List ℕ) (item : Item) → (cache_now s).items key ≡ Some item → IsClass (setting_of config) item.link.class
  item_class legal key item is = sized_class item.link.class (link_sized s.site s.history key item.link (cost_of key item.value) legal (ap (held key) is))

-- the classes that are wanted where a chunk is
pub fresh_classes : (need : Need) (old : Option Link) (fate : Fate) (class : ClassNo) → need ≡ needs.Fresh class → classes_of need old fate ≡ record { home = Some class; other = class_beside class old }
fresh_classes need old fate class is = ap (λ (n : Need). classes_of n old fate) is

-- a home is wanted where a chunk is
pub home_fresh : (need : Need) (old : Option Link) (fate : Fate) (class : ClassNo) → (classes_of need old fate).home ≡ Some class → need ≡ needs.Fresh class
home_fresh (needs.Fresh other) old fate class is = cc is
home_fresh needs.Nothing old fate class is = absurd (cc is)
home_fresh needs.Same old fate class is = absurd (cc is)
home_fresh needs.TooLarge old fate class is = absurd (cc is)

-- the class of an item that is wanted is that of the item's link, and none where it is that of the new version
module _ (key : List ℕ) where
  beside_link : (class : ClassNo) (old : Option Link) (other : ClassNo) → class_beside class old ≡ Some other → IsSomeAnd old (λ link. (link.class ≡ other) × (class ≢ other))
  beside_link class None other is = absurd (cc is)
  beside_link class (Some link) other is = by (link.class.0 == class.0) refl is
    where
      apart_or : class ≡ link.class → (link.class.0 == class.0) ≡ false → ⊥
      apart_or same differs =
          let e : link.class.0 ≡ class.0 = ap (λ (c : ClassNo). c.0) (sym same) in
          absurd (grind (arith, nat_tests))

      by : (b : Bool) → (link.class.0 == class.0) ≡ b → (if b then None else Some link.class) ≡ Some other → (link.class ≡ other) × (class ≢ other)
      by true same none = absurd (cc none)
      by false apart some =
          let at : link.class ≡ other = cc some in
          (at, λ same. absurd (apart_or (same ∙ sym at) apart))

  hit_link : (active : Bool) (found : Option Item) (other : ClassNo) → class_of_fate (hit_fate active found) ≡ Some other → IsSomeAnd (link_of_item found) (λ link. link.class ≡ other)
  hit_link active None other is = absurd (cc is)
  hit_link active (Some item) other is = by (active && not item.marks.active) is
    where
      by : (b : Bool) → class_of_fate (if b then fates.Woken item.link else fates.Untouched) ≡ Some other → item.link.class ≡ other
      by true none = absurd (cc none)
      by false none = absurd (cc none)

  gone_link : (found : Option Item) (other : ClassNo) → class_of_fate (gone_fate found) ≡ Some other → IsSomeAnd (link_of_item found) (λ link. link.class ≡ other)
  gone_link None other is = absurd (cc is)
  gone_link (Some item) other is = cc is

  fate_link : (found : Option Item) (change : Change) (other : ClassNo) → class_of_fate (fate_of key found change) ≡ Some other → IsSomeAnd (link_of_item found) (λ link. link.class ≡ other)
  fate_link found changes.Stays other is = absurd (cc is)
  fate_link found changes.Goes other is = gone_link found other is
  fate_link found (changes.Hit marks) other is = hit_link marks.active found other is
  fate_link found (changes.Touched expiry marks) other is = hit_link marks.active found other is
  fate_link found (changes.Counted value cas) other is = absurd (cc is)
  fate_link found (changes.Renewed item) other is = absurd (cc is)

  first_of : (old : Option Link) (class other : ClassNo) → IsSomeAnd old (λ link. (link.class ≡ other) × (class ≢ other)) → IsSomeAnd old (λ link. link.class ≡ other)
  first_of None class other there = there
  first_of (Some link) class other there = there.0

  pub other_link : (need : Need) (found : Option Item) (change : Change) (other : ClassNo)
      → (classes_of need (link_of_item found) (fate_of key found change)).other ≡ Some other → IsSomeAnd (link_of_item found) (λ link. link.class ≡ other)
  other_link (needs.Fresh class) found change other is = first_of (link_of_item found) class other (beside_link class (link_of_item found) other is)
  other_link needs.Nothing found change other is = fate_link found change other is
  other_link needs.Same found change other is = fate_link found change other is
  other_link needs.TooLarge found change other is = fate_link found change other is

  second_of : (old : Option Link) (class other : ClassNo) → IsSomeAnd old (λ link. (link.class ≡ other) × (class ≢ other)) → class ≢ other
  second_of None class other there = absurd there
  second_of (Some link) class other there = there.1

  pub other_apart : (class : ClassNo) (old : Option Link) (other : ClassNo) → class_beside class old ≡ Some other → class ≢ other
  other_apart class old other is = second_of old class other (beside_link class old other is)

-- the class of an item that is wanted is one of the store's
pub other_class : (config : Config) (s : Stripe) → IsStripeOf config s → IsLegal s.site s.history → (command : Command) (moment : ℕ) (other : ClassNo)
    → (classes_for (key_of command) (item_of s command) (row_at s command moment)).other ≡ Some other → IsClass (setting_of config) other
other_class config s made legal command moment other is =
    by (item_of s command) refl (other_link (key_of command) (row_at s command moment).need (item_of s command)
    ((row_at s command moment).answer rooms.Keep).change other is)
  where
    by : (found : Option Item) → item_of s command ≡ found → IsSomeAnd (link_of_item found) (λ link. link.class ≡ other) → IsClass (setting_of config) other
    by None at there = absurd there
    by (Some item) at there = subst (IsClass (setting_of config)) there (item_class config s made legal (key_of command) item at)

-- ---- behind a search

-- behind a search an item is gone, or it is as it was but for its marks
abbrev pub IsBehind : Option Item → Option Item → Type 0
IsBehind found None = Unit {0}
IsBehind found (Some item) = IsSomeAnd found (λ before. IsSameItem before item)

module _ (home other : Option ClassNo) where
  -- these classes are all that a row wants
  abbrev pub Cover : List ℕ → Option Item → Row → Type 0
  Cover key found row = Holds home (classes_for key found row).home × Holds other (classes_for key found row).other

  store_gone : (key : List ℕ) (o : Option ClassNo) (verb : Verb) (item : Item) (version : Link → Item) (class : ClassNo) → home ≡ Some class
      → (store_row o verb (Some item) version).need ≡ needs.Fresh class → Cover key None (store_row o verb None version)
  store_gone key o Append item version class at is = (tt, tt)
  store_gone key o Prepend item version class at is = (tt, tt)
  store_gone key None Set item version class at is = absurd (cc is)
  store_gone key None Add item version class at is = absurd (cc is)
  store_gone key None Replace item version class at is = absurd (cc is)
  store_gone key None (Cas unique) item version class at is = absurd (cc is)
  store_gone key (Some c) Set item version class at is =
      let same : class ≡ c = cc is in
      (at ∙ ap (λ (n : ClassNo). Some n) same, tt)
  store_gone key (Some c) Add item version class at is = absurd (cc is)
  store_gone key (Some c) Replace item version class at is = (tt, tt)
  store_gone key (Some c) (Cas unique) item version class at is = (tt, tt)

  write_gone : (site : Site) (n : ℕ) (key : List ℕ) (verb : Verb) (own : Written) (item : Item) (class : ClassNo) → home ≡ Some class
      → (write_row site n key verb (Some item) (written_over verb own (Some item))).need ≡ needs.Fresh class → Cover key None (write_row site n key verb None (written_over verb own None))
  write_gone site n key Append own item class at is = (tt, tt)
  write_gone site n key Prepend own item class at is = (tt, tt)
  write_gone site n key Set own item class at is = store_gone key (class_of site.sizes (cost_of key own.value)) Set item (version_of site n own.flags own.value own.expiry) class at is
  write_gone site n key Add own item class at is = store_gone key (class_of site.sizes (cost_of key own.value)) Add item (version_of site n own.flags own.value own.expiry) class at is
  write_gone site n key Replace own item class at is = store_gone key (class_of site.sizes (cost_of key own.value)) Replace item (version_of site n own.flags own.value own.expiry) class at is
  write_gone site n key (Cas unique) own item class at is = store_gone key (class_of site.sizes (cost_of key own.value)) (Cas unique) item (version_of site n own.flags own.value own.expiry) class at is

  not_fresh : (class : ClassNo) → needs.Nothing ≡ needs.Fresh class → ⊥
  not_fresh class is = cc is

  too_large : (class : ClassNo) → needs.TooLarge ≡ needs.Fresh class → ⊥
  too_large class is = cc is

  -- where the item is gone
  gone_covers : (site : Site) (n : ℕ) (command : Command) (moment : ℕ) (item : Item) (class : ClassNo) → home ≡ Some class → (row_of site n (Some item) command moment).need ≡ needs.Fresh class
      → Cover (key_of command) None (row_of site n None command moment)
  gone_covers site n (Get key) moment item class at is = absurd (not_fresh class is)
  gone_covers site n (Gat key exptime) moment item class at is = absurd (not_fresh class is)
  gone_covers site n (Store verb key flags exptime value) moment item class at is =
      write_gone site n key verb (record { flags = flags; value = value; expiry = expiry_of exptime moment }) item class at is
  gone_covers site n (Huge verb key) moment item class at is = absurd (too_large class is)
  gone_covers site n (Incr key delta) moment item class at is = (tt, tt)
  gone_covers site n (Decr key delta) moment item class at is = (tt, tt)
  gone_covers site n (Touch key exptime) moment item class at is = absurd (not_fresh class is)
  gone_covers site n (Delete key) moment item class at is = absurd (not_fresh class is)

-- an item's marks don't matter to what a row needs
module _ (marks : Marks) (item : Item) where
  join_marked : (o : Option ClassNo) (version : Link → Item) → (join_row o (Some (marked marks item)) version).need ≡ (join_row o (Some item) version).need
  join_marked None version = refl
  join_marked (Some c) version = refl

  store_marked : (o : Option ClassNo) (verb : Verb) (version : Link → Item) → (store_row o verb (Some (marked marks item)) version).need ≡ (store_row o verb (Some item) version).need
  store_marked o Append version = join_marked o version
  store_marked o Prepend version = join_marked o version
  store_marked None Set version = refl
  store_marked None Add version = refl
  store_marked None Replace version = refl
  store_marked None (Cas unique) version = refl
  store_marked (Some c) Set version = refl
  store_marked (Some c) Add version = refl
  store_marked (Some c) Replace version = refl
  store_marked (Some c) (Cas unique) version = refl

  written_marked : (verb : Verb) (own : Written) → written_over verb own (Some (marked marks item)) ≡ written_over verb own (Some item)
  written_marked Set own = refl
  written_marked Add own = refl
  written_marked Replace own = refl
  written_marked (Cas unique) own = refl
  written_marked Append own = refl
  written_marked Prepend own = refl

  write_marked : (site : Site) (n : ℕ) (key : List ℕ) (verb : Verb) (w : Written) → (write_row site n key verb (Some (marked marks item)) w).need ≡ (write_row site n key verb (Some item) w).need
  write_marked site n key verb w = store_marked (class_of site.sizes (cost_of key w.value)) verb (version_of site n w.flags w.value w.expiry)

  grown_marked : (site : Site) (n number : ℕ) (o : Option ClassNo) → (grown_row site n (marked marks item) number o).need ≡ (grown_row site n item number o).need
  grown_marked site n number None = refl
  grown_marked site n number (Some c) = refl

  number_marked : (site : Site) (n : ℕ) (key : List ℕ) (o : Option ℕ) → (number_row site n key (marked marks item) o).need ≡ (number_row site n key item o).need
  number_marked site n key None = refl
  number_marked site n key (Some number) = by (nat_le (length (decimal number)) (length item.value))
    where
      by : (b : Bool) → (if b then plain needs.Same (replies.Number number) (changes.Counted (padded (decimal number) (length item.value)) (cas_of site n)) else
          grown_row site n (marked marks item) number (class_of site.sizes (cost_of key (decimal number)))).need
          ≡ (if b then plain needs.Same (replies.Number number) (changes.Counted (padded (decimal number) (length item.value)) (cas_of site n)) else grown_row
          site n item number (class_of site.sizes (cost_of key (decimal number)))).need
      by true = refl
      by false = grown_marked site n number (class_of site.sizes (cost_of key (decimal number)))

  need_marked : (site : Site) (n : ℕ) (command : Command) (moment : ℕ) → (row_of site n (Some (marked marks item)) command moment).need ≡ (row_of site n (Some item) command moment).need
  need_marked site n (Get key) moment = refl
  need_marked site n (Gat key exptime) moment = refl
  need_marked site n (Store verb key flags exptime value) moment =
      let own : Written = record { flags = flags; value = value; expiry = expiry_of exptime moment } in
      ap (λ (w : Written). (write_row site n key verb (Some (marked marks item)) w).need) (written_marked verb own) ∙ write_marked site n key verb (written_over verb own (Some item))
  need_marked site n (Huge verb key) moment = refl
  need_marked site n (Incr key delta) moment = number_marked site n key (option_map (stepped (Up delta)) (numeral_of item.value))
  need_marked site n (Decr key delta) moment = number_marked site n key (option_map (stepped (Down delta)) (numeral_of item.value))
  need_marked site n (Touch key exptime) moment = refl
  need_marked site n (Delete key) moment = refl

-- behind a search a command that needed a chunk needs no other class
module _ (home other : Option ClassNo) (site : Site) (n : ℕ) (command : Command) (moment : ℕ) (class : ClassNo) (at : home ≡ Some class) where
  abbrev CoverOf : Option Item → Type 0
  CoverOf found = Cover home other (key_of command) found (row_of site n found command moment)

  abbrev need_at : Option Item → Need
  need_at found = (row_of site n found command moment).need

  same_covers : (item : Item) (marks : Marks) → need_at (Some item) ≡ needs.Fresh class → CoverOf (Some item) → CoverOf (Some (marked marks item))
  same_covers item marks is covers =
      let key = key_of command in
      let old = fresh_classes (need_at (Some item)) (Some item.link) (fate_of key (Some item) ((row_of site n (Some item) command moment).answer rooms.Keep).change) class is in
      let new = fresh_classes (need_at (Some (marked marks item))) (Some item.link)
      (fate_of key (Some (marked marks item)) ((row_of site n (Some (marked marks item)) command moment).answer rooms.Keep).change) class
      (need_marked marks item site n command moment ∙ is) in
      subst (λ (w : Classes). Holds home w.home × Holds other w.other) (sym new) (subst (λ (w : Classes). Holds home w.home × Holds other w.other) old covers)

  pub behind_covers : (found new : Option Item) → IsBehind found new → need_at found ≡ needs.Fresh class → CoverOf found → CoverOf new
  behind_covers None None behind is covers = covers
  behind_covers (Some item) None behind is covers = gone_covers home other site n command moment item class at is
  behind_covers None (Some item) behind is covers = absurd behind
  behind_covers (Some item) (Some later) behind is covers = subst (λ (i : Item). CoverOf (Some i)) (sym behind.1) (same_covers item behind.0 is covers)

-- the same of a stripe
module _ (config : Config) (turn : Turn) (class : ClassNo) (s s_new : Stripe) (site : KeepsSite s s_new) (walk : IsWalked config turn class s s_new) where
  none : (es : List StripeEvent) → AreMadeBy (walker_in config turn.who turn.moment class) es → AreNoCommands es
  none es made = search_no_commands config turn.who turn.moment (needs.Fresh class) es made

  versions_same : (cache_now s_new).versions ≡ (cache_now s).versions
  versions_same =
      ap (λ (t : Site). (cache_of t s_new.history).versions) site.site
      ∙ (ap (λ (h : List StripeEvent). (cache_of s.site h).versions) walk.history_is
      ∙ versions_behind s.site s.history walk.walked (none walk.walked walk.each))

  item_behind : (key : List ℕ) → IsBehind ((cache_now s).items key) ((cache_now s_new).items key)
  item_behind key = by ((cache_now s_new).items key) refl
    where
      moved : (cache_now s_new).items key ≡ item_after s.site (s.history ++ walk.walked) key
      moved = ap (λ (t : Site). (cache_of t s_new.history).items key) site.site ∙ ap (λ (h : List StripeEvent). (cache_of s.site h).items key) walk.history_is

      by : (o : Option Item) → (cache_now s_new).items key ≡ o → IsBehind ((cache_now s).items key) o
      by None is = tt
      by (Some item) is = was_there s.site key item s.history walk.walked (none walk.walked walk.each) (sym moved ∙ is)

  pub suffice_behind : (home other : Option ClassNo) (command : Command) → home ≡ Some class → (row_at s command turn.moment).need ≡ needs.Fresh class
      → Suffice home other s command turn.moment → Suffice home other s_new command turn.moment
  suffice_behind home other command at is suffice =
      let key = key_of command in
      let covers = behind_covers home other s.site (cache_now s).versions command turn.moment class at (item_of s command) (item_of s_new command) (item_behind key) is (suffice.for_version, suffice.for_item) in
      let here = subst (λ (t : Site). Cover home other key (item_of s_new command) (row_of t (cache_now s_new).versions (item_of s_new command) command turn.moment)) (sym site.site)
      (subst (λ (v : ℕ). Cover home other key (item_of s_new command) (row_of s.site v (item_of s_new command) command turn.moment)) (sym versions_same) covers) in
      record {
        alive = searched_alive config turn.who turn.moment (needs.Fresh class) s s_new key walk.walked site walk.each walk.history_is suffice.alive;
        for_version = here.0;
        for_item = here.1;
      }

-- ---- on a stripe under its lock

module _ (table : TableId) (config : Config) (own : StripeSide) (kept : IsLockedStripe table config own) where
  legal_own : IsLegal own.stripe.site own.stripe.history
  legal_own = subst (λ (t : Site). IsLegal t own.stripe.history) (site_of_number config own.stripe kept.made_with) kept.keeps.legal

  -- the class of a dead item's link is one of the store's
  pub dead_class : (key : List ℕ) (moment : ℕ) (link : Link) → dead_link ((cache_now own.stripe).items key) moment ≡ Some link → IsClass (setting_of config) link.class
  dead_class key moment link dead = by ((cache_now own.stripe).items key) refl dead
    where
      by_item : (item : Item) → (cache_now own.stripe).items key ≡ Some item → (b : Bool) → (if b then Some item.link else None) ≡ Some link → IsClass (setting_of config) link.class
      by_item item is true same =
          let at : item.link ≡ link = cc same in
          subst (λ (l : Link). IsClass (setting_of config) l.class) at (item_class config own.stripe kept.made_with legal_own key item is)
      by_item item is false none = absurd (cc none)

      by : (found : Option Item) → (cache_now own.stripe).items key ≡ found → dead_link found moment ≡ Some link → IsClass (setting_of config) link.class
      by None is none = absurd (cc none)
      by (Some item) is same = by_item item is (is_dead item moment) same

  -- so is that of an ACTIVE item's link
  pub active_class : (key : List ℕ) (link : Link) → IsSomeAnd ((cache_now own.stripe).items key) (λ item. (item.link ≡ link) × (item.marks.active ≡ true)) → IsClass (setting_of config) link.class
  active_class key link there = by ((cache_now own.stripe).items key) refl there
    where
      by : (found : Option Item) → (cache_now own.stripe).items key ≡ found → IsSomeAnd found (λ item. (item.link ≡ link) × (item.marks.active ≡ true)) → IsClass (setting_of config) link.class
      by None is none = absurd none
      by (Some item) is same = subst (λ (l : Link). IsClass (setting_of config) l.class) same.0 (item_class config own.stripe kept.made_with legal_own key item is)

  -- so is that of an item, where it is wanted
  pub other_if : (command : Command) (moment : ℕ) (o : Option ClassNo)
      → (classes_for (key_of command) (item_of own.stripe command) (row_at own.stripe command moment)).other ≡ o → IfSome o (λ n. IsClass (setting_of config) n)
  other_if command moment None is = tt
  other_if command moment (Some other) is = other_class config own.stripe kept.made_with legal_own command moment other is

-- that of a new version, where it is wanted
pub home_class : (config : Config) (s : Stripe) → IsStripeOf config s → (command : Command) (moment : ℕ) (class : ClassNo)
    → (classes_for (key_of command) (item_of s command) (row_at s command moment)).home ≡ Some class → IsClass (setting_of config) class
home_class config s made command moment class is =
    fresh_class config s made command moment class
    (home_fresh (row_at s command moment).need (link_of_item (item_of s command)) (fate_of (key_of command) (item_of s command) ((row_at s command moment).answer rooms.Keep).change) class is)

-- that of an item is wanted only where it is another
pub home_apart : (s : Stripe) (command : Command) (moment : ℕ) (wanted : Classes) (class : ClassNo)
    → wanted ≡ classes_for (key_of command) (item_of s command) (row_at s command moment) → wanted.home ≡ Some class → wanted.other ≡ Some class → ⊥
home_apart s command moment wanted class is home other =
    let key = key_of command in
    let fate = fate_of key (item_of s command) ((row_at s command moment).answer rooms.Keep).change in
    let need = home_fresh (row_at s command moment).need (link_of_item (item_of s command)) fate class (ap (λ (w : Classes). w.home) (sym is) ∙ home) in
    let beside = sym (ap (λ (w : Classes). w.other) (fresh_classes (row_at s command moment).need (link_of_item (item_of s command)) fate class need)) ∙ (ap (λ (w : Classes). w.other) (sym is) ∙ other) in
    other_apart key class (link_of_item (item_of s command)) class beside refl

-- only a command that may need a chunk has a row that does
pub fresh_needs : (site : Site) (n : ℕ) (found : Option Item) (command : Command) (moment : ℕ) (class : ClassNo) → (row_of site n found command moment).need ≡ needs.Fresh class → MayNeedChunk command
fresh_needs site n found (Store verb key flags exptime value) moment class is = tt
fresh_needs site n found (Incr key delta) moment class is = tt
fresh_needs site n found (Decr key delta) moment class is = tt
fresh_needs site n None (Gat key exptime) moment class is = absurd (cc is)
fresh_needs site n (Some item) (Gat key exptime) moment class is = absurd (cc is)
fresh_needs site n None (Get key) moment class is = absurd (cc is)
fresh_needs site n (Some item) (Get key) moment class is = absurd (cc is)
fresh_needs site n found (Huge verb key) moment class is = absurd (cc is)
fresh_needs site n None (Touch key exptime) moment class is = absurd (cc is)
fresh_needs site n (Some item) (Touch key exptime) moment class is = absurd (cc is)
fresh_needs site n None (Delete key) moment class is = absurd (cc is)
fresh_needs site n (Some item) (Delete key) moment class is = absurd (cc is)

-- the call of a command that needs a chunk is that of one that may
pub begun_search : (config : Config) (sight : Sight) (who : Who) (command : Command) (moment : ℕ) (s : Stripe) (class : ClassNo) → (row_at s command moment).need ≡ needs.Fresh class
    → HasBegunAs config sight who moment (asked_for command moment) → HasBegunSearch config sight who moment
begun_search config sight who command moment s class is begun =
    record { command = command; needs = fresh_needs s.site (cache_now s).versions (item_of s command) command moment class is; begun = begun }
