-- A command that ends with `HistoryFull`: what it lacks as more is seen, on a stripe that stands for another, and in other words.
use Rattle.std.proofs.Common.{◌≡◌, ◌<◌, ◌≤◌, ◌++◌, ◌⊎◌, ℕ, List, inl, inr, length, ap, ◌∙◌, refl, subst, sym, arith, ⊎_elim}
use Rattle.std.specs.Prelude.{Option, Some, None}
use mathlib.Core.List.{IsPrefix}
use Rattle.atomic_table.specs.Seated.{TableId}
use Rattle.mc_item.specs.{Answer.Row, Cache.visible_items, Command.key_of, Stripe.IsAlive}
use Rattle.mc_item.specs.declared.{command.Command.Command, config.Config.Config, event.Event.Event, item.ClassNo.ClassNo, item.Item.Item, item.Link.Link}
use Rattle.mc_item.specs.declared.item.Who.{Who}
use Rattle.mc_item.specs.declared.answer.Need.TheVariants as needs
use Rattle.mc_item.specs.declared.event.Event.TheVariants as events
use Rattle.mc_rule.specs.Lists.{IsFull}
use Rattle.mc_board.specs.Histories.{Grows, list_at}
use Rattle.mc_board.specs.declared.rule.Sight.{Sight}
use Rattle.mc_board.proofs.PrefixLemmas.{prefix_length, prefix_self, prefix_trans}
use Rattle.mc_stripe.specs.{Plan.dead_link, Plan.fate_of, Plan.visible_row, StripeCalls.KeepsSite, StripeState.Stripe, StripeState.cache_now, Trying.item_of, Trying.row_at}
use Rattle.mc_stripe.specs.Wanting.{changes_at}
use Rattle.mc_segment.specs.ClassState.{ClassView}
use Rattle.mc_pull.specs.Growth.{GainsEvents}
use Rattle.mc_store.specs.Searches.{HasSeenOf}
use Rattle.mc_store.specs.Full.{HasSeenFull, IsFullFor, IsRoomOf, LacksEntries, LacksPlaces}
use Rattle.mc_store.specs.{Commands.burial, Locked.IsHeldClass, Locked.class_lock, Serving.HasSeenShort, Serving.IsShortFor, Sides.ClassSide, Sides.class_told, Sides.stripe_told}
use Rattle.mc_store.proofs.CommandLemmas.{buried_alive, buried_row, buried_visible, changes_two, dead_same, fresh_visible, not_dead, row_same, visible_same}
use Rattle.mc_store.proofs.{ShortHistoryLemmas.short_grows, ShortHistoryLemmas.short_lock, ShortHistoryLemmas.two_short, SyncedStepLemmas.any_short, SyncedStepLemmas.class_told_more, SyncedStepLemmas.map_length}

-- ---- as more is seen

pub lacks_grows : (config : Config) (a b : Sight) {class : ClassNo} {events : ℕ} → Grows a b → LacksPlaces config a class events → LacksPlaces config b class events
lacks_grows config a b {class = class} {events = events} grows lacks = record {
  is = lacks.is;
  short =
      let lock = class_lock config class in
      let longer = prefix_length (list_at a.seen lock) (list_at b.seen lock) (grows.at lock) in
      let was = lacks.short in
      omega (arith, longer, was);
}

pub seen_full_grows : (config : Config) (a b : Sight) {class : ClassNo} → Grows a b → HasSeenFull config a class → HasSeenFull config b class
seen_full_grows config a b {class = class} grows was = record {
  before = was.before;
  seen =
      let lock = class_lock config class in prefix_trans (class_told was.before) (list_at a.seen lock) (list_at b.seen lock) was.seen (grows.at lock);
  full = was.full;
}

pub entries_grow : (config : Config) (s : Stripe) (a b : Sight) (command : Command) (moment : ℕ) → Grows a b → LacksEntries config s a command moment → LacksEntries config s b command moment
entries_grow config s a b command moment grows entries =
    record { class = entries.class; room = entries.room; fits = entries.fits; lacks = lacks_grows config a b grows entries.lacks }

pub full_grows : (config : Config) (s s_new : Stripe) (a b : Sight) (command : Command) (moment : ℕ) → Grows a b → IsFullFor config s s_new a command moment → IsFullFor config s s_new b command moment
full_grows config s s_new a b command moment grows (inl full) = inl full
full_grows config s s_new a b command moment grows (inr (inl burial)) =
    inr (inl (record { link = burial.link; dead = burial.dead; lacks = ⊎_elim (λ own. inl own) (λ of. inr (lacks_grows config a b grows of)) burial.lacks }))
full_grows config s s_new a b command moment grows (inr (inr (inl entries))) =
    inr (inr (inl (entries_grow config s a b command moment grows entries)))
full_grows config s s_new a b command moment grows (inr (inr (inr search))) =
    inr (inr (inr (record {
      class = search.class;
      fresh = search.fresh;
      full = seen_full_grows config a b grows search.full;
      short = ⊎_elim (λ short. inl (short_grows config a b grows short)) (λ entries. inr (entries_grow config s_new a b command moment grows entries)) search.short;
    })))

-- who has seen what a class became has seen what it was
pub seen_before : (config : Config) (sight : Sight) (class : ClassNo) (v w : ClassView) → GainsEvents v w → HasSeenOf config sight class w.history → HasSeenOf config sight class v.history
seen_before config sight class v w grows seen =
    prefix_trans (class_told v.history) (class_told w.history) (list_at sight.seen (class_lock config class)) (class_told_more v w (class_told v.history) grows refl) seen

-- ---- on a stripe that stands for another

-- what a command lacks for entries, where its item and its row are the same
pub entries_moved : (config : Config) (s mid : Stripe) (sight : Sight) (command : Command) (moment : ℕ)
    → visible_items (cache_now mid) moment (key_of command) ≡ visible_items (cache_now s) moment (key_of command) → visible_row mid command moment ≡ visible_row s command moment
    → LacksEntries config mid sight command moment → LacksEntries config s sight command moment
entries_moved config s mid sight command moment item row entries = record {
  class = entries.class;
  room = entries.room;
  fits = subst (λ (r : Row). IsRoomOf r.need entries.room) row entries.fits;
  lacks = subst (λ (r : Row). LacksPlaces config sight entries.class
      (changes_at entries.class entries.room (fate_of (key_of command) (visible_items (cache_now s) moment (key_of command)) (r.answer entries.room).change))) row
      (subst (λ (o : Option Item). LacksPlaces config sight entries.class
      (changes_at entries.class entries.room (fate_of (key_of command) o ((visible_row mid command moment).answer entries.room).change))) item entries.lacks);
}

-- and so where a stripe has the same history later
pub entries_later : (config : Config) (s s_new : Stripe) (sight : Sight) (command : Command) (moment : ℕ) → KeepsSite s s_new → s_new.history ≡ s.history
    → LacksEntries config s sight command moment → LacksEntries config s_new sight command moment
entries_later config s s_new sight command moment site same =
    entries_moved config s_new s sight command moment (sym (visible_same command moment s s_new site same)) (sym (row_same command moment s s_new site same))

module _ (config : Config) (s mid s_new : Stripe) (sight : Sight) (command : Command) (moment : ℕ)
    (dead : (link : Link) → dead_link (item_of mid command) moment ≡ Some link → dead_link (item_of s command) moment ≡ Some link)
    (item : visible_items (cache_now mid) moment (key_of command) ≡ visible_items (cache_now s) moment (key_of command))
    (row : visible_row mid command moment ≡ visible_row s command moment) where
  full_moved : IsFullFor config mid s_new sight command moment → IsFullFor config s s_new sight command moment
  full_moved (inl full) = inl full
  full_moved (inr (inl burial)) = inr (inl (record { link = burial.link; dead = dead burial.link burial.dead; lacks = burial.lacks }))
  full_moved (inr (inr (inl entries))) = inr (inr (inl (entries_moved config s mid sight command moment item row entries)))
  full_moved (inr (inr (inr search))) =
      inr (inr (inr (record { class = search.class; fresh = ap (λ (r : Row). r.need) (sym row) ∙ search.fresh; full = search.full; short = search.short })))

-- of the same history
pub full_same : (config : Config) (s mid s_new : Stripe) (sight : Sight) (command : Command) (moment : ℕ) → KeepsSite s mid → mid.history ≡ s.history
    → IsFullFor config mid s_new sight command moment → IsFullFor config s s_new sight command moment
full_same config s mid s_new sight command moment site same =
    full_moved config s mid s_new sight command moment (λ link is. dead_same command moment s mid site same ∙ is) (visible_same command moment s mid site same) (row_same command moment s mid site same)

-- behind the burial of its key's dead item
pub full_buried : (config : Config) (who : Who) (s mid s_new : Stripe) (sight : Sight) (command : Command) (moment : ℕ) → (site : KeepsSite s mid)
    → mid.history ≡ s.history ++ burial who (key_of command) moment (dead_link ((cache_now s).items (key_of command)) moment)
    → IsFullFor config mid s_new sight command moment → IsFullFor config s s_new sight command moment
full_buried config who s mid s_new sight command moment site buried =
    full_moved config s mid s_new sight command moment
    (λ link is. absurd (none_some (sym (not_dead (item_of mid command) moment (buried_alive s mid who command moment site buried)) ∙ is)))
    (buried_visible s mid who command moment site buried) (buried_row s mid who command moment site buried)
  where
    none_some : {A : Type 0} {a : A} → None ≡ Some a → ⊥
    none_some is = cc is

-- ---- in other words

-- a class whose whole history was seen, and is full
pub full_class : (table : TableId) (config : Config) (side : ClassSide) (sight : Sight) → IsHeldClass table config side → list_at sight.seen side.lock ≡ class_told side.class.history
    → IsFull side.class.chunks side.class.history → HasSeenFull config sight side.class.number
full_class table config side sight kept told full = record {
  before = side.class.history;
  seen =
      let at : list_at sight.seen (class_lock config side.class.number) ≡ class_told side.class.history = ap (λ (n : ℕ). list_at sight.seen n) (sym kept.lock_is) ∙ told in
      subst (λ (l : List Event). IsPrefix (class_told side.class.history) l) (sym at) (prefix_self (class_told side.class.history));
  full = subst (λ (n : ℕ). IsFull n side.class.history) kept.made_with.chunks full;
}

-- a search of a full class, which a command needs that finds no dead item
pub full_search : (config : Config) (s s_new : Stripe) (sight : Sight) (command : Command) (moment : ℕ) (class : ClassNo) → IsAlive (item_of s command) moment
    → (row_at s command moment).need ≡ needs.Fresh class → HasSeenFull config sight class → IsShortFor config class sight ⊎ LacksEntries config s_new sight command moment
    → IsFullFor config s s_new sight command moment
full_search config s s_new sight command moment class alive fresh full short =
    inr (inr (inr (record { class = class; fresh = fresh_visible s command moment class alive fresh; full = full; short = short })))

-- where a command lacks places for entries, a short history was seen
pub entries_short : (config : Config) (s : Stripe) (sight : Sight) (command : Command) (moment : ℕ) → LacksEntries config s sight command moment → HasSeenShort config sight
entries_short config s sight command moment entries =
    let fate = fate_of (key_of command) (visible_items (cache_now s) moment (key_of command)) ((visible_row s command moment).answer entries.room).change in
    let few = changes_two entries.class entries.room fate in
    let lacks = entries.lacks in
    let short = lacks.short in
    two_short config sight entries.class (record { is = lacks.is; short = omega (arith, few, short) })

-- and so it was wherever a command ended with `HistoryFull`
pub full_short : (config : Config) (number : ℕ) (s s_new : Stripe) (sight : Sight) (command : Command) (moment : ℕ) → number < config.stripes → s_new.limit ≡ config.max_events
    → list_at sight.seen number ≡ stripe_told s_new.history → IsFullFor config s s_new sight command moment → HasSeenShort config sight
full_short config number s s_new sight command moment of limit told = by
  where
    long : length (list_at sight.seen number) ≡ length s_new.history
    long = ap (λ (l : List Event). length l) told ∙ map_length events.Stripe s_new.history

    own : s_new.limit ≤ length s_new.history → HasSeenShort config sight
    own full = record { lock = number; of = omega (arith, of); short = omega (arith, long, limit, full); stripe = λ own. omega (arith, long, limit, full) }

    by : IsFullFor config s s_new sight command moment → HasSeenShort config sight
    by (inl full) = own full
    by (inr (inl burial)) = ⊎_elim own (λ class. short_lock config sight (any_short config sight class)) burial.lacks
    by (inr (inr (inl entries))) = entries_short config s sight command moment entries
    by (inr (inr (inr search))) =
        ⊎_elim (λ short. short_lock config sight short) (λ entries. entries_short config s_new sight command moment entries) search.short
