-- A closed store is sound: each state keeps what its lock kept, and what it has seen of each other begins that one's history.
use Rattle.std.proofs.Common.{◌≡◌, ◌<◌, ◌-◌, ℕ, List, Option, Some, None, slice_get, sym, ap, ◌∙◌, subst, arith}
use mathlib.Core.List.{IsPrefix}
use Rattle.atomic_table.specs.Seated.{TableId}
use Rattle.mc_item.specs.declared.{class_event.ClassEvent.ClassEvent, config.Config.Config, event.Event.Event, item.ClassNo.ClassNo}
use Rattle.mc_item.specs.declared.{stripe_event.StripeEvent.StripeEvent}
use Rattle.mc_board.specs.declared.rule.Sight.{Sight}
use Rattle.mc_board.specs.Histories.{blind, list_at}
use Rattle.mc_evidence.specs.{Locks.ClassKeeps, Locks.StripeKeeps, Seen.class_events, Seen.classes_seen, Seen.stripe_events, Seen.stripes_seen, Setting.IsClass}
use Rattle.mc_evidence.specs.{Sound.IsSoundStore}
use Rattle.mc_evidence.proofs.{SeenLemmas.class_events-map, SeenLemmas.classes_grow, SeenLemmas.stripe_events-map, SeenLemmas.stripes_grow}
use Rattle.mc_evidence.proofs.{SoundLemmas.entry_in, SoundLemmas.item_in, SoundLemmas.locks_sound, SoundLemmas.once_in}
use Rattle.mc_store.specs.Finals.{AreClasses, AreExactlyEntries, AreStripes, IsBehindClasses, IsBehindStripes, class_histories, class_history, stripe_histories, stripe_history}
use Rattle.mc_store.specs.{Locked.class_lock, Locked.setting_of, Sides.ClassSide, Sides.StripeSide, Sides.class_told, Sides.stripe_told}
use Rattle.mc_store.proofs.NumberOrderLemmas.{get_some}

-- what a stripe that is there has seen
abbrev stripe_sight : Option StripeSide → Sight
stripe_sight None = blind
stripe_sight (Some s) = s.sight

-- what a class that is there has seen
abbrev class_sight : Option ClassSide → Sight
class_sight None = blind
class_sight (Some s) = s.sight

-- what begins a class's history on the board shows a beginning of it
class_begins : (list : List Event) (es : List ClassEvent) → IsPrefix list (class_told es) → IsPrefix (class_events list) es
class_begins list es p = subst (IsPrefix (class_events list)) (class_events-map es) (classes_grow 0 (λ lock. list) (λ lock. class_told es) (λ lock. p) (record { 0 = 0 }))

-- and of a stripe's
pub stripe_begins : (list : List Event) (es : List StripeEvent) → IsPrefix list (stripe_told es) → IsPrefix (stripe_events list) es
stripe_begins list es p = subst (IsPrefix (stripe_events list)) (stripe_events-map es) (stripes_grow (λ lock. list) (λ lock. stripe_told es) (λ lock. p) 0)

module _ (table : TableId) (config : Config) (some : 0 < config.stripes) (stripes : List StripeSide) (classes : List ClassSide) (all : AreStripes table config stripes) (all_classes : AreClasses table config classes)
    (behind : (k : ℕ) (s : StripeSide) → slice_get stripes k ≡ Some s → IsBehindClasses s.sight classes) (behind_of : (k : ℕ) (s : ClassSide) → slice_get classes k ≡ Some s → IsBehindStripes s.sight stripes) where
  stripe_there : (s : ℕ) → s < config.stripes → (x : StripeSide) × (slice_get stripes s ≡ Some x)
  stripe_there s of = get_some stripes s (omega (arith, of, all.many))

  class_there : (class : ClassNo) → IsClass (setting_of config) class → (x : ClassSide) × (slice_get classes (class.0 - 1) ≡ Some x)
  class_there class is = get_some classes (class.0 - 1) (omega (arith, is.0, is.1, all_classes.many))

  number_is : (class : ClassNo) (is : IsClass (setting_of config) class) → (class_there class is).0.class.number ≡ class
  number_is class is =
      let at = (all_classes.each (class.0 - 1) (class_there class is).0 (class_there class is).1).number_is in
      let same : (class_there class is).0.class.number.0 ≡ class.0 = at ∙ omega (arith, is.0) in
      ap (λ (n : ℕ). record { 0 = n }) same

  stripe_kept : (s : ℕ) → s < config.stripes → StripeKeeps (setting_of config) s (stripe_histories stripes s) (classes_seen config.stripes (list_at (stripe_sight (slice_get stripes s)).seen))
  unfolding stripe_there
  stripe_kept s of =
      let g = stripe_there s of in
      let under = all.each s g.0 g.1 in
      subst (λ (o : Option StripeSide). StripeKeeps (setting_of config) s (stripe_history o) (classes_seen config.stripes (list_at (stripe_sight o).seen))) (sym g.1)
      (subst (λ (k : ℕ). StripeKeeps (setting_of config) k g.0.stripe.history (classes_seen config.stripes (list_at g.0.sight.seen))) under.number_is under.kept.keeps)

  class_kept : (class : ClassNo) → IsClass (setting_of config) class → ClassKeeps (setting_of config) class (class_histories classes class) (stripes_seen (list_at (class_sight (slice_get classes (class.0 - 1))).seen))
  unfolding class_there
  class_kept class is =
      let g = class_there class is in
      let under = all_classes.each (class.0 - 1) g.0 g.1 in
      subst (λ (o : Option ClassSide). ClassKeeps (setting_of config) class (class_history o) (stripes_seen (list_at (class_sight o).seen))) (sym g.1)
      (subst (λ (k : ClassNo). ClassKeeps (setting_of config) k g.0.class.history (stripes_seen (list_at g.0.sight.seen))) (number_is class is) under.kept.held.keeps)

  stripe_saw : (s : ℕ) (class : ClassNo) → s < config.stripes → IsClass (setting_of config) class
      → IsPrefix (classes_seen config.stripes (list_at (stripe_sight (slice_get stripes s)).seen) class) (class_histories classes class)
  unfolding stripe_there class_there
  stripe_saw s class of is =
      let g = stripe_there s of in
      let h = class_there class is in
      let lock : h.0.lock ≡ class_lock config class = (all_classes.each (class.0 - 1) h.0 h.1).kept.held.lock_is ∙ ap (class_lock config) (number_is class is) in
      let p = ((behind s g.0 g.1).each (class.0 - 1) h.0 h.1).seen in
      subst (λ (o : Option StripeSide). IsPrefix (classes_seen config.stripes (list_at (stripe_sight o).seen) class) (class_histories classes class)) (sym g.1)
      (subst (λ (o : Option ClassSide). IsPrefix (classes_seen config.stripes (list_at g.0.sight.seen) class) (class_history o)) (sym h.1)
      (class_begins (list_at g.0.sight.seen (class_lock config class)) h.0.class.history (subst (λ (k : ℕ). IsPrefix (list_at g.0.sight.seen k) (class_told h.0.class.history)) lock p)))

  class_saw : (s : ℕ) (class : ClassNo) → s < config.stripes → IsClass (setting_of config) class
      → IsPrefix (stripes_seen (list_at (class_sight (slice_get classes (class.0 - 1))).seen) s) (stripe_histories stripes s)
  unfolding stripe_there class_there
  class_saw s class of is =
      let g = stripe_there s of in
      let h = class_there class is in
      let under = all.each s g.0 g.1 in
      let lock : g.0.lock ≡ s = under.kept.lock_is ∙ under.number_is in
      let p = ((behind_of (class.0 - 1) h.0 h.1).each s g.0 g.1).seen in
      subst (λ (o : Option ClassSide). IsPrefix (stripes_seen (list_at (class_sight o).seen) s) (stripe_histories stripes s)) (sym h.1)
      (subst (λ (o : Option StripeSide). IsPrefix (stripes_seen (list_at h.0.sight.seen) s) (stripe_history o)) (sym g.1)
      (stripe_begins (list_at h.0.sight.seen s) g.0.stripe.history (subst (λ (k : ℕ). IsPrefix (list_at h.0.sight.seen k) (stripe_told g.0.stripe.history)) lock p)))

  -- the whole store
  pub closed_sound : IsSoundStore (setting_of config) (stripe_histories stripes) (class_histories classes)
  closed_sound =
      locks_sound (setting_of config) (stripe_histories stripes) (class_histories classes)
      (λ s. classes_seen config.stripes (list_at (stripe_sight (slice_get stripes s)).seen)) (λ class. stripes_seen (list_at (class_sight (slice_get classes (class.0 - 1))).seen))
      some stripe_kept class_kept (λ s class of is. record { class = stripe_saw s class of is; stripe = class_saw s class of is })

  -- its items are exactly its entries
  pub closed_entries : AreExactlyEntries (setting_of config) (stripe_histories stripes) (class_histories classes)
  closed_entries =
      record {
        items = entry_in (setting_of config) (stripe_histories stripes) (class_histories classes) closed_sound;
        entries = item_in (setting_of config) (stripe_histories stripes) (class_histories classes) closed_sound;
        once = once_in (setting_of config) (stripe_histories stripes) (class_histories classes) closed_sound;
      }
