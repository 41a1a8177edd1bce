-- What lies under the locks is kept: as more is seen, and as a stripe and the classes that are lent with it step.
use Rattle.std.proofs.Common.{◌≡◌, ◌≢◌, ◌<◌, ℕ, List, [], ◌∷◌, sym, ap, ◌∙◌, subst, ⊎_elim, inl, inr}
use Rattle.atomic_table.specs.Seated.{TableId}
use Rattle.mc_item.specs.Stripe.{IsLegal}
use Rattle.mc_item.specs.declared.{answer.Site.Site, class_event.ClassEvent.ClassEvent, config.Config.Config, item.ClassNo.ClassNo}
use Rattle.mc_item.specs.declared.{stripe_event.StripeEvent.StripeEvent}
use Rattle.mc_rule.specs.{Cited.IsSuited, Evidence.IsBacked, Evidence.HasTrace, Lawful.IsLawfulHistoryByLists, Partners.ClearsOnce, Places.Each, Segment.Rule}
use Rattle.mc_rule.specs.{Segment.rule_of}
use Rattle.mc_evidence.specs.{Seen.class_events, Seen.classes_seen, Seen.stripe_events, Seen.stripes_seen, Setting.IsClass, Setting.site_in}
use Rattle.mc_evidence.proofs.{LockLemmas.class_sees_more, LockLemmas.stripe_sees_more, SeenLemmas.class_events-map, SeenLemmas.classes_grow}
use Rattle.mc_evidence.proofs.{SeenLemmas.stripe_events-map, SeenLemmas.stripes_grow}
use Rattle.mc_board.specs.Histories.{Grows, list_at, with_seen}
use Rattle.mc_board.specs.declared.rule.Sight.{Sight}
use Rattle.mc_board.proofs.{PrefixLemmas.prefix_trans, PrefixLemmas.same_or_not, SeenLemmas.list_at_other, SeenLemmas.list_at_same}
use Rattle.mc_segment.specs.ClassState.{ClassView, chunks_for}
use Rattle.mc_stripe.specs.{StripeCalls.KeepsSite, StripeState.Stripe}
use Rattle.mc_pull.specs.{Agreeing.AgreeNow, Agreeing.IsApart, Lent.EachPair, Sight.BacksStill, Sight.SuitsStill, Sight.TellsStill}
use Rattle.mc_pull.specs.Growth as classes
use Rattle.mc_pull.specs.Question as made
use Rattle.mc_pull.proofs.GrowthLemmas.{class_later}
use Rattle.mc_store.proofs.{ShortHistoryLemmas.stripe_made, CallerLemmas.called_sees, LentClassLemmas.IsOneOf, LentClassLemmas.one_or_apart}
use Rattle.mc_store.specs.{Callers.AreCalled, Sides.ClassSide, Sides.StripeSide, Sides.class_told, Sides.stripe_told}
use Rattle.mc_store.specs.Locked.{IsHeldClass, IsLockedStripe, class_lock, locks_for, setting_of}

-- ---- what was seen

-- what was seen grows and grows
pub grows_trans : (a b c : Sight) → Grows a b → Grows b c → Grows a c
grows_trans a b c first more = record { at = λ lock. prefix_trans (list_at a.seen lock) (list_at b.seen lock) (list_at c.seen lock) (first.at lock) (more.at lock) }

-- what a stripe that met classes has seen behind a step: its answer was noted, and it was told of the classes
pub seen_on : (met : StripeSide) (mid noted : Sight) (told last : StripeSide) → mid ≡ met.sight → Grows mid noted → Grows noted told.sight → last ≡ told → Grows met.sight last.sight
seen_on met mid noted told last same noting telling is =
    subst (λ (x : StripeSide). Grows met.sight x.sight) (sym is) (grows_trans met.sight noted told.sight (subst (λ (s : Sight). Grows s noted) same noting) telling)

-- who was told a class's whole history has seen it
pub heard_class : (config : Config) (s : Sight) (lock : ℕ) (class : ClassNo) (es : List ClassEvent) → lock ≡ class_lock config class
    → classes_seen config.stripes (list_at (with_seen s lock (class_told es)).seen) class ≡ es
heard_class config s lock class es at =
    ap (λ (k : ℕ). class_events (list_at (with_seen s lock (class_told es)).seen k)) (sym at)
    ∙ (ap class_events (list_at_same s.seen lock (class_told es)) ∙ class_events-map es)

-- who was told a stripe's whole history has seen it
pub heard_stripe : (s : Sight) (lock number : ℕ) (es : List StripeEvent) → lock ≡ number → stripes_seen (list_at (with_seen s lock (stripe_told es)).seen) number ≡ es
heard_stripe s lock number es at =
    ap (λ (k : ℕ). stripe_events (list_at (with_seen s lock (stripe_told es)).seen k)) (sym at)
    ∙ (ap stripe_events (list_at_same s.seen lock (stripe_told es)) ∙ stripe_events-map es)

-- what was seen of a class is the same after another lock has told its history
pub heard_before : (config : Config) (s : Sight) (lock : ℕ) (class : ClassNo) (es : List ClassEvent) → class_lock config class ≢ lock
    → classes_seen config.stripes (list_at (with_seen s lock (class_told es)).seen) class ≡ classes_seen config.stripes (list_at s.seen) class
heard_before config s lock class es away = ap class_events (list_at_other s.seen lock (class_lock config class) (class_told es) away)

-- a stripe's lock keeps what it keeps while more is seen
pub stripe_sees : (table : TableId) (config : Config) (s : StripeSide) (sight : Sight) → Grows s.sight sight → IsLockedStripe table config s → IsLockedStripe table config (record s { sight = sight })
stripe_sees table config s sight grows kept = record {
  board_is = kept.board_is;
  lock_is = kept.lock_is;
  of = kept.of;
  sound = kept.sound;
  made_with = kept.made_with;
  keeps = stripe_sees_more (setting_of config) s.stripe.site.stripe s.stripe.history (classes_seen config.stripes (list_at s.sight.seen)) (classes_seen config.stripes (list_at sight.seen))
      (classes_grow config.stripes (list_at s.sight.seen) (list_at sight.seen) grows.at) kept.keeps;
  called = called_sees config s.stripe.site.stripe s.stripe.history s.sight sight grows kept.called;
}

-- and so does a class's
pub class_sees : (table : TableId) (config : Config) (s : ClassSide) (sight : Sight) → Grows s.sight sight → IsHeldClass table config s → IsHeldClass table config (record s { sight = sight })
class_sees table config s sight grows kept = record {
  board_is = kept.board_is;
  lock_is = kept.lock_is;
  is = kept.is;
  made_with = kept.made_with;
  keeps = class_sees_more (setting_of config) s.class.number s.class.history (stripes_seen (list_at s.sight.seen)) (stripes_seen (list_at sight.seen))
      (stripes_grow (list_at s.sight.seen) (list_at sight.seen) grows.at) kept.keeps;
}

-- ---- places

-- the site of a stripe is that of its number
pub site_of_number : (config : Config) (s : Stripe) → made.IsStripeOf config s → site_in (setting_of config) s.site.stripe ≡ s.site
site_of_number config s is =
    let stripes : site_in (setting_of config) s.site.stripe ≡ record { stripe = s.site.stripe; stripes = s.site.stripes; sizes = config.sizes }
    = ap (λ (n : ℕ). record { stripe = s.site.stripe; stripes = n; sizes = config.sizes }) (sym is.stripes) in
    stripes ∙ ap (λ (sizes : List ℕ). record { stripe = s.site.stripe; stripes = s.site.stripes; sizes = sizes }) (sym is.sizes)

-- ---- a stripe and a class that were told of each other agree
pub met : (table : TableId) (config : Config) (own : StripeSide) (lent : ClassSide) → IsLockedStripe table config own → IsHeldClass table config lent
    → classes_seen config.stripes (list_at own.sight.seen) lent.class.number ≡ lent.class.history → stripes_seen (list_at lent.sight.seen) own.stripe.site.stripe ≡ own.stripe.history
    → AgreeNow lent.class own.stripe
met table config own lent own_kept lent_kept heard heard_of =
    let at = site_of_number config own.stripe own_kept.made_with in
    let number = own.stripe.site.stripe in
    let class = lent.class.number in
    record {
      evidence = record {
        told = subst (λ (h : List ClassEvent). Each (HasTrace own.stripe.site lent.class.rule class h) own.stripe.history) heard
            (subst (λ (r : Rule). Each (HasTrace own.stripe.site r class (classes_seen config.stripes (list_at own.sight.seen) class)) own.stripe.history) (sym lent_kept.made_with.rule)
            (subst (λ (t : Site). Each (HasTrace t (rule_of config) class (classes_seen config.stripes (list_at own.sight.seen) class)) own.stripe.history) at (own_kept.keeps.told class lent_kept.is)));
        backed = subst (λ (h : List StripeEvent). Each (IsBacked own.stripe.site lent.class.rule class h) lent.class.history) heard_of
            (subst (λ (r : Rule). Each (IsBacked own.stripe.site r class (stripes_seen (list_at lent.sight.seen) number)) lent.class.history) (sym lent_kept.made_with.rule)
            (subst (λ (t : Site). Each (IsBacked t (rule_of config) class (stripes_seen (list_at lent.sight.seen) number)) lent.class.history) at (lent_kept.keeps.backed number own_kept.of)));
      };
      suited = subst (λ (h : List StripeEvent). Each (IsSuited own.stripe.site class h) lent.class.history) heard_of
          (subst (λ (t : Site). Each (IsSuited t class (stripes_seen (list_at lent.sight.seen) number)) lent.class.history) at (lent_kept.keeps.suited number own_kept.of));
      once = lent_kept.keeps.once;
    }

-- ---- a stripe that stepped with the classes that it was lent with

-- a class that was lent has the rule of all, agrees with the stripe now, and has told it its history
pub record IsHeard (config : Config) (own : StripeSide) (v w : ClassView) : Type 0 where
  pub number_is : w.number ≡ v.number
  pub rule_is : w.rule ≡ rule_of config
  pub agrees : AgreeNow w own.stripe
  pub heard : classes_seen config.stripes (list_at own.sight.seen) w.number ≡ w.history

module _ (table : TableId) (config : Config) (own own_new : StripeSide) (kept : IsLockedStripe table config own) (board : own_new.board ≡ own.board) (lock : own_new.lock ≡ own.lock)
    (site : KeepsSite own.stripe own_new.stripe) (more : Grows own.sight own_new.sight) (legal : IsLegal own_new.stripe.site own_new.stripe.history)
    (called : AreCalled (locks_for config) config.callers own_new.stripe.site.stripe own_new.stripe.history (list_at own_new.sight.seen)) where
  abbrev seen_now : ClassNo → List ClassEvent
  seen_now = classes_seen config.stripes (list_at own_new.sight.seen)

  now_is : made.IsStripeOf config own_new.stripe
  now_is = stripe_made config own.stripe own_new.stripe site kept.made_with

  at : site_in (setting_of config) own_new.stripe.site.stripe ≡ own_new.stripe.site
  at = site_of_number config own_new.stripe now_is

  -- the classes that are apart tell its events still
  told_apart : (class : ClassNo) → IsClass (setting_of config) class → TellsStill own.stripe own_new.stripe (rule_of config) class (seen_now class)
      → Each (HasTrace own.stripe.site (rule_of config) class (seen_now class)) own_new.stripe.history
  told_apart class is tells =
      tells (subst (λ (t : Site). Each (HasTrace t (rule_of config) class (seen_now class)) own.stripe.history) (site_of_number config own.stripe kept.made_with)
      ((stripe_sees table config own own_new.sight more kept).keeps.told class is))

  -- those that were lent tell them, as they agree with it
  told_lent : (class : ClassNo) (vs ws : List ClassView) → EachPair (IsHeard config own_new) vs ws → IsOneOf class vs → Each (HasTrace own.stripe.site (rule_of config) class (seen_now class)) own_new.stripe.history
  told_lent class [] ws each one = absurd one
  told_lent class (v ∷ vs) [] each one = absurd each
  told_lent class (v ∷ vs) (w ∷ ws) each (inl e) =
      subst (λ (n : ClassNo). Each (HasTrace own.stripe.site (rule_of config) n (seen_now n)) own_new.stripe.history) (each.0.number_is ∙ sym e)
      (subst (λ (h : List ClassEvent). Each (HasTrace own.stripe.site (rule_of config) w.number h) own_new.stripe.history) (sym each.0.heard)
      (subst (λ (r : Rule). Each (HasTrace own.stripe.site r w.number w.history) own_new.stripe.history) each.0.rule_is
      (subst (λ (t : Site). Each (HasTrace t w.rule w.number w.history) own_new.stripe.history) site.site each.0.agrees.evidence.told)))
  told_lent class (v ∷ vs) (w ∷ ws) each (inr one) = told_lent class vs ws each.1 one

  pub stripe_after : (vs ws : List ClassView) → EachPair (IsHeard config own_new) vs ws
      → ((other : ClassNo) (rule : Rule) (seen : List ClassEvent) → IsApart other vs → TellsStill own.stripe own_new.stripe rule other seen) → IsLockedStripe table config own_new
  stripe_after vs ws each apart = record {
    board_is = board ∙ kept.board_is;
    lock_is = lock ∙ (kept.lock_is ∙ ap (λ (t : Site). t.stripe) (sym site.site));
    of = subst (λ (t : Site). t.stripe < config.stripes) (sym site.site) kept.of;
    sound = kept.sound;
    made_with = now_is;
    keeps = record {
      legal = subst (λ (t : Site). IsLegal t own_new.stripe.history) (sym at) legal;
      told = λ class is. subst (λ (t : Site). Each (HasTrace t (rule_of config) class (seen_now class)) own_new.stripe.history) (sym (at ∙ site.site))
          (⊎_elim (told_lent class vs ws each) (λ (away : IsApart class vs). told_apart class is (apart class (rule_of config) (seen_now class) away)) (one_or_apart class vs));
    };
    called = called;
  }

-- ---- a class that stepped

-- what a class's lock keeps of one stripe
abbrev Bears : Site → Rule → ClassNo → List StripeEvent → List ClassEvent → Type 0
Bears site rule class seen history = Each (IsBacked site rule class seen) history × Each (IsSuited site class seen) history

module _ (table : TableId) (config : Config) (lent lent_new : ClassSide) (kept : IsHeldClass table config lent) (board : lent_new.board ≡ lent.board) (lock : lent_new.lock ≡ lent.lock)
    (grows : classes.GainsEvents lent.class lent_new.class) (more : Grows lent.sight lent_new.sight) (lawful : IsLawfulHistoryByLists lent_new.class.chunks lent_new.class.rule lent_new.class.history) where
  abbrev seen_of : ℕ → List StripeEvent
  seen_of = stripes_seen (list_at lent_new.sight.seen)

  now_of : made.IsClassOf config lent_new.class
  now_of = class_later config lent.class lent_new.class kept.made_with grows

  number_is : lent_new.class.number ≡ lent.class.number
  number_is = ap (λ (v : ClassView). v.number) grows.same

  -- what it kept of a stripe before, with what it has seen now
  bore : (n : ℕ) → n < config.stripes → Bears (site_in (setting_of config) n) lent.class.rule lent.class.number (seen_of n) lent.class.history
  bore n of =
      let before = class_sees table config lent lent_new.sight more kept in
      (subst (λ (r : Rule). Each (IsBacked (site_in (setting_of config) n) r lent.class.number (seen_of n)) lent.class.history) (sym kept.made_with.rule) (before.keeps.backed n of), before.keeps.suited n of)

  pub class_put : Each ClearsOnce lent_new.class.history
      → ((n : ℕ) → n < config.stripes → Bears (site_in (setting_of config) n) lent.class.rule lent.class.number (seen_of n) lent_new.class.history) → IsHeldClass table config lent_new
  class_put once bears =
      let rule : lent.class.rule ≡ rule_of config = kept.made_with.rule in
      let chunks = subst (λ (n : ℕ). IsLawfulHistoryByLists n lent_new.class.rule lent_new.class.history) now_of.chunks lawful in
      record {
        board_is = board ∙ kept.board_is;
        lock_is = lock ∙ (kept.lock_is ∙ ap (class_lock config) (sym number_is));
        is = subst (IsClass (setting_of config)) (sym number_is) kept.is;
        made_with = now_of;
        keeps = record {
          lawful = subst (λ (r : Rule). IsLawfulHistoryByLists (chunks_for config lent_new.class.number) r lent_new.class.history) now_of.rule chunks;
          once = once;
          backed = λ n of. subst (λ (k : ClassNo). Each (IsBacked (site_in (setting_of config) n) (rule_of config) k (seen_of n)) lent_new.class.history) (sym number_is)
              (subst (λ (r : Rule). Each (IsBacked (site_in (setting_of config) n) r lent.class.number (seen_of n)) lent_new.class.history) rule (bears n of).0);
          suited = λ n of. subst (λ (k : ClassNo). Each (IsSuited (site_in (setting_of config) n) k (seen_of n)) lent_new.class.history) (sym number_is) (bears n of).1;
        };
      }

  -- a step of the class alone, of which no stripe is asked anything
  pub class_alone : Each ClearsOnce lent_new.class.history
      → ((t : Site) (seen : List StripeEvent) → Bears t lent.class.rule lent.class.number seen lent.class.history
      → Bears t lent.class.rule lent.class.number seen lent_new.class.history) → IsHeldClass table config lent_new
  class_alone once still = class_put once (λ n of. still (site_in (setting_of config) n) (seen_of n) (bore n of))

  -- a step with a stripe, which was told to the class behind it
  module _ (s s_new : Stripe) (is : made.IsStripeOf config s) (site : KeepsSite s s_new) (agree : AgreeNow lent_new.class s_new) (heard_of : seen_of s.site.stripe ≡ s_new.history) where
    bears_lent : Bears (site_in (setting_of config) s.site.stripe) lent.class.rule lent.class.number (seen_of s.site.stripe) lent_new.class.history
    bears_lent =
        let rule : lent_new.class.rule ≡ lent.class.rule = ap (λ (v : ClassView). v.rule) grows.same in
        subst (λ (t : Site). Bears t lent.class.rule lent.class.number (seen_of s.site.stripe) lent_new.class.history) (site.site ∙ sym (site_of_number config s is))
        (subst (λ (r : Rule). Bears s_new.site r lent.class.number (seen_of s.site.stripe) lent_new.class.history) rule
        (subst (λ (k : ClassNo). Bears s_new.site lent_new.class.rule k (seen_of s.site.stripe) lent_new.class.history) number_is
        (subst (λ (h : List StripeEvent). Bears s_new.site lent_new.class.rule lent_new.class.number h lent_new.class.history) (sym heard_of) (agree.evidence.backed, agree.suited))))

    pub class_after : BacksStill s.site lent.class lent_new.class → SuitsStill s.site lent.class lent_new.class → IsHeldClass table config lent_new
    class_after backs suits = class_put agree.once (λ n of. ⊎_elim
        (λ (e : n ≡ s.site.stripe). subst (λ (k : ℕ). Bears (site_in (setting_of config) k) lent.class.rule lent.class.number (seen_of k) lent_new.class.history) (sym e) bears_lent)
        (λ (away : n ≢ s.site.stripe).
        let t = site_in (setting_of config) n in
        (backs t (seen_of n) (sym is.stripes) away (bore n of).0, suits t (seen_of n) (sym is.stripes) away (bore n of).1))
        (same_or_not n s.site.stripe))
