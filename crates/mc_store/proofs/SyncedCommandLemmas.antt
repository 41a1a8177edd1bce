-- A stripe and the classes that were lent with it, once each was told the other's history behind a command.
use Rattle.std.proofs.Common.{◌≡◌, ◌≢◌, ◌∷◌, [], ℕ, refl, sym, ap, ◌∙◌, subst, arith}
use Rattle.atomic_table.specs.Seated.{TableId}
use Rattle.mc_item.specs.Stripe.{IsLegal}
use Rattle.mc_item.specs.declared.config.Config.{Config}
use Rattle.mc_rule.specs.Lawful.{IsLawfulHistoryByLists}
use Rattle.mc_evidence.specs.Seen.{classes_seen}
use Rattle.mc_board.specs.Histories.{Grows, list_at, with_seen}
use Rattle.mc_board.specs.declared.rule.Sight.{Sight}
use Rattle.mc_board.proofs.PrefixLemmas.{prefix_self}
use Rattle.mc_segment.specs.ClassState.{ClassView}
use Rattle.mc_stripe.specs.{StripeCalls.KeepsSite, StripeState.Stripe}
use Rattle.mc_pull.specs.{Agreeing.AgreeNow, Perform.Call, Sight.BacksStill, Sight.KeepsSights, Sight.SuitsStill}
use Rattle.mc_pull.specs.Growth as classes
use Rattle.mc_store.proofs.{CallerLemmas.called_sees, LentClassLemmas.IsRefusedIn, LentClassLemmas.apart_tells}
use Rattle.mc_store.specs.{Callers.AreCalled, Locked.IsHeldClass, Locked.IsLockedStripe, Locked.class_lock, Locked.locks_for}
use Rattle.mc_store.specs.{Sides.ClassSide, Sides.StripeSide, Sides.class_told, Sides.stripe_told}
use Rattle.mc_store.proofs.LockKeepsLemmas.{IsHeard, class_after, heard_before, heard_class, heard_stripe, stripe_after}

-- ---- behind a command

module _ (table : TableId) (config : Config) (own : StripeSide) (kept : IsLockedStripe table config own) (s_new : Stripe) (c : Call) (site : KeepsSite own.stripe s_new) (legal : IsLegal s_new.site s_new.history)
    (called : AreCalled (locks_for config) config.callers s_new.site.stripe s_new.history (list_at own.sight.seen)) where
  -- behind what was noted of it more is seen
  called_with : (sight : Sight) → Grows own.sight sight → AreCalled (locks_for config) config.callers s_new.site.stripe s_new.history (list_at sight.seen)
  called_with sight more = called_sees config s_new.site.stripe s_new.history own.sight sight more called

  -- the stripe alone
  pub alone_end : IsRefusedIn c.room [] → KeepsSights c own.stripe s_new [] [] → IsLockedStripe table config (record own { stripe = s_new })
  alone_end refused sight =
      stripe_after table config own (record own { stripe = s_new }) kept refl refl site (record { at = λ lock. prefix_self (list_at own.sight.seen lock) }) legal called [] [] tt
      (apart_tells c own.stripe s_new [] [] refused sight)

  -- a class that was lent, and was told the stripe's history
  pub class_end : (lent : ClassSide) (w : ClassView) → IsHeldClass table config lent → classes.GainsEvents lent.class w → IsLawfulHistoryByLists w.chunks w.rule w.history → AgreeNow w s_new
      → BacksStill own.stripe.site lent.class w → SuitsStill own.stripe.site lent.class w → Grows lent.sight (with_seen lent.sight own.lock (stripe_told s_new.history))
      → IsHeldClass table config (record lent { class = w; sight = with_seen lent.sight own.lock (stripe_told s_new.history) })
  class_end lent w kept_of grows lawful agree backs suits more =
      class_after table config lent (record lent { class = w; sight = with_seen lent.sight own.lock (stripe_told s_new.history) }) kept_of refl refl grows more lawful
      own.stripe s_new kept.made_with site agree (heard_stripe lent.sight own.lock own.stripe.site.stripe s_new.history kept.lock_is) backs suits

  heard_as : (sight : Sight) (lent : ClassSide) (w : ClassView) → IsHeldClass table config lent → classes.GainsEvents lent.class w → AgreeNow w s_new
      → classes_seen config.stripes (list_at sight.seen) w.number ≡ w.history
      → IsHeard config (record own { stripe = s_new; sight = sight }) lent.class w
  heard_as sight lent w kept_of grows agree heard = record {
    number_is = ap (λ (v : ClassView). v.number) grows.same;
    rule_is = ap (λ (v : ClassView). v.rule) grows.same ∙ kept_of.made_with.rule;
    agrees = agree;
    heard = heard;
  }

  -- the lock of a class that was lent is that of its number
  lock_now : (lent : ClassSide) (w : ClassView) → IsHeldClass table config lent → classes.GainsEvents lent.class w → lent.lock ≡ class_lock config w.number
  lock_now lent w kept_of grows = kept_of.lock_is ∙ ap (class_lock config) (sym (ap (λ (v : ClassView). v.number) grows.same))

  module _ (low : ClassSide) (v : ClassView) (kept_low : IsHeldClass table config low) (grows_low : classes.GainsEvents low.class v) where
    abbrev hears_low : Sight
    hears_low = with_seen own.sight low.lock (class_told v.history)

    -- the stripe, told by the one class
    pub one_end : AgreeNow v s_new → IsRefusedIn c.room (low.class ∷ []) → KeepsSights c own.stripe s_new (low.class ∷ []) (v ∷ []) → Grows own.sight hears_low
        → IsLockedStripe table config (record own { stripe = s_new; sight = hears_low })
    one_end agree refused sight more =
        stripe_after table config own (record own { stripe = s_new; sight = hears_low }) kept refl refl site more legal (called_with hears_low more) (low.class ∷ []) (v ∷ [])
        (heard_as hears_low low v kept_low grows_low agree (heard_class config own.sight low.lock v.number v.history (lock_now low v kept_low grows_low)), tt)
        (apart_tells c own.stripe s_new (low.class ∷ []) (v ∷ []) refused sight)

    module _ (high : ClassSide) (w : ClassView) (kept_high : IsHeldClass table config high) (grows_high : classes.GainsEvents high.class w) (away : low.class.number.0 ≢ high.class.number.0) where
      abbrev hears_both : Sight
      hears_both = with_seen hears_low high.lock (class_told w.history)

      locks_apart : low.lock ≢ high.lock
      locks_apart e = away (omega (arith, e, kept_low.lock_is, kept_high.lock_is, kept_low.is.0, kept_high.is.0))

      -- the stripe, told by the lower class and then by the higher
      pub two_end : AgreeNow v s_new → AgreeNow w s_new → IsRefusedIn c.room (low.class ∷ high.class ∷ []) → KeepsSights c own.stripe s_new (low.class ∷ high.class ∷ []) (v ∷ w ∷ []) → Grows own.sight hears_both
          → IsLockedStripe table config (record own { stripe = s_new; sight = hears_both })
      two_end agree agree_high refused sight more =
          let apart : class_lock config v.number ≢ high.lock = subst (λ (k : ℕ). k ≢ high.lock) (lock_now low v kept_low grows_low) locks_apart in
          stripe_after table config own (record own { stripe = s_new; sight = hears_both }) kept refl refl site more legal (called_with hears_both more) (low.class ∷ high.class ∷ []) (v ∷ w ∷ []) (
            heard_as hears_both low v kept_low grows_low agree
                (heard_before config hears_low high.lock v.number w.history apart ∙ heard_class config own.sight low.lock v.number v.history (lock_now low v kept_low grows_low)),
            (heard_as hears_both high w kept_high grows_high agree_high (heard_class config hears_low high.lock w.number w.history (lock_now high w kept_high grows_high)), tt),
          )
          (apart_tells c own.stripe s_new (low.class ∷ high.class ∷ []) (v ∷ w ∷ []) refused sight)
