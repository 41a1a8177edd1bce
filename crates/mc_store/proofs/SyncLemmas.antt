-- A stripe and a class that tell each other their histories.
use Rattle.std.proofs.Common.{◌≡◌, sym, ◌∙◌, subst}
use Rattle.atomic_table.specs.Seated.{TableId}
use Rattle.mc_item.specs.declared.config.Config.{Config}
use Rattle.mc_board.specs.Histories.{Grows, with_seen}
use Rattle.mc_board.specs.declared.rule.Sight.{Sight}
use Rattle.mc_pull.specs.Agreeing.{AgreeNow}
use Rattle.mc_store.specs.{Locked.IsLockedClass, Locked.IsLockedStripe, Sides.ClassSide, Sides.StripeSide, Sides.class_told, Sides.stripe_told}
use Rattle.mc_store.proofs.{OwnEventLemmas.locked_sees, LockKeepsLemmas.heard_class, LockKeepsLemmas.heard_stripe, LockKeepsLemmas.met, LockKeepsLemmas.stripe_sees}

-- first the stripe is told, then the class
module _ (table : TableId) (config : Config) (own own_first own_new : StripeSide) (lent lent_first lent_new : ClassSide) (kept : IsLockedStripe table config own) (kept_of : IsLockedClass table config lent)
    (same_of : lent_first ≡ lent) (told : own_first ≡ record own { sight = with_seen own.sight lent.lock (class_told lent.class.history) }) (more : Grows own.sight own_first.sight)
    (same : own_new ≡ own_first) (told_of : lent_new ≡ record lent_first {
      sight =
          with_seen lent_first.sight own_first.lock (stripe_told own_first.stripe.history);
    }) (more_of : Grows lent_first.sight lent_new.sight) where
  abbrev hears : Sight
  hears = with_seen own.sight lent.lock (class_told lent.class.history)

  stripe_now : own_new ≡ record own { sight = hears }
  stripe_now = same ∙ told

  pub meet_stripe : IsLockedStripe table config own_new
  meet_stripe = subst (IsLockedStripe table config) (sym stripe_now) (stripe_sees table config own hears (subst (λ (s : StripeSide). Grows own.sight s.sight) told more) kept)

  abbrev hears_of : Sight
  hears_of = with_seen lent.sight own.lock (stripe_told own.stripe.history)

  class_now : lent_new ≡ record lent { sight = hears_of }
  class_now = subst (λ (s : StripeSide). lent_new ≡ record lent { sight = with_seen lent.sight s.lock (stripe_told s.stripe.history) }) told
      (subst (λ (s : ClassSide). lent_new ≡ record s { sight = with_seen s.sight own_first.lock (stripe_told own_first.stripe.history) }) same_of told_of)

  pub meet_class : IsLockedClass table config lent_new
  meet_class = subst (IsLockedClass table config) (sym class_now)
      (locked_sees table config lent hears_of (subst (λ (s : ClassSide). Grows lent.sight s.sight) class_now (subst (λ (s : ClassSide). Grows s.sight lent_new.sight) same_of more_of)) kept_of)

  pub meet_agree : AgreeNow lent_new.class own_new.stripe
  meet_agree =
      subst (λ (s : StripeSide). AgreeNow lent_new.class s.stripe) (sym stripe_now)
      (subst (λ (s : ClassSide). AgreeNow s.class own.stripe) (sym class_now)
      (met table config (record own { sight = hears }) (record lent { sight = hears_of }) (subst (IsLockedStripe table config) stripe_now meet_stripe) (subst (IsLockedClass table config) class_now meet_class).held
      (heard_class config own.sight lent.lock lent.class.number lent.class.history kept_of.held.lock_is)
      (heard_stripe lent.sight own.lock own.stripe.site.stripe own.stripe.history kept.lock_is)))
