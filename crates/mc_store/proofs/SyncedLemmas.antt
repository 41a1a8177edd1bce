-- What a stripe and a class are once one was told the other's history behind a step.
use Rattle.std.proofs.Common.{◌≡◌, ap, ◌∙◌, subst}
use Rattle.mc_board.specs.{Histories.Grows, Histories.with_seen, Views.OwnerView, Views.SeenView}
use Rattle.mc_segment.specs.ClassState.{ClassView}
use Rattle.mc_stripe.specs.StripeState.{Stripe}
use Rattle.mc_store.specs.Sides.{ClassSide, StripeSide, class_told, stripe_told}

-- a stripe with the tokens that are apart from it
abbrev pub stripe_side : OwnerView → SeenView → Stripe → StripeSide
stripe_side owner seen s = record { board = owner.board; lock = owner.lock; stripe = s; sight = seen.sight }

-- a stripe that stepped is told a class's history
module _ (own own_mid own_first : StripeSide) (s_new : Stripe) (lent lent_mid : ClassSide) (w : ClassView) (mid : own_mid ≡ record own { stripe = s_new }) (mid_of : lent_mid ≡ record lent { class = w })
    (told : own_first ≡ record own_mid { sight = with_seen own_mid.sight lent_mid.lock (class_told lent_mid.class.history) }) where
  pub own_said : own_first ≡ record own { stripe = s_new; sight = with_seen own.sight lent.lock (class_told w.history) }
  own_said =
      told ∙ (ap (λ (x : StripeSide). record x { sight = with_seen x.sight lent_mid.lock (class_told lent_mid.class.history) }) mid
      ∙ ap (λ (y : ClassSide). record own { stripe = s_new; sight = with_seen own.sight y.lock (class_told y.class.history) }) mid_of)

  pub own_more : Grows own_mid.sight own_first.sight → Grows own.sight (with_seen own.sight lent.lock (class_told w.history))
  own_more more = subst (λ (x : StripeSide). Grows own.sight x.sight) own_said (subst (λ (x : StripeSide). Grows x.sight own_first.sight) mid more)

-- a class that stepped is told a stripe's history
module _ (lent lent_mid lent_new : ClassSide) (w : ClassView) (own own_end : StripeSide) (mid_of : lent_mid ≡ record lent { class = w }) (said : own ≡ own_end)
    (told_of : lent_new ≡ record lent_mid { sight = with_seen lent_mid.sight own.lock (stripe_told own.stripe.history) }) where
  pub lent_said : lent_new ≡ record lent { class = w; sight = with_seen lent.sight own_end.lock (stripe_told own_end.stripe.history) }
  lent_said =
      told_of ∙ (ap (λ (x : ClassSide). record x { sight = with_seen x.sight own.lock (stripe_told own.stripe.history) }) mid_of
      ∙ ap (λ (y : StripeSide). record lent { class = w; sight = with_seen lent.sight y.lock (stripe_told y.stripe.history) }) said)

  pub lent_more : Grows lent_mid.sight lent_new.sight → Grows lent.sight (with_seen lent.sight own_end.lock (stripe_told own_end.stripe.history))
  lent_more more = subst (λ (x : ClassSide). Grows lent.sight x.sight) lent_said (subst (λ (x : ClassSide). Grows x.sight lent_new.sight) mid_of more)
