-- One command under locks: what it leaves of its stripe (own).
use Rattle.std.specs.Prelude.{◌≡◌, ◌++◌, IfSome, [], ◌∷◌}
use Rattle.mc_stripe.specs.{Plan.Wakes, StripeState.Stripe}
use Rattle.mc_pull.specs.{Perform.Call, Perform.answer_to, Perform.item_before, Performed.did_event}
use Rattle.mc_pull.specs.declared.attempting.Replied.{Replied}

-- a command was made on its stripe: the history gained its event, this is its reply, and if it woke an item, this is the item's link
pub record IsMadeOnStripe (s s_new : Stripe) (c : Call) (replied : Replied) : Type 0 where
  pub reply_is : replied.reply ≡ (answer_to s c).reply
  pub woken : IfSome replied.woken (Wakes (item_before s c) (answer_to s c).change)
  pub history_is : s_new.history ≡ s.history ++ did_event s c ∷ []
