use Rattle.std.proofs.Common.{◌≡◌, ◌≢◌, Some, ℕ, ◌<◌}
use Rattle.std.specs.List.{slice_get}
use Rattle.mc_item.specs.Stripe.{link_named}
use Rattle.mc_item.specs.declared.stripe_event.StripeEvent.{StripeEvent}
use Rattle.mc_testing.proofs.links.is_unnamed.Given as goal

-- no event before the place gives the link
abbrev pub invariant-loop-place : goal.invariant-loop-place
invariant-loop-place l = (i : ℕ) (e : StripeEvent) → i < l.place → slice_get l.events.items i ≡ Some e → link_named e ≢ Some l.link
