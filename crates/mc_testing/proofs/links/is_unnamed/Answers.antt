use Rattle.std.proofs.Common.{◌≡◌, ◌≢◌, Some, ℕ, zero, suc, ◌<◌, ◌≤◌, List, [], ◌∷◌, length, refl, arith}
use Rattle.std.specs.List.{slice_get}
use Rattle.mc_item.specs.Stripe.{IsUnnamed, link_named}
use Rattle.mc_item.specs.declared.{item.Link.Link, stripe_event.StripeEvent.StripeEvent}
use Rattle.mc_testing.proofs.links.is_unnamed.Goals as goal

none_gives : (link : Link) (es : List StripeEvent) (n : ℕ) → length es ≤ n → ((i : ℕ) (e : StripeEvent) → i < n → slice_get es i ≡ Some e → link_named e ≢ Some link) → IsUnnamed link es
none_gives link [] n all none = tt
none_gives link (e ∷ es) zero all none = absurd (omega (arith, all))
none_gives link (e ∷ es) (suc n) all none = (none 0 e (omega arith) refl, none_gives link es n (omega (arith, all)) (λ i x before at. none (suc i) x (omega (arith, before)) at))

pub returns : goal.returns
returns c = λ _. none_gives c.args.link c.args.events.now.items c.loop-place.place (omega (arith, c.loop-place-test.false, c.len-place-end.ensures)) c.loop-place.invariant
