use Rattle.std.proofs.Common.{◌<◌, ◌++◌, ◌∷◌, [], length, ap, ◌∙◌, sym, List, subst, arith}
use Rattle.std.specs.Prelude.{nat_eq}
use Rattle.std.specs.{Cmp.Lexicographic.pointwise, HashMap.get}
use Rattle.mc_item.specs.Stripe.{MayLose}
use Rattle.mc_item.specs.declared.stripe_event.StripeEvent.{StripeEvent}
use Rattle.mc_item.specs.declared.stripe_event.StripeEvent.TheVariants as events
use Rattle.mc_stripe.specs.StripeState.{Stripe, cache_now}
use Rattle.mc_stripe.proofs.StateLemmas.{lost_kept}
use Rattle.mc_stripe.proofs.state.StripeState.lose.Goals as goal

pub invariant_of-self-2 : goal.invariant_of-self-2
invariant_of-self-2 c =
    let few : length c.self.inside.history.items < c.self.inside.limit = omega (arith, rw c.if-is_full.false at c.is_full.ensures) in
    let may = subst (λ (s : Stripe). MayLose ((cache_now s).items c.args.key) c.args.cause) (sym c.self.view_is) c.requires in
    lost_kept c.self.inside.site c.self.inside.limit c.self.inside.history.items c.push_event.new.history.items c.self.inside.versions
    (get (pointwise nat_eq) c.self.inside.items) (get (pointwise nat_eq) c.remove.new.items)
    (record { who = c.args.who; key = c.args.key; cause = c.args.cause })
    c.self.invariant few may c.remove.ensures.items
    (c.push_event.ensures.items ∙ ap (λ (h : List StripeEvent). h ++ events.Lost (record { who = c.args.who; key = c.args.key; cause = c.args.cause }) ∷ []) c.reserve.ensures.items)
