use Rattle.std.proofs.Common.{◌∷◌, [], ◌∙◌, List, length, map, sym, ap, subst, arith, length-append}
use Rattle.std.proofs.lemmas.List.{map-append}
use Rattle.mc_item.specs.declared.{event.Event.Event, stripe_event.StripeEvent.StripeEvent}
use Rattle.mc_item.specs.declared.event.Event.TheVariants.{Stripe}
use Rattle.mc_board.specs.Accounts.{maker_in, AreBy}
use Rattle.mc_board.proofs.{AccountLemmas.are_by_push, FigureLemmas.class_events-stripe}
use Rattle.mc_list_tests.proofs.tests.growing_histories.cooled.Goals as goal

pub loop-i-preserved : goal.loop-i-preserved
loop-i-preserved g c =
    let items = c.loop-i.events.items in
    let event = c.of-in-loop-i.result.value in
    let pushed = c.push_reserved.ensures.items in
    let maker = ap (λ (e : StripeEvent). maker_in (Stripe e)) c.of-in-loop-i.ensures in (
      omega (arith, ap length pushed, length-append items (event ∷ []), c.loop-i.invariant.0),
      omega (arith, c.push_reserved.ensures.room, c.loop-i.invariant.1),
      c.push_reserved.ensures.kept ∙ c.loop-i.invariant.2,
      subst (λ (h : List Event). AreBy c.args.who h) (sym (ap (λ (h : List StripeEvent). map Stripe h) pushed ∙ map-append Stripe items (event ∷ [])))
          (are_by_push c.args.who (map Stripe items) (Stripe event) c.loop-i.invariant.3 maker),
    )

pub returns-clause-plain : goal.returns-clause-plain
returns-clause-plain g c = class_events-stripe c.loop-i.events.items
