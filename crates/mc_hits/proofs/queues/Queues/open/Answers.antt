use Rattle.std.proofs.Common.{◌≡◌, ◌+◌, length, sym, ap, subst, ◌∙◌, arith}
use Rattle.std.proofs.lemmas.List.{length-map, with_items_is}
use Rattle.mc_hits.specs.Views.{tables_of, dealer_at, dealers_at, untouched_hands, AreHands}
use Rattle.mc_hits.proofs.DealLemmas.{hands_more}
use Rattle.mc_hits.proofs.queues.Queues.open.Goals as goal

pub loop-caller-preserved : goal.loop-caller-preserved
loop-caller-preserved c =
    let each = c.in_ok-each.each.items in
    let caller = c.loop-caller.caller in
    let given : c.deal.new.dealers ≡ dealers_at (caller + 1) each = c.in_ok-hands.ensures.given ∙ ap (dealers_at (caller + 1)) c.as_slice.ensures.value in
    let long : length c.deal.new.dealers ≡ c.loop-caller.dealers.len =
    omega (arith, ap length given, length-map each (dealer_at (caller + 1)), ap length c.loop-caller.invariant.0, length-map each (dealer_at caller), c.loop-caller.dealers.ok.0) in
    let hands : c.in_ok-hands.hands ≡ untouched_hands (tables_of each) caller =
    c.in_ok-hands.ensures.hands ∙ ap (λ l. untouched_hands (tables_of l) caller) c.as_slice.ensures.value in (
      with_items_is c.loop-caller.dealers c.deal.new.dealers long ∙ given,
      subst (λ l. AreHands (tables_of each) (caller + 1) l) (sym c.in_ok-push.ensures.items)
          (hands_more (tables_of each) caller c.loop-caller.all.items c.in_ok-hands.hands c.loop-caller.invariant.1 hands),
    )
