use Rattle.std.proofs.Common.{[], sym, ap, subst, ◌∙◌}
use Rattle.std.specs.List.{All}
use Rattle.mc_hits.specs.Rule.{IsBefore}
use Rattle.mc_hits.specs.Views.{HandsView, HandView, hits_at}
use Rattle.mc_hits.proofs.HandsLemmas.{below_hands, same_table, map_at, offered}
use Rattle.mc_hits.proofs.BeforeLemmas.{before_offered}
use Rattle.mc_hits.proofs.queues.Queues.offer.Goals as goal

pub offer-requires-clause-queue : goal.offer-requires-clause-queue
offer-requires-clause-queue g c =
    same_table c.hands.inside.caller c.args.queue c.hands.inside.each.items c.self.inside.each.items c.args.hands.now c.args.self.now
    c.hands.view_is c.self.view_is c.requires.hands c.requires.queue c.index_mut.result.now c.index.result.now c.index_mut.ensures.value c.index.ensures

pub offer-requires-clause-turn : goal.offer-requires-clause-turn
offer-requires-clause-turn g c =
    let xs = c.hands.inside.each.items in
    let below = below_hands c.hands.inside.caller c.args.queue xs c.self.inside.each.items c.args.hands.now c.args.self.now c.hands.view_is c.self.view_is c.requires.hands c.requires.queue in
    subst (All (IsBefore c.args.turn))
    (ap (λ (h : HandsView). hits_at h.offers c.args.queue) (sym c.hands.view_is) ∙ map_at (λ (h : HandView). h.offers) xs c.args.queue c.index_mut.result.now [] below c.index_mut.ensures.value)
    c.requires.turn

pub returns : goal.returns
returns g c =
    let xs = c.hands.inside.each.items in
    let below = below_hands c.hands.inside.caller c.args.queue xs c.self.inside.each.items c.args.hands.now c.args.self.now c.hands.view_is c.self.view_is c.requires.hands c.requires.queue in
    let hands = offered c.hands.inside.caller c.args.queue xs c.index_mut.result.now c.offer.new.hand below c.index_mut.ensures.value
    c.args.hands.now c.args.turn c.args.number c.offer.result c.hands.view_is
    (ap (λ (h : HandView). h.caller) c.index_mut.ensures.value ∙ c.hands.invariant c.args.queue c.index_mut.result.now below) c.offer.ensures.hand in
    record { hands = hands; before = λ bound later was. before_offered c.offer.result c.args.hands.now _ c.args.queue c.args.turn c.args.number bound hands later was }
