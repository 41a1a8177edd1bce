use Rattle.std.proofs.Common.{◌≡◌, ◌+◌, ◌<◌, ◌++◌, ◌∷◌, [], length, take, set, get_or, sym, ap, subst, ◌∙◌, arith}
use Rattle.std.proofs.lemmas.List.Elements.{All-same, All-take}
use Rattle.mc_hits.specs.Views.{DealerView, HandView, dealer_at, untouched_hand, hands_of}
use Rattle.mc_hits.proofs.DealLemmas.{half_dealt, half_dealt-at, half_dealt-more, half_dealt-all, fresh, fresh_own, fresh_more, fresh_all, fresh_hands}
use Rattle.mc_hits.proofs.queues.deal.Goals as goal

pub deal-hand-requires-clause-queue : goal.deal-hand-requires-clause-queue
deal-hand-requires-clause-queue c =
    let d = c.index-dealers-queue.result in
    ap (λ (x : DealerView). x.table) (ap (λ l. get_or l c.loop-queue.queue d) c.loop-queue.invariant.0
    ∙ half_dealt-at c.args.caller c.loop-queue.queue c.args.queues.now d c.index-queues-queue.result c.loop-queue-test.true c.index-queues-queue.is)

pub deal-hand-requires-clause-more : goal.deal-hand-requires-clause-more
deal-hand-requires-clause-more c =
    let d = c.index-dealers-queue.result in
    let is = ap (λ (x : DealerView). x.given) (ap (λ l. get_or l c.loop-queue.queue d) c.loop-queue.invariant.0
    ∙ half_dealt-at c.args.caller c.loop-queue.queue c.args.queues.now d c.index-queues-queue.result c.loop-queue-test.true c.index-queues-queue.is) in
    subst (λ n. n + 1 < 4294967296) (sym is) c.requires.more

pub loop-queue-preserved : goal.loop-queue-preserved
loop-queue-preserved c =
    let d = c.index-dealers-queue.result in
    let q = c.index-queues-queue.result in
    let k = c.loop-queue.queue in
    let was : get_or c.loop-queue.dealers k d ≡ dealer_at c.args.caller q =
    ap (λ l. get_or l k d) c.loop-queue.invariant.0
    ∙ half_dealt-at c.args.caller k c.args.queues.now d q c.loop-queue-test.true c.index-queues-queue.is in
    let now : c.deal-hand.new.self ≡ dealer_at (c.args.caller + 1) q =
    c.deal-hand.ensures.given ∙ ap (λ (x : DealerView). record x { given = x.given + 1 }) was in
    let hand = c.deal-hand.ensures.hand ∙ ap (λ (x : DealerView). untouched_hand x.table x.given) was in (
      ap (λ (x : DealerView). set c.loop-queue.dealers k x) now
          ∙ (ap (λ l. set l k (dealer_at (c.args.caller + 1) q)) c.loop-queue.invariant.0
          ∙ half_dealt-more c.args.caller k c.args.queues.now q c.index-queues-queue.is),
      c.in_ok-push.ensures.items
          ∙ (ap (λ l. l ++ c.deal-hand.result ∷ []) c.loop-queue.invariant.1
          ∙ fresh_more c.args.caller k c.args.queues.now q c.deal-hand.result c.loop-queue-test.true c.index-queues-queue.is hand),
    )

pub invariant_of-result : goal.invariant_of-result
invariant_of-result c =
    All-same (λ (h : HandView). h.caller ≡ c.args.caller) c.loop-queue.each.items (take c.loop-queue.queue (fresh c.args.caller c.args.queues.now)) c.loop-queue.invariant.1
    (All-take (λ (h : HandView). h.caller ≡ c.args.caller) c.loop-queue.queue (fresh c.args.caller c.args.queues.now) (fresh_own c.args.caller c.args.queues.now))

pub returns-clause-given : goal.returns-clause-given
returns-clause-given c =
    let end : c.loop-queue.queue ≡ length c.args.queues.now = omega (arith, c.loop-queue-test.false, c.loop-queue.auto.queue-end) in
    c.loop-queue.invariant.0 ∙ (ap (λ n. half_dealt c.args.caller n c.args.queues.now) end ∙ half_dealt-all c.args.caller c.args.queues.now)

pub returns-clause-hands : goal.returns-clause-hands
returns-clause-hands c =
    let end : c.loop-queue.queue ≡ length c.args.queues.now = omega (arith, c.loop-queue-test.false, c.loop-queue.auto.queue-end) in
    ap (λ l. hands_of c.args.caller l) (c.loop-queue.invariant.1 ∙ fresh_all c.args.caller c.loop-queue.queue c.args.queues.now end)
    ∙ fresh_hands c.args.caller c.args.queues.now
