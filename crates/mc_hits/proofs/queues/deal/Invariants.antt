use Rattle.std.proofs.Common.{◌≡◌, take}
use Rattle.mc_hits.proofs.DealLemmas.{half_dealt, fresh}
use Rattle.mc_hits.proofs.queues.deal.Given as goal

abbrev pub invariant-loop-queue : goal.invariant-loop-queue
invariant-loop-queue l = (l.dealers ≡ half_dealt l.caller l.queue l.queues) × (l.each.items ≡ take l.queue (fresh l.caller l.queues))
