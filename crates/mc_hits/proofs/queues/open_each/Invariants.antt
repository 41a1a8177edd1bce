use Rattle.std.proofs.Common.{◌≡◌, length}
use Rattle.std.specs.List.{All}
use Rattle.mc_hits.specs.Views.{HasRoom, dealers_at}
use Rattle.mc_hits.proofs.queues.open_each.Given as goal

abbrev pub invariant-loop-queue : goal.invariant-loop-queue
invariant-loop-queue l =
    (length l.each.items ≡ l._queue) × All (HasRoom l.fn.room) l.each.items × (l.dealers.items ≡ dealers_at 0 l.each.items)
