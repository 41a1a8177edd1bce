use Rattle.std.proofs.Common.{◌≡◌}
use Rattle.mc_hits.specs.Views.{tables_of, dealers_at, AreHands}
use Rattle.mc_hits.proofs.queues.Queues.open.Given as goal

abbrev pub invariant-loop-caller : goal.invariant-loop-caller
invariant-loop-caller l =
    (l.dealers.items ≡ dealers_at l.caller l.each.items) × AreHands (tables_of l.each.items) l.caller l.all.items
