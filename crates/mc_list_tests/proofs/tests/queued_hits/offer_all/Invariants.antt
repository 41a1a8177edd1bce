use Rattle.std.proofs.Common.{◌≡◌, ◌≤◌}
use Rattle.mc_hits.specs.Rule.{AreBefore}
use Rattle.mc_list_tests.proofs.tests.queued_hits.offer_all.Given as goal

abbrev pub invariant-loop-turn : goal.invariant-loop-turn
invariant-loop-turn g l =
    AreBefore l.turn l.hands.offers × (l.hands.tables ≡ l.fn.hands.tables) × (l.told ≤ l.turn)
