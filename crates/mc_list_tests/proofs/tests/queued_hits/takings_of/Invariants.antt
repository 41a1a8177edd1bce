use Rattle.std.proofs.Common.{◌≡◌, ◌≤◌}
use Rattle.mc_list_tests.proofs.tests.queued_hits.takings_of.Given as goal

abbrev pub invariant-loop-place : goal.invariant-loop-place
invariant-loop-place g l =
    (l.hands.tables ≡ l.fn.hands.tables) × (l.same ≤ l.place)
