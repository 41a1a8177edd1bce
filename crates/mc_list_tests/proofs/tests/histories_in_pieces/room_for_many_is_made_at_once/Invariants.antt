use Rattle.std.proofs.Common.{◌+◌, ◌≤◌}
use Rattle.mc_list_tests.proofs.tests.histories_in_pieces.room_for_many_is_made_at_once.Given as goal

-- there is room for the events that are still to come
abbrev pub invariant-loop-number : goal.invariant-loop-number
invariant-loop-number g l = 9095 ≤ l.number + l.history.room
