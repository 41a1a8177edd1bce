use Rattle.std.proofs.Common.{◌≡◌, ◌+◌, length}
use Rattle.mc_list_tests.proofs.tests.growing_histories.append_many.Given as goal

abbrev pub invariant-loop-i : goal.invariant-loop-i
invariant-loop-i g l = (l.owner.board ≡ l.fn.owner.board) × (l.owner.lock ≡ l.fn.owner.lock) × (length l.owner.history ≡ length l.fn.owner.history + l._i)
