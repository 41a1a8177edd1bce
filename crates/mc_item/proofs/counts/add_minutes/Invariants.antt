use Rattle.std.proofs.Common.{◌≡◌}
use Rattle.mc_item.proofs.CountsLemmas.{summed}
use Rattle.mc_item.proofs.counts.add_minutes.Given as goal

abbrev pub invariant-loop-i : goal.invariant-loop-i
invariant-loop-i l = l.minutes ≡ summed l.i l.fn.minutes l.others
