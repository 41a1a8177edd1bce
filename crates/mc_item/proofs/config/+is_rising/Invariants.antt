use Rattle.std.proofs.Common.{length}
use Rattle.mc_item.proofs.config.+is_rising.Given as goal

abbrev pub decreases-is_rising : goal.decreases-is_rising
decreases-is_rising l = length l.numbers.now
