use Rattle.mc_laws.proofs.NumeralLemmas.{down_again}
use Rattle.mc_laws.proofs.counting.incr_then_decr_gives_the_number_back.Goals as goal

pub returns : goal.returns
returns c = down_again
