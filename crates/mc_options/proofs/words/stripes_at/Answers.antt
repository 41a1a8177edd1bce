use Rattle.std.proofs.Common.{arith}
use Rattle.mc_options.proofs.ReadingLemmas.{number_read}
use Rattle.mc_options.proofs.words.stripes_at.Goals as goal

pub returns : goal.returns
returns c = number_read 32 (omega arith) (omega arith) _ c.get_one.result c.get_one.ensures.none c.get_one.ensures.value
