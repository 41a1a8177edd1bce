use Rattle.mc_proto.proofs.SpellingLemmas.{reads_once}
use Rattle.mc_proto.proofs.laws.one_reading.Goals as goal

pub returns : goal.returns
returns c = reads_once
