use Rattle.mc_proto.proofs.StreamLemmas.{reading_on}
use Rattle.mc_proto.proofs.laws.reading_goes_on.Goals as goal

pub returns : goal.returns
returns c = reading_on
