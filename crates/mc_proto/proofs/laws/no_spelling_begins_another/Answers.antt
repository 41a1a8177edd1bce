use Rattle.mc_proto.proofs.SpellingLemmas.{begins_no_other}
use Rattle.mc_proto.proofs.laws.no_spelling_begins_another.Goals as goal

pub returns : goal.returns
returns c = begins_no_other
