use Rattle.mc_proto.proofs.KeptRestLemmas.{after_reads}
use Rattle.mc_proto.proofs.laws.after_is_reading.Goals as goal

pub returns : goal.returns
returns c = after_reads
