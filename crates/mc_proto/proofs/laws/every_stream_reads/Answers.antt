use Rattle.mc_proto.proofs.StreamLemmas.{stream_reads}
use Rattle.mc_proto.proofs.laws.every_stream_reads.Goals as goal

pub returns : goal.returns
returns c = stream_reads
