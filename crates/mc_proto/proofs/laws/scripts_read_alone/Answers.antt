use Rattle.mc_proto.proofs.ScriptCutLemmas.{scripts_read}
use Rattle.mc_proto.proofs.laws.scripts_read_alone.Goals as goal

pub returns : goal.returns
returns c = scripts_read
