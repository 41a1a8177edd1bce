use Rattle.mc_proto.proofs.ScriptCutLemmas.{scripts_once}
use Rattle.mc_proto.proofs.laws.one_splitting.Goals as goal

pub returns : goal.returns
returns c = scripts_once
